-- The working columns of a cleaning after its first sweep, and what is known of them when a result is written.
use Rattle.std.specs.Prelude.{◌≡◌, List, map, ◌++◌, ℕ, ◌≤◌, length, take}
use Rattle.meaning.specs.Rows.{Tables, node_table, tables}
use Rattle.meaning.specs.Columns.{edges_in, sites_in, mutations_in, tables_in}
use Rattle.meaning.specs.declared.columns.Tables as columns
use Rattle.meaning.specs.Answer.{limits}
use Rattle.meaning.specs.Clean.{row_in, no_row}
use Rattle.byrows.specs.Rows.{all_rows, sample_rows}
use Rattle.byrows.specs.Ground.{Ground}
use Rattle.byrows.specs.Kept.{Others}
use Rattle.tree.specs.TreeAt.{Flags}
use Rattle.placing.specs.Placing.{Moves}
use Rattle.runs.specs.Runs.{Store}
use Rattle.sweep.specs.Columns.{Input}
use Rattle.sweep.specs.Sweeping.{Done}
use Rattle.sweep.specs.Met.{input_of}
use Rattle.cleaner.specs.Sweeping.{Sweepable}
use Rattle.cleaner.specs.declared.first.FirstSweep.{FirstSweep}

-- the tables with their populations, which stand in a column beside
abbrev pub whole_in : columns.Tables → List ℕ → Tables
whole_in t population = tables (node_table t.ages.time.now t.ages.birth.now population) (edges_in t.edges) (sites_in t.sites) (mutations_in t.mutations)

-- the rows kept and their number, every row's place, the samples' marks, both orders of the edges, and what the first sweep stored
pub record Work : Type 0 where
  pub kept : List ℕ
  pub nodes : ℕ
  pub places : List ℕ
  pub sample : List ℕ
  pub by_left : List ℕ
  pub by_right : List ℕ
  pub store : Store
  pub moves : Moves

-- what a sweep of the tables reads
abbrev pub input_in : Tables → Work → Input
input_in T W = input_of T (take (length T.nodes.time) W.sample) (take (length T.edges.left) W.by_left) (take (length T.edges.left) W.by_right)

-- the store with the marks of n rows
abbrev pub store_of : ℕ → Store → Store
store_of n D = record { left = D.left; right = D.right; parent = D.parent; child = D.child; stood = take n D.stood; count = D.count }

-- the same, where marks and orders stand at the fronts of longer columns
abbrev pub fronts_in : columns.Tables → List ℕ → List ℕ → List ℕ → Input
fronts_in t sample by_left by_right = input_of (tables_in t) (take (length t.ages.time.now) sample) (take (length t.edges.left.now) by_left) (take (length t.edges.left.now) by_right)

-- what the first sweep stored, with its marks on rows, and what it moved
abbrev pub store_in : FirstSweep → List ℕ → Store
store_in f stood = record { left = f.edges.left.now; right = f.edges.right.now; parent = f.edges.parent.now; child = f.edges.child.now; stood = stood; count = f.made }

abbrev pub moves_in : FirstSweep → Moves
moves_in f = record { row = f.row.now; low = f.low.now; count = f.moved }

-- the working columns are long enough
pub record Long (T : Tables) (W : Work) : Type 0 where
  pub kept : length W.kept ≤ no_row
  pub places : length W.places ≡ limits.nodes
  pub sample : length W.sample ≡ limits.nodes
  pub stood : length W.store.stood ≡ limits.nodes
  pub lefts : length W.by_left ≡ limits.edges
  pub rights : length W.by_right ≡ limits.edges
  pub right : length W.store.right ≡ length W.store.left
  pub parent : length W.store.parent ≡ length W.store.left
  pub child : length W.store.child ≡ length W.store.left
  pub even : length W.moves.low ≡ length W.moves.row

-- the first sweep was made, the rows kept and their places are known, and a sweep may be made again
pub record Ready (L : ℕ) (T : Tables) (S : List ℕ) (W : Work) : Type 0 where
  pub footing : Ground limits L T S
  pub long : Long T W
  pub sweepable : Sweepable L (input_in T W)
  pub flags : Flags (take (length T.nodes.time) W.sample) (sample_rows T.nodes.birth S) (length T.nodes.time)
  pub stored : Store
  pub moved : Moves
  pub swept : Done L (input_in T W) (sample_rows T.nodes.birth S) stored moved (store_of (length T.nodes.time) W.store) W.moves
  pub others : List ℕ
  pub known : Others limits L T S footing others
  pub kept_long : W.nodes ≤ length W.kept
  pub kept_is : take W.nodes W.kept ≡ sample_rows T.nodes.birth S ++ others
  pub placed : take (length T.nodes.birth) W.places ≡ map (row_in (sample_rows T.nodes.birth S ++ others)) (all_rows (length T.nodes.birth))
