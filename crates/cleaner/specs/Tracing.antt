-- What the stages before the writing ask and leave: the samples' rows and the sweep, the rows kept and their places.
use Rattle.std.specs.Prelude.{◌≡◌, List, map, ◌++◌, ℕ, ◌≤◌, length, take}
use Rattle.meaning.specs.Words.{mem, rows}
use Rattle.meaning.specs.Rows.{NodeColumns, EdgeColumns, node_table}
use Rattle.meaning.specs.Answer.{limits, put}
use Rattle.meaning.specs.Clean.{row_in}
use Rattle.order.specs.Counts.{bit}
use Rattle.byrows.specs.Rows.{all_rows}
use Rattle.byrows.specs.Ground.{Ground}
use Rattle.tree.specs.TreeAt.{Flags}
use Rattle.placing.specs.Placing.{Moves}
use Rattle.runs.specs.Runs.{Store}
use Rattle.sweep.specs.Columns.{Input}
use Rattle.sweep.specs.Sweeping.{Done}
use Rattle.keeping.specs.Others.{OthersListed}
use Rattle.cleaner.specs.Sweeping.{Sweepable}

-- tables that pass the check, without the populations and states, which no stage reads
pub record Passed (L : ℕ) (N : NodeColumns) (E : EdgeColumns) (position site node S : List ℕ) : Type 0 where
  pub population : List ℕ
  pub ancestral : List ℕ
  pub derived : List ℕ
  pub footing : Ground limits L (record { nodes = node_table N.time N.birth population; edges = E; sites = record { position = position; ancestral = ancestral }; muts = record { site = site; node = node; derived = derived } }) S

-- the samples' rows SR stand in front, each is marked, and a sweep over I, which could be made again, was made into D and M
pub record Traced (L : ℕ) (I : Input) (SR kept kept' : List ℕ) (D₀ D : Store) (M₀ M : Moves) : Type 0 where
  pub front : kept' ≡ put SR kept
  pub marks : I.sample ≡ rows (λ u. bit (mem u SR)) (length I.time)
  pub flags : Flags I.sample SR (length I.time)
  pub sweepable : Sweepable L I
  pub swept : Done L I SR D₀ M₀ D M

-- the others stand behind the first ns rows kept, k rows in all, and every row has its place among them
pub record KeptRows (N : NodeColumns) (sample stood : List ℕ) (ns : ℕ) (kept : List ℕ) (k : ℕ) (kept' places' : List ℕ) : Type 0 where
  pub behind : ns ≤ k
  pub long : k ≤ length kept'
  pub others : List ℕ
  pub front : take k kept' ≡ take ns kept ++ others
  pub count : ℕ
  pub old : List ℕ
  pub new : List ℕ
  pub those : others ≡ take count new
  pub listed : OthersListed N (take (length N.time) stood) (take (length N.time) sample) count old new
  pub places : take (length N.time) places' ≡ map (row_in (take k kept')) (all_rows (length N.time))
