-- The first marked row at or above a node row, how far that holds, and the state that the node carries by it.
use Rattle.std.specs.Prelude.{◌≡◌, Option, Some, None, List, ℕ, ◌<◌, ◌≤◌, length}
use Rattle.std.proofs.Math.Option.{none, some}
use Rattle.std.proofs.Math.Option.{Option as Near}
use Rattle.meaning.specs.Words.{at}
use Rattle.meaning.specs.Rows.{EdgeColumns, Tables}
use Rattle.meaning.specs.Forest.{Ages, near}
use Rattle.meaning.specs.Answer.{limits}
use Rattle.bridge.specs.Parents.{parent_row}
use Rattle.bridge.specs.Columns.{Apart}
use Rattle.rules.specs.ByChild.{ByChild}
use Rattle.ancestry.specs.Column.{older, Rising}
use Rattle.ancestry.specs.Index.{Whole}
use Rattle.ancestry.specs.Stretch.{near_until}
use Rattle.alleles.specs.declared.Carrier.{Carrier}
use Rattle.missing.specs.Marks.{marked, Naming}

-- the row that a way comes to, as the code answers it
unfoldable pub row_in : Near ℕ → Option ℕ
row_in none = None
row_in (some w) = Some w

-- r is the first marked row at or above u at x, where there is one, and how far that way holds: any number of steps that is enough tells it
pub record CarrierAt (time : List ℕ) (E : EdgeColumns) (L x : ℕ) (has : List ℕ) (u : ℕ) (r : Carrier) : Type 0 where
  pub found : (k : ℕ) → older time u < k → r.row ≡ row_in (near (parent_row E x) (marked has) k u)
  pub until : (k : ℕ) → older time u < k → r.end ≡ near_until E L x (marked has) k u

-- the state of the first marked row at or above u at x, or the other where there is none
unfoldable pub carried_by : EdgeColumns → ℕ → List ℕ → List ℕ → ℕ → ℕ → ℕ
carried_by E x has state other u = elim (near (parent_row E x) (marked has) Ages u) [ none ↦ other | some w ↦ at state w ]

-- what the rules 1, 2, 4, 5, 7 and 9 find of tables, as far as an allele is read by it, with the order in which 7 looks at the edges
pub record Readable (L : ℕ) (T : Tables) (by : List ℕ) : Type 0 where
  pub few : length T.nodes.time ≤ limits.nodes
  pub few_edges : length T.edges.left ≤ limits.edges
  pub births_long : length T.nodes.birth ≡ length T.nodes.time
  pub once : Apart T.nodes.birth
  pub rising : Rising T.nodes.time T.edges
  pub whole : Whole T.edges L
  pub order : ByChild T.edges by
  pub states_long : length T.sites.ancestral ≡ length T.sites.position
  pub naming : Naming T.muts (length T.nodes.time)
