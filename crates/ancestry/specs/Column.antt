-- What the lookup asks of nodes and edges, and the measure of every way upwards.
use Rattle.std.specs.Prelude.{List, ℕ, ◌<◌, ltb, length}
use Rattle.meaning.specs.Words.{at, count, rows}
use Rattle.meaning.specs.Rows.{EdgeColumns}
use Rattle.meaning.specs.Even.{EvenEdges}

-- the number of rows older than row u
unfoldable pub older : List ℕ → ℕ → ℕ
unfolding count rows
older time u = count (λ v. ltb (at time u) (at time v)) (rows (λ v. v) (length time))

-- what 1 and 5 find of the edges: the rows named exist, and the parent is older than the child
pub record Rising (time : List ℕ) (E : EdgeColumns) : Type 0 where
  pub even : EvenEdges E
  pub parent_row : (e : ℕ) → e < length E.left → at E.parent e < length time
  pub child_row-is : (e : ℕ) → e < length E.left → at E.child e < length time
  pub age : (e : ℕ) → e < length E.left → at time (at E.child e) < at time (at E.parent e)
