-- What the searches for broken rows ask of the columns that they read.
use Rattle.std.specs.Prelude.{ℕ, ◌<◌, length}
use Rattle.meaning.specs.Words.{at}
use Rattle.meaning.specs.Rows.{NodeColumns, EdgeColumns}

-- every edge row names node rows that exist
pub record NamedNodes (N : NodeColumns) (E : EdgeColumns) : Type 0 where
  pub parent_row : (i : ℕ) → i < length E.left → at E.parent i < length N.time
  pub child_row-is : (i : ℕ) → i < length E.left → at E.child i < length N.time
