-- The forest of node rows at a position, and a row or none as a cell: the one definition that the lookup, the kept tree and the runs are held to.
use Rattle.std.proofs.Math.Option.{Option, none, some}
use Rattle.std.specs.Prelude.{ℕ}
use Rattle.meaning.specs.Rows.{EdgeColumns, edges_of}
use Rattle.meaning.specs.Forest.{Par, parent_in}

-- the cell that means none: no node has this row
abbrev pub no_row : ℕ
no_row = 4294967295

-- a row or none, as a cell
unfoldable pub code : Option ℕ → ℕ
code none = no_row
code (some p) = p

-- the parent row of each row at x
unfoldable pub parent_row : EdgeColumns → ℕ → Par
unfolding parent_in edges_of
parent_row E x = parent_in (edges_of (λ r. r) E) x
