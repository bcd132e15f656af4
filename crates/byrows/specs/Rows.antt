-- Cleaning said by rows: the forest of rows at a position, what stands, up and low, the rows kept, and the rows' order.
use Rattle.std.specs.Prelude.{Bool, true, false, List, [], ◌∷◌, ◌++◌, map, ℕ}
use Rattle.std.proofs.Math.Option.{Option, none, some}
use Rattle.meaning.specs.Words.{at, rows, lex, index_of}
use Rattle.meaning.specs.Rows.{NodeColumns, EdgeColumns, Edge}
use Rattle.meaning.specs.Forest.{Par, Ages, reached, stands, low, drawn}
use Rattle.bridge.specs.Parents.{parent_row}

-- the rows of n nodes
unfoldable pub all_rows : ℕ → List ℕ
unfolding rows
all_rows n = rows (λ i. i) n

-- the row of each sample
unfoldable pub sample_rows : List ℕ → List ℕ → List ℕ
unfolding index_of
sample_rows birth S = map (λ b. index_of b birth) S

-- S are rows from here on

unfoldable pub reached_row : EdgeColumns → List ℕ → ℕ → ℕ → Bool
unfolding reached parent_row
reached_row E S x u = reached (parent_row E x) S u

unfoldable pub stands_row : EdgeColumns → ℕ → List ℕ → ℕ → ℕ → Bool
unfolding stands parent_row all_rows
stands_row E n S x u = stands (all_rows n) (parent_row E x) S u

-- the output parent of a standing row
unfoldable pub up_row : EdgeColumns → ℕ → List ℕ → ℕ → Par
unfolding drawn parent_row stands_row
up_row E n S x = drawn (parent_row E x) (stands_row E n S x)

-- the nearest standing row at or below a reached one
unfoldable pub low_row : EdgeColumns → ℕ → List ℕ → ℕ → ℕ → Option ℕ
unfolding low parent_row reached_row stands_row all_rows
low_row E n S x u = low (all_rows n) (parent_row E x) (reached_row E S x) (stands_row E n S x) Ages u

-- rows by (time, birth)
unfoldable pub before_row : NodeColumns → ℕ → ℕ → Bool
unfolding lex
before_row N a b = lex (at N.time a ∷ at N.birth a ∷ []) (at N.time b ∷ at N.birth b ∷ [])

-- the edge key of an edge between rows
unfoldable pub row_key : NodeColumns → Edge → List ℕ
row_key N e = at N.time e.parent ∷ at N.birth e.parent ∷ at N.birth e.child ∷ e.left ∷ []
