-- What the columns mean: the forest at a position, what is reached, what stands and the nearest standing row above, by the definitions.
use Rattle.std.specs.Prelude.{◌≡◌, refl, Bool, true, List, ℕ, ◌<◌, get_or, Some, None, unwrap_or}
use Rattle.std.specs.Prelude as std
use Rattle.std.proofs.Math.Option.{Option, none, some}
use Rattle.meaning.specs.Words.{mem, rows}
use Rattle.meaning.specs.Rows.{EdgeColumns}
use Rattle.meaning.specs.Forest as def
use Rattle.meaning.specs.Forest.{drawn}
use Rattle.bridge.specs.Parents.{code, no_row, parent_row}
use Rattle.mend.specs.Right.{live, stands}
use Rattle.mend.specs.Line.{par_of}

-- the edges' columns as the definitions take them
abbrev pub columns : List ℕ → List ℕ → List ℕ → List ℕ → EdgeColumns
columns l r pa ch = record { left = l; right = r; parent = pa; child = ch }

-- the node rows
abbrev pub node_rows : ℕ → List ℕ
node_rows n = rows (λ i. i) n

-- what stands at x for the samples Q
unfoldable pub stands_at : EdgeColumns → List ℕ → ℕ → ℕ → ℕ → Bool
unfolding parent_row def.stands rows
stands_at E Q n x = def.stands (node_rows n) (parent_row E x) Q

-- the column S is above 0 at the rows of Q, which are below n, and only there
pub record Flags (S Q : List ℕ) (n : ℕ) : Type 0 where
  pub set : (s : ℕ) → mem s Q ≡ true → (s < n) × (0 < get_or S s 0)
  pub only : (s : ℕ) → s < n → 0 < get_or S s 0 → mem s Q ≡ true

-- the columns of samples S, parents P, counts C and nearest standing rows U are those of the tree at x
pub record TreeAt (E : EdgeColumns) (Q : List ℕ) (n x : ℕ) (S P C U : List ℕ) : Type 0 where
  pub forest : par_of P ≡ parent_row E x
  pub parents : P ≡ rows (λ u. code (parent_row E x u)) n
  pub reaches : (u : ℕ) → u < n → live S C u ≡ def.reached (parent_row E x) Q u
  pub stood : (u : ℕ) → u < n → stands S C u ≡ stands_at E Q n x u
  pub ups : U ≡ rows (λ u. code (drawn (parent_row E x) (stands_at E Q n x) u)) n

-- the nearest standing row at or below u at x, or none where u is not reached
unfoldable pub low_at : EdgeColumns → List ℕ → ℕ → ℕ → ℕ → Option ℕ
unfolding parent_row stands_at rows def.low def.reached
low_at E Q n x u = def.low (node_rows n) (parent_row E x) (def.reached (parent_row E x) Q) (stands_at E Q n x) def.Ages u

-- a row or none, as code has it
abbrev pub row_given : Option ℕ → std.Option ℕ
row_given none = None
row_given (some r) = Some r

-- and as a cell
pub given_cell : (o : Option ℕ) → unwrap_or (row_given o) no_row ≡ code o
unfolding code
given_cell none = refl
given_cell (some r) = refl
