-- Mutations get their nearest standing row, from a cursor on, up to the first whose site lies at or past a position; those that get one are
-- listed one after the other, while there are cells.
use Rattle.std.specs.Prelude.{◌≡◌, true, false, List, [], ◌∷◌, ◌++◌, ℕ, zero, suc, ◌<◌, ◌≤◌, eqb, length}
use Rattle.meaning.specs.Words.{at}
use Rattle.meaning.specs.Rows.{EdgeColumns}
use Rattle.bridge.specs.Parents.{code, no_row, parent_row}
use Rattle.mend.specs.Line.{par_of}
use Rattle.tree.specs.TreeAt.{Flags, low_at}

-- ---- the mutations that move

-- the row of each mutation that moves, the row where it goes, and how many there are
pub record Moves : Type 0 where
  pub row : List ℕ
  pub low : List ℕ
  pub count : ℕ

-- those of the first m mutations whose cell by f is a row, in row order
unfoldable pub movers : (ℕ → ℕ) → ℕ → List ℕ
movers f zero = []
movers f (suc m) = movers f m ++ elim (eqb (f m) no_row) [ true ↦ [] | false ↦ m ∷ [] ]

-- the columns hold what moves of the first m mutations, while they have cells, and its number
pub record Held (f : ℕ → ℕ) (m : ℕ) (W : Moves) : Type 0 where
  pub counted : W.count ≡ length (movers f m)
  pub rows : (j : ℕ) → j < W.count → j < length W.row → at W.row j ≡ at (movers f m) j
  pub lows : (j : ℕ) → j < W.count → j < length W.row → at W.low j ≡ f (at (movers f m) j)

-- more are listed, and no cell from the count on is written
pub record Beyond (W W' : Moves) : Type 0 where
  pub more : W.count ≤ W'.count
  pub rows_long : length W'.row ≡ length W.row
  pub lows_long : length W'.low ≡ length W.low
  pub rest : (j : ℕ) → W'.count ≤ j → (at W'.row j ≡ at W.row j) × (at W'.low j ≡ at W.low j)

-- mutation m, whose cell is w, is listed if w is a row
pub record Taken (m w : ℕ) (W W' : Moves) : Type 0 where
  pub beyond : Beyond W W'
  pub few : W'.count ≤ suc W.count
  pub holds : (f : ℕ → ℕ) → f m ≡ w → Held f m W → Held f (suc m) W'

-- ---- a stretch of them

-- mutations name rows of the sites and of n nodes, their rows are u32, the columns of W are even, and m is a mutation or past the last
pub record Placeable (position site node : List ℕ) (W : Moves) (n m : ℕ) : Type 0 where
  pub nodes : length node ≡ length site
  pub site_row : (i : ℕ) → i < length site → at site i < length position
  pub node_row : (i : ℕ) → i < length site → at node i < n
  pub numbered : length site ≤ 4294967295
  pub even : length W.low ≡ length W.row
  pub few : W.count ≤ m
  pub most : m ≤ length site

-- the mutations from m to k lie before next, and those of them that move by the samples S and the parents P are listed
pub record Between (S P position site node : List ℕ) (next : ℕ) (W : Moves) (m : ℕ) (W' : Moves) (k : ℕ) : Type 0 where
  pub more : m ≤ k
  pub most : k ≤ length site
  pub before : (i : ℕ) → m ≤ i → i < k → at position (at site i) < next
  pub few : W'.count ≤ k
  pub beyond : Beyond W W'
  pub given : (E : EdgeColumns) (Q : List ℕ) (x : ℕ) → Flags S Q (length P) → par_of P ≡ parent_row E x → (f : ℕ → ℕ) → ((i : ℕ) → m ≤ i → i < k → f i ≡ code (low_at E Q (length P) x (at node i))) → Held f m W → Held f k W'

-- and mutation k, if there is one, does not lie before next
pub record Placed (S P position site node : List ℕ) (next : ℕ) (W : Moves) (m : ℕ) (W' : Moves) (k : ℕ) : Type 0 where
  pub between : Between S P position site node next W m W' k
  pub stopped : k < length site → next ≤ at position (at site k)
