-- The two bytes of rows at a site, by the rows that have a mutation of their own (K) and what each row carries (A).
use Rattle.std.specs.Prelude.{◌≡◌, Option, Some, None, Bool, true, false, not, List, ℕ, ◌<◌, ◌≤◌, length}
use Rattle.meaning.specs.Words.{at, or}
use Rattle.meaning.specs.Rows.{EdgeColumns}
use Rattle.meaning.specs.Allele.{found}
use Rattle.bridge.specs.Parents.{no_row, parent_row}
use Rattle.ancestry.specs.Column.{Rising}
use Rattle.overtaking.specs.Known.{Keeping}
use Rattle.missing.specs.Alone.{child_row}
use Rattle.carrying.specs.Spans.{Spans}
use Rattle.carrying.specs.Told.{Handed, Told, Owned}

-- row u is missing at x, where own says whether it has a mutation of its own
unfoldable pub missing_by : EdgeColumns → ℕ → Bool → ℕ → Bool
unfolding found parent_row child_row
missing_by E x own u = not (or (found (parent_row E x u)) (or (child_row E.left E.right E.parent x u) own))

-- what is told of a row: the state that it carries, or none where it is missing
abbrev pub told_by : Bool → ℕ → Option ℕ
told_by missing s = elim missing [ true ↦ None | false ↦ Some s ]

-- the byte of the state and the byte for missing
abbrev pub state_by : Bool → ℕ → ℕ
state_by missing s = elim missing [ true ↦ 0 | false ↦ s ]

abbrev pub flag_by : Bool → ℕ
flag_by missing = elim missing [ true ↦ 1 | false ↦ 0 ]

-- what telling whether a row is missing asks of the tables and the columns
pub record Asking (time : List ℕ) (E : EdgeColumns) (ends first past par kid own : List ℕ) : Type 0 where
  pub keeping : Keeping (length time) ends par
  pub rising : Rising time E
  pub few : length time ≤ no_row
  pub spans : Spans E.parent first past
  pub first_long : length time ≤ length first
  pub past_long : length time ≤ length past
  pub kid_long : length time ≤ length kid
  pub own_long : length time ≤ length own

-- what telling its state asks besides
pub record Ready (time : List ℕ) (E : EdgeColumns) (ends first past par kid own told state : List ℕ) : Type 0 where
  pub asking : Asking time E ends first past par kid own
  pub told_long : length time ≤ length told
  pub state_long : length time ≤ length state

-- what row u carries, and what is told afterwards is right
pub record RowTold (E : EdgeColumns) (x n other t : ℕ) (own told₀ state₀ : List ℕ) (u : ℕ) (r : Option ℕ) (told state : List ℕ) : Type 0 where
  pub byte : (K : ℕ → Bool) (A : ℕ → ℕ) → Handed E x n other K A → Owned n t K own → Told n t K A told₀ state₀ → r ≡ told_by (missing_by E x (K u) u) (A u)
  pub still : (K : ℕ → Bool) (A : ℕ → ℕ) → Handed E x n other K A → Owned n t K own → Told n t K A told₀ state₀ → Told n t K A told state

-- the bytes of the first k rows listed, and what is told afterwards is right
pub record RowsTold (E : EdgeColumns) (x n other t : ℕ) (own told₀ state₀ rows : List ℕ) (k : ℕ) (states flags told state : List ℕ) : Type 0 where
  pub byte : (K : ℕ → Bool) (A : ℕ → ℕ) → Handed E x n other K A → Owned n t K own → Told n t K A told₀ state₀ → (j : ℕ) → j < k → at states j ≡ state_by (missing_by E x (K (at rows j)) (at rows j)) (A (at rows j))
  pub mark : (K : ℕ → Bool) (A : ℕ → ℕ) → Handed E x n other K A → Owned n t K own → Told n t K A told₀ state₀ → (j : ℕ) → j < k → at flags j ≡ flag_by (missing_by E x (K (at rows j)) (at rows j))
  pub still : (K : ℕ → Bool) (A : ℕ → ℕ) → Handed E x n other K A → Owned n t K own → Told n t K A told₀ state₀ → Told n t K A told state
