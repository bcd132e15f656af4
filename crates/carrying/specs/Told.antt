-- States told to rows: what they are, and what going up asks and tells. K says which rows have a state of their own, and A what each row
-- carries; both are said of any such test and answer.
use Rattle.std.specs.Prelude.{◌≡◌, Bool, true, false, List, ℕ, ◌<◌, ◌≤◌, eqb, length}
use Rattle.std.proofs.Math.Option.{none, some}
use Rattle.meaning.specs.Words.{at}
use Rattle.meaning.specs.Rows.{EdgeColumns}
use Rattle.bridge.specs.Parents.{no_row, parent_row}
use Rattle.ancestry.specs.Column.{Rising}
use Rattle.overtaking.specs.Known.{Keeping}

-- what going up asks of the tables and the columns
pub record Upwards (time : List ℕ) (E : EdgeColumns) (ends par told state : List ℕ) : Type 0 where
  pub keeping : Keeping (length time) ends par
  pub rising : Rising time E
  pub few : length time ≤ no_row
  pub told_long : length time ≤ length told
  pub state_long : length time ≤ length state

-- a row with no state of its own carries what its parent carries, or the other where it has none
pub record Handed (E : EdgeColumns) (x n other : ℕ) (K : ℕ → Bool) (A : ℕ → ℕ) : Type 0 where
  pub top : (v : ℕ) → v < n → K v ≡ false → parent_row E x v ≡ none → A v ≡ other
  pub step : (v p : ℕ) → v < n → K v ≡ false → parent_row E x v ≡ some p → A v ≡ A p

-- a row with the stamp t has its state beside it; rows with a state of their own have the stamp, and no stamp is above t
pub record Told (n t : ℕ) (K : ℕ → Bool) (A : ℕ → ℕ) (told state : List ℕ) : Type 0 where
  pub cell : (v : ℕ) → v < n → at told v ≡ t → at state v ≡ A v
  pub own : (v : ℕ) → v < n → K v ≡ true → at told v ≡ t
  pub most : (v : ℕ) → at told v ≤ t

-- the rows with a state of their own are those with the stamp t
pub record Owned (n t : ℕ) (K : ℕ → Bool) (own : List ℕ) : Type 0 where
  pub cell : (v : ℕ) → v < n → eqb (at own v) t ≡ K v

-- r is what row u carries
pub record Found (E : EdgeColumns) (x n other t : ℕ) (told state : List ℕ) (u r : ℕ) : Type 0 where
  pub carried : (K : ℕ → Bool) (A : ℕ → ℕ) → Handed E x n other K A → Told n t K A told state → r ≡ A u

-- with s as what row u carries, what is told afterwards is right
pub record ToldUp (E : EdgeColumns) (x n t s u : ℕ) (told₀ state₀ told state : List ℕ) : Type 0 where
  pub still : (other : ℕ) (K : ℕ → Bool) (A : ℕ → ℕ) → Handed E x n other K A → Told n t K A told₀ state₀ → s ≡ A u → Told n t K A told state

-- r is what row u carries, and what is told afterwards is right
pub record Carried (E : EdgeColumns) (x n other t u : ℕ) (told₀ state₀ : List ℕ) (r : ℕ) (told state : List ℕ) : Type 0 where
  pub carried : (K : ℕ → Bool) (A : ℕ → ℕ) → Handed E x n other K A → Told n t K A told₀ state₀ → r ≡ A u
  pub still : (K : ℕ → Bool) (A : ℕ → ℕ) → Handed E x n other K A → Told n t K A told₀ state₀ → Told n t K A told state
