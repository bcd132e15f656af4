-- Stamps on rows: a row is marked by a cell that holds the stamp in use, so that a new stamp takes every mark off.
use Rattle.std.specs.Prelude.{◌≡◌, Bool, true, List, ◌⊎◌, ℕ, ◌<◌, ◌≤◌, eqb, length}
use Rattle.std.proofs.Math.Option.{some}
use Rattle.meaning.specs.Words.{at}
use Rattle.meaning.specs.Rows.{EdgeColumns}
use Rattle.meaning.specs.Forest.{Par, ancestor}
use Rattle.bridge.specs.Parents.{no_row}
use Rattle.ancestry.specs.Column.{Rising}

unfoldable pub stamped : ℕ → List ℕ → ℕ → Bool
stamped t stamps v = eqb (at stamps v) t

-- a stamped row other than u has its parent stamped, unless the parent is older than m
pub record StampedBut (P : Par) (age : ℕ → ℕ) (t m u : ℕ) (stamps : List ℕ) : Type 0 where
  pub parent : (v p : ℕ) → (v ≡ u → ⊥) → P v ≡ some p → age p ≤ m → stamped t stamps v ≡ true → stamped t stamps p ≡ true

-- a stamped row has its parent stamped, unless the parent is older than m
pub record StampedAbove (P : Par) (age : ℕ → ℕ) (t m : ℕ) (stamps : List ℕ) : Type 0 where
  pub parent : (v p : ℕ) → P v ≡ some p → age p ≤ m → stamped t stamps v ≡ true → stamped t stamps p ≡ true

-- what stamping upwards from row u asks
pub record Stampable (time : List ℕ) (E : EdgeColumns) (stamps : List ℕ) (u : ℕ) : Type 0 where
  pub rising : Rising time E
  pub few : length time ≤ no_row
  pub long : length time ≤ length stamps
  pub row : u < length time

-- stamps after it: proper ancestors of u have got the stamp and no other rows, and up to each age m within the bound b all of them have
-- it, and what is stamped is closed upwards, if it was so before
pub record StampedUp (P : Par) (age : ℕ → ℕ) (t b u : ℕ) (before after : List ℕ) : Type 0 where
  pub cell : (v : ℕ) → (at after v ≡ at before v) ⊎ ((at after v ≡ t) × (ancestor P v u ≡ true))
  pub line : (m : ℕ) → m ≤ b → StampedBut P age t m u before → (v : ℕ) → ancestor P v u ≡ true → age v ≤ m → stamped t after v ≡ true
  pub closed : (m : ℕ) → m ≤ b → StampedBut P age t m u before → StampedAbove P age t m after
