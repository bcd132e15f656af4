-- Whether a row has a child, by the three columns that tell it, and how far that holds.
use Rattle.std.specs.Prelude.{◌≡◌, Bool, List, ℕ, ◌<◌, ◌≤◌}
use Rattle.meaning.specs.Words.{at}
use Rattle.missing.specs.Alone.{child_row}

-- r is no later than the end, nor than edge row e begins, where that is an edge of u that begins after x
pub record Sooner (left parent : List ℕ) (x u e end r : ℕ) : Type 0 where
  pub before : r ≤ end
  pub begin : at parent e ≡ u → x < at left e → r ≤ at left e

-- the answer holds at x, and from x on before the end
pub record ChildHolds (left right parent : List ℕ) (x u : ℕ) (has : Bool) (end : ℕ) : Type 0 where
  pub here : has ≡ child_row left right parent x u
  pub further : (y : ℕ) → x ≤ y → y < end → has ≡ child_row left right parent y u
