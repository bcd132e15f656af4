-- Whether a row has a child, kept with how far that holds.
use Rattle.std.specs.Prelude.{◌≡◌, List, ℕ, ◌<◌, ◌≤◌, eqb, length}
use Rattle.meaning.specs.Words.{at}
use Rattle.meaning.specs.Rows.{EdgeColumns}
use Rattle.missing.specs.Alone.{child_row}

-- from x on, and below its end, whether a row has a child is what is kept: 1 for yes
pub record KidsKnown (E : EdgeColumns) (x : ℕ) (kid until : List ℕ) : Type 0 where
  pub cell : (u y : ℕ) → u < length kid → x ≤ y → y < at until u → eqb (at kid u) 1 ≡ child_row E.left E.right E.parent y u
