-- Answers of the lookup that are kept: a row's parent stays known up to the end that came with it.
use Rattle.std.specs.Prelude.{◌≡◌, List, ℕ, ◌<◌, ◌≤◌, length}
use Rattle.meaning.specs.Words.{at}
use Rattle.meaning.specs.Rows.{EdgeColumns}
use Rattle.bridge.specs.Parents.{code, parent_row}

-- from x on, and below its end, each row's parent is the one kept
pub record Known (E : EdgeColumns) (x : ℕ) (par until : List ℕ) : Type 0 where
  pub cell : (u y : ℕ) → u < length par → x ≤ y → y < at until u → at par u ≡ code (parent_row E y u)

-- what keeping answers for n rows asks: columns that are long enough
pub record Keeping (n : ℕ) (ends par : List ℕ) : Type 0 where
  pub ends_long : n ≤ length ends
  pub par_long : n ≤ length par
