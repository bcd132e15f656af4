-- What is written of the standing rows below and above where a live row got a live child, or lost one.
use Rattle.std.specs.Prelude.{◌≡◌, ℕ, ◌<◌, Bool, true, false, List, length, ◌==◌, ◌≢◌, slice_index, slice_set}
use Rattle.meaning.specs.Words.{or}
use Rattle.mend.specs.Right.{none, more, stands}
use Rattle.mend.specs.Line.{par_of, opt, Over}
use Rattle.mend.specs.Labels.{Labelling, Relabelled}

-- no row, or a sample, or a row with more than n live children
unfoldable pub settled : List ℕ → List ℕ → ℕ → ℕ → Bool
unfolding more
settled S C n s = or (s == none) (more S C n s)

-- s, a row or none, is to be told of the child below which w stands
pub record Gaining (T S P C D U : List ℕ) (w s : ℕ) : Type 0 where
  pub lows : length D ≡ length P
  pub ups : length U ≡ length P
  pub child : w < length P
  pub line : (s ≢ none) → Labelling T S P C D s
  pub below : (s ≢ none) → slice_index D s < length P

-- with one live child less s stood or was no row: only w gets another row above; or s begins to stand, above w and what was below s, and below o
pub data Gain (S P C D D' U U' : List ℕ) (w s : ℕ) : Type 0 where
  gain_calm : settled S C 2 s ≡ true → D' ≡ D → U' ≡ slice_set U w s → Gain S P C D D' U U' w s
  gain_stand : (o : ℕ) → settled S C 2 s ≡ false → Relabelled P (stands S C) s D D' s → Over (par_of P) (stands S C) (opt o) s → U' ≡ slice_set (slice_set (slice_set U w s) (slice_index D s) s) s o → Gain S P C D D' U U' w s

-- s, a row or none, is to be told of the loss of the child below which w stands
pub record Losing (T S P C M D U : List ℕ) (w s : ℕ) : Type 0 where
  pub sums : length M ≡ length P
  pub lows : length D ≡ length P
  pub ups : length U ≡ length P
  pub child : w < length P
  pub line : (s ≢ none) → Labelling T S P C D s
  pub only : settled S C 1 s ≡ false → slice_index M s < length P
  pub below : settled S C 1 s ≡ false → slice_index D (slice_index M s) < length P

-- s stands or is no row: only w has no row above any more; or s ceases to stand, and what its only live child leads to comes below o
pub data Loss (S P C M D D' U U' : List ℕ) (w s : ℕ) : Type 0 where
  loss_calm : settled S C 1 s ≡ true → D' ≡ D → U' ≡ slice_set U w none → Loss S P C M D D' U U' w s
  loss_fall : (o : ℕ) → settled S C 1 s ≡ false → Relabelled P (stands S C) (slice_index D (slice_index M s)) D D' s → Over (par_of P) (stands S C) (opt o) s → U' ≡ slice_set (slice_set (slice_set U (slice_index D (slice_index M s)) o) s none) w none → Loss S P C M D D' U U' w s
