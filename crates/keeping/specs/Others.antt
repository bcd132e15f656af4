-- The other rows kept, from marks on the rows: those that stand somewhere and are no samples.
use Rattle.std.specs.Prelude.{◌≡◌, Bool, true, List, ℕ, ◌<◌, ◌≤◌, eqb, length, take, drop}
use Rattle.meaning.specs.Words.{and, at, mem, filter}
use Rattle.meaning.specs.Rows.{NodeColumns}
use Rattle.laws.specs.Facts.{All}
use Rattle.history.specs.Order.{Sorted}
use Rattle.byrows.specs.Rows.{all_rows, before_row}

-- row u is marked as standing, and not as a sample
unfoldable pub other : List ℕ → List ℕ → ℕ → Bool
other stood sample u = and (eqb (at stood u) 1) (eqb (at sample u) 0)

-- those rows, in row order
unfoldable pub other_rows : List ℕ → List ℕ → List ℕ
unfolding filter other all_rows
other_rows stood sample = filter (other stood sample) (all_rows (length stood))

-- the first k cells of new are those rows by (time, birth), and the cells past them are as in old
pub record OthersListed (N : NodeColumns) (stood sample : List ℕ) (k : ℕ) (old new : List ℕ) : Type 0 where
  pub few : k ≤ length stood
  pub inside : All (λ v. v < length stood) (take k new)
  pub sorted : Sorted (before_row N) (take k new)
  pub right : (v : ℕ) → mem v (take k new) ≡ true → (v < length stood) × (at stood v ≡ 1) × (at sample v ≡ 0)
  pub all : (v : ℕ) → v < length stood → at stood v ≡ 1 → at sample v ≡ 0 → mem v (take k new) ≡ true
  pub past : drop k new ≡ drop k old
