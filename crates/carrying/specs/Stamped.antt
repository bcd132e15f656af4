-- What marking a site's mutations leaves: the stamps of their rows, and the last states.
use Rattle.std.specs.Prelude.{◌≡◌, Bool, true, false, List, ℕ}
use Rattle.meaning.specs.Words.{at}
use Rattle.meaning.specs.Rows.{MutationColumns, muts_of}
use Rattle.meaning.specs.Allele.{carries, last_state}

-- the stamp where the test holds, and else what was there
unfoldable pub stamp_if : Bool → ℕ → ℕ → ℕ
stamp_if true t m = t
stamp_if false t m = m

-- rows with a mutation at site row i have the stamp and their last state, the others are as they were
pub record Marked (M : MutationColumns) (i t : ℕ) (own₀ told₀ state₀ own told state : List ℕ) : Type 0 where
  pub own_cell : (v : ℕ) → at own v ≡ stamp_if (carries (muts_of (λ r. r) M) i v) t (at own₀ v)
  pub told_cell : (v : ℕ) → at told v ≡ stamp_if (carries (muts_of (λ r. r) M) i v) t (at told₀ v)
  pub state_cell-is : (v : ℕ) → at state v ≡ last_state i v (muts_of (λ r. r) M) (at state₀ v)
