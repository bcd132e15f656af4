-- What a new site begins with: no row has its stamp, and the ends of answers are as they were or 0.
use Rattle.std.specs.Prelude.{◌≡◌, List, ◌⊎◌, ℕ, ◌<◌, ◌≤◌}
use Rattle.meaning.specs.Words.{at}

-- every stamp is below t
pub record Unstamped (t : ℕ) (own told : List ℕ) : Type 0 where
  pub own_below : (v : ℕ) → at own v < t
  pub told_below : (v : ℕ) → at told v < t

-- the ends are as they were, and x is not before the last position; or they are all 0
pub record Forgotten (x last : ℕ) (until₀ kid_until₀ until kid_until : List ℕ) : Type 0 where
  pub case : ((last ≤ x) × (until ≡ until₀) × (kid_until ≡ kid_until₀)) ⊎ (((v : ℕ) → at until v ≡ 0) × ((v : ℕ) → at kid_until v ≡ 0))
