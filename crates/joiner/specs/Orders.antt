-- The order of births that a check leaves.
use Rattle.std.specs.Prelude.{◌≡◌, List, ℕ}
use Rattle.meaning.specs.Answer.{Checked}
use Rattle.std.specs.Prelude.{Ok}
use Rattle.order.specs.Ranks.{Ranked}

-- what the check of base or batch leaves where the answer r is no refusal: its nodes by birth
pub record BirthsOrdered (r : Checked) (birth by_birth : List ℕ) : Type 0 where
  pub births : r ≡ Ok tt → Ranked birth by_birth
