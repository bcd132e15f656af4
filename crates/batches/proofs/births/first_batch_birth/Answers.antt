-- `first_batch_birth` meets its contract: the lower of the lowest known and the lowest repeated row; the search for repeated ones leaves the order.
use mathlib.Core.Path.{sym, ap, ◌∙◌}
use Prim.Native.Nat.{ℕ}
use Rattle.std.specs.Prelude.{Some}
use native.Mathlib.Omega.{arith}
use Rattle.meaning.specs.Join.{batch_birth}
use Rattle.batches.proofs.Tests.{either_first, either_second, either_lower}
use Rattle.batches.proofs.births.first_batch_birth.Goals as goal

pub first_repeated-repeated-requires : goal.first_repeated-repeated-requires
first_repeated-repeated-requires c = (c.requires.1, omega (arith, c.requires.2))

pub returns-in-None : goal.returns-in-None
unfolding batch_birth
returns-in-None c = (c.first_repeated-repeated.ensures.0 ∙ either_second _ _ _ (sym c.in-None.is ∙ c.first_known.ensures), c.first_repeated-repeated.ensures.1)

pub returns-in-None-repeated : goal.returns-in-None-repeated
unfolding batch_birth
returns-in-None-repeated c = (sym c.in-Some.is ∙ c.first_known.ensures ∙ either_first _ _ _ (sym c.in-None-repeated.is ∙ c.first_repeated-repeated.ensures.0), c.first_repeated-repeated.ensures.1)

pub returns-in-Some-repeated : goal.returns-in-Some-repeated
unfolding batch_birth
returns-in-Some-repeated c = (ap (λ (x : ℕ). Some x) c.min.ensures ∙ either_lower _ _ _ _ _ (sym c.in-Some.is ∙ c.first_known.ensures) (sym c.in-Some-repeated.is ∙ c.first_repeated-repeated.ensures.0), c.first_repeated-repeated.ensures.1)
