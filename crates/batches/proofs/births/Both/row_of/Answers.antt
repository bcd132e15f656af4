-- `row_of` meets its contract: a base row is found first, and a batch row stands after all of the base's.
use mathlib.Core.Path.{sym, ◌∙◌}
use native.Mathlib.Omega.{arith}
use Rattle.order.specs.Ranks.{place_in-some}
use Rattle.batches.proofs.Born.{row_in_base, row_in_batch, row_nowhere}
use Rattle.batches.proofs.births.Both.row_of.Goals as goal

pub overflow_cast-result : goal.overflow_cast-result
overflow_cast-result c = omega (arith, (place_in-some _ _ _ (sym c.in-Some.is ∙ c.row_of.ensures)).1, c.requires)

pub overflow_add-result : goal.overflow_add-result
overflow_add-result c = omega (arith, (place_in-some _ _ _ (sym c.in-Some-row_of.is ∙ c.row_of-2.ensures)).1, c.requires)

pub overflow_cast-result-in-Some-row_of : goal.overflow_cast-result-in-Some-row_of
overflow_cast-result-in-Some-row_of c = omega (arith, (place_in-some _ _ _ (sym c.in-Some-row_of.is ∙ c.row_of-2.ensures)).1, c.requires)

pub returns-in-Some : goal.returns-in-Some
returns-in-Some c = row_in_base _ _ _ _ (sym c.in-Some.is ∙ c.row_of.ensures)

pub returns-in-Some-row_of : goal.returns-in-Some-row_of
returns-in-Some-row_of c = row_in_batch _ _ _ (sym c.in_default.is ∙ c.row_of.ensures) _ (sym c.in-Some-row_of.is ∙ c.row_of-2.ensures)

pub returns : goal.returns
returns c = row_nowhere _ _ _ (sym c.in_default.is ∙ c.row_of.ensures) (sym c.in_default-row_of.is ∙ c.row_of-2.ensures)
