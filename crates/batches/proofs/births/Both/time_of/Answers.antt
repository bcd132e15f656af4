-- `time_of` meets its contract: the base's row decides before the batch's.
use mathlib.Core.Path.{sym, ◌∙◌}
use native.Mathlib.Omega.{arith}
use Rattle.order.specs.Ranks.{place_in-some}
use Rattle.batches.proofs.Born.{base_time, batch_time, no_time}
use Rattle.batches.proofs.births.Both.time_of.Goals as goal

pub offset_bounds-self-i : goal.offset_bounds-self-i
offset_bounds-self-i c = omega (arith, (place_in-some _ _ _ (sym c.in-Some.is ∙ c.row_of.ensures)).1, c.args.self.base.ages.even.birth_long)

pub bounds-self-i : goal.bounds-self-i
bounds-self-i c = omega (arith, (place_in-some _ _ _ (sym c.in-Some.is ∙ c.row_of.ensures)).1, c.args.self.base.ages.even.birth_long)

pub offset_bounds-self-j : goal.offset_bounds-self-j
offset_bounds-self-j c = omega (arith, (place_in-some _ _ _ (sym c.in-Some-row_of.is ∙ c.row_of-2.ensures)).1, c.args.self.batch.ages.even.birth_long)

pub bounds-self-j : goal.bounds-self-j
bounds-self-j c = omega (arith, (place_in-some _ _ _ (sym c.in-Some-row_of.is ∙ c.row_of-2.ensures)).1, c.args.self.batch.ages.even.birth_long)

pub returns-in-Some : goal.returns-in-Some
returns-in-Some c = base_time _ _ _ c.args.self.base.ages.even.birth_long c.args.self.batch.ages.even.birth_long _ (sym c.in-Some.is ∙ c.row_of.ensures)

pub returns-in-Some-row_of : goal.returns-in-Some-row_of
returns-in-Some-row_of c = batch_time _ _ _ c.args.self.base.ages.even.birth_long c.args.self.batch.ages.even.birth_long (sym c.in_default.is ∙ c.row_of.ensures) _ (sym c.in-Some-row_of.is ∙ c.row_of-2.ensures)

pub returns : goal.returns
returns c = no_time _ _ _ c.args.self.base.ages.even.birth_long c.args.self.batch.ages.even.birth_long (sym c.in_default.is ∙ c.row_of.ensures) (sym c.in_default-row_of.is ∙ c.row_of-2.ensures)
