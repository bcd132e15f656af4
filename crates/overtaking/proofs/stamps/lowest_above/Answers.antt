-- `lowest_above` meets its contract: the columns stay ready for the next row, and each row tells whether it is overtaken.
use mathlib.Core.Path.{refl, sym, ◌∙◌}
use Rattle.laws.specs.Counting.{sought_start, sought_miss, lowest_hit, lowest_missed}
use Rattle.overtaking.proofs.Ready.{going_start, going_next, still_working}
use Rattle.overtaking.proofs.stamps.lowest_above.Goals as goal

pub loop-i-init : goal.loop-i-init
loop-i-init c = record {
  sought = sought_start _ _;
  same = (refl, refl);
  long = refl;
  working = c.requires.0;
  going = λ h. going_start _ _ _ c.requires.1 c.requires.2;
}

pub returns-then-overtakes-clause-answer : goal.returns-then-overtakes-clause-answer
returns-then-overtakes-clause-answer c = lowest_hit _ _ _ c.loop-i-test.true c.loop-i.invariant.sought (sym c.overtakes.ensures.answer ∙ c.if-overtakes.true)

pub loop-i-preserved : goal.loop-i-preserved
loop-i-preserved c = record {
  sought = sought_miss _ _ _ c.loop-i-test.true c.loop-i.invariant.sought (sym c.overtakes.ensures.answer ∙ c.if-overtakes.false);
  same = (c.overtakes.ensures.same.0 ∙ c.loop-i.invariant.same.0, c.overtakes.ensures.same.1 ∙ c.loop-i.invariant.same.1);
  long = c.overtakes.ensures.long ∙ c.loop-i.invariant.long;
  working = still_working c.overtakes.ensures.long c.overtakes.auto.stamps c.loop-i.invariant.working;
  going = going_next c.args.mutations.ordered c.overtakes.ensures.gone;
}

pub returns-clause-answer : goal.returns-clause-answer
returns-clause-answer c = lowest_missed _ _ _ c.loop-i.auto.i-end c.loop-i-test.false c.loop-i.invariant.sought
