-- `least_above` meets its contract: as `lowest_above`, with the least of the rows found so far.
use mathlib.Core.Path.{refl, sym, ap, ◌∙◌}
use Rattle.meaning.specs.Words.{row_below}
use native.Mathlib.Omega.{arith}
use Rattle.overtaking.proofs.Least.{least_start, least_hit, least_miss, least_stop, then_row}
use Rattle.overtaking.proofs.Ready.{going_start, going_next, still_working}
use Rattle.overtaking.proofs.stamps.least_above.Goals.{then-overtakes, else-overtakes}
use Rattle.overtaking.proofs.stamps.least_above.Goals as goal

pub loop-i-init : goal.loop-i-init
loop-i-init c = record {
  least = least_start _ _ _;
  same = (refl, refl);
  long = refl;
  working = c.requires.0;
  going = λ h. going_start _ _ _ c.requires.2 c.requires.3;
}

pub loop-i-preserved : goal.loop-i-preserved
loop-i-preserved c = record {
  least = elim c.if-overtakes.branch [ then-overtakes w ↦ least_hit c.loop-i.invariant.least _ (omega arith) (sym c.overtakes.ensures.answer ∙ w.if-overtakes.true) | else-overtakes w ↦ rw w.least-is (least_miss c.loop-i.invariant.least (sym c.overtakes.ensures.answer ∙ w.if-overtakes.false)) ];
  same = (c.overtakes.ensures.same.0 ∙ c.loop-i.invariant.same.0, c.overtakes.ensures.same.1 ∙ c.loop-i.invariant.same.1);
  long = c.overtakes.ensures.long ∙ c.loop-i.invariant.long;
  working = still_working c.overtakes.ensures.long c.overtakes.auto.stamps c.loop-i.invariant.working;
  going = going_next c.args.mutations.ordered c.overtakes.ensures.gone;
}

pub returns-clause-answer : goal.returns-clause-answer
returns-clause-answer c = c.then_some.ensures ∙ then_row _ _ ∙ ap (row_below _) (least_stop _ _ _ _ _ _ _ c.loop-i.auto.i-end c.loop-i-test.false c.loop-i.invariant.least)
