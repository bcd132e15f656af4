-- `stamp_up` meets its contract: each step up is a law of Stamping, and the number of older rows falls.
use mathlib.Core.Path.{◌∙◌}
use Rattle.overtaking.proofs.Stamping.{climb_reached, climb_top, climb_in, climb_falls, climb_met, climb_on}
use native.Mathlib.Omega.{arith}
use Rattle.overtaking.proofs.stamps.stamp_up.Goals.{then-p-via-then-p, then-p-via-else-p+then-stamps-p}
use Rattle.overtaking.proofs.stamps.stamp_up.Goals as goal

pub returns-then-p-clause-stamped : goal.returns-then-p-clause-stamped
returns-then-p-clause-stamped c = elim c.then-p.branch [
  | then-p-via-then-p w ↦ climb_top c.loop-u.invariant.climbing _ c.parent-p.ensures.answer (λ i. omega (arith, c.type_inv.time i)) w.if-p.true
  | then-p-via-else-p+then-stamps-p w ↦ climb_met c.loop-u.invariant.climbing _ c.parent-p.ensures.answer w.if-p.false (λ i. omega (arith, c.type_inv.time i)) w.if-stamps-p.true
]

pub bounds-stamps-p : goal.bounds-stamps-p
bounds-stamps-p c = (climb_in c.loop-u.invariant.climbing _ c.parent-p.ensures.answer c.if-p.false).1

pub bounds-stamps-p-in-loop-u : goal.bounds-stamps-p-in-loop-u
bounds-stamps-p-in-loop-u c = (climb_in c.loop-u.invariant.climbing _ c.parent-p.ensures.answer c.if-p.false).1

pub loop-u-smaller : goal.loop-u-smaller
loop-u-smaller c = climb_falls c.loop-u.invariant.climbing _ c.parent-p.ensures.answer c.if-p.false

pub loop-u-preserved : goal.loop-u-preserved
loop-u-preserved c = record {
  same = (c.parent-p.ensures.same.0 ∙ c.loop-u.invariant.same.0, c.parent-p.ensures.same.1 ∙ c.loop-u.invariant.same.1);
  long = omega (arith, c.parent-p.ensures.long, c.loop-u.invariant.long);
  climbing = climb_on c.loop-u.invariant.climbing _ c.parent-p.ensures.answer c.if-p.false (λ i. omega (arith, c.type_inv.time i));
  known = c.parent-p.ensures.known;
}

pub returns-clause-stamped : goal.returns-clause-stamped
returns-clause-stamped c = climb_reached c.loop-u.invariant.climbing (λ i. omega (arith, c.type_inv.time i)) c.loop-u-test.false
