-- `tell_up` meets its contract: the rows gone over are told what they carry.
use mathlib.Core.Path.{refl, ◌∙◌}
use lib.ListN.{length-set}
use Rattle.carrying.proofs.Telling.{a_parent, parent_in-is, parent_falls, pass_start, pass_end, pass_top, pass_on}
use native.Mathlib.Omega.{arith}
use Rattle.carrying.proofs.carry.tell_up.Goals as goal

pub loop-told-init : goal.loop-told-init
loop-told-init c = record { same = (refl, refl); long = refl; passing = pass_start c.requires.2; known = c.requires.1 }

pub bounds-told-u : goal.bounds-told-u
bounds-told-u c = omega (arith, c.loop-told.invariant.passing.row, c.requires.0.told_long, c.loop-told.invariant.passing.told_long)

pub bounds-told-u-in-loop-told : goal.bounds-told-u-in-loop-told
bounds-told-u-in-loop-told c = omega (arith, c.loop-told.invariant.passing.row, c.requires.0.told_long, c.loop-told.invariant.passing.told_long)

pub bounds-state-u : goal.bounds-state-u
bounds-state-u c = omega (arith, c.loop-told.invariant.passing.row, c.requires.0.state_long, c.loop-told.invariant.passing.state_long)

pub parent-p-requires : goal.parent-p-requires
parent-p-requires c = (omega (arith, c.requires.0.keeping.ends_long, c.loop-told.invariant.passing.row), omega (arith, c.requires.0.keeping.par_long, c.loop-told.invariant.passing.row, c.loop-told.invariant.long), c.loop-told.invariant.known)

pub returns-then-p-clause-told : goal.returns-then-p-clause-told
returns-then-p-clause-told c = pass_top c.loop-told.invariant.passing (omega (arith, c.loop-told.invariant.passing.row, c.requires.0.told_long, c.loop-told.invariant.passing.told_long)) (omega (arith, c.loop-told.invariant.passing.row, c.requires.0.state_long, c.loop-told.invariant.passing.state_long))

pub loop-told-smaller : goal.loop-told-smaller
loop-told-smaller c = parent_falls c.requires.0.rising c.requires.0.few _ _ _ c.parent-p.ensures.answer c.if-p.false

pub loop-told-preserved : goal.loop-told-preserved
loop-told-preserved c = record {
  same = (c.parent-p.ensures.same.0 ∙ c.loop-told.invariant.same.0, c.parent-p.ensures.same.1 ∙ c.loop-told.invariant.same.1);
  long = omega (arith, c.parent-p.ensures.long, c.loop-told.invariant.long);
  passing = pass_on c.loop-told.invariant.passing (omega (arith, c.loop-told.invariant.passing.row, c.requires.0.told_long, c.loop-told.invariant.passing.told_long)) (omega (arith, c.loop-told.invariant.passing.row, c.requires.0.state_long, c.loop-told.invariant.passing.state_long)) c.loop-told-test.true (parent_in-is c.requires.0.rising c.requires.0.few _ _ _ c.parent-p.ensures.answer c.if-p.false) (a_parent c.requires.0.rising c.requires.0.few _ _ _ c.parent-p.ensures.answer c.if-p.false);
  known = c.parent-p.ensures.known;
}

pub shape_of-told : goal.shape_of-told
shape_of-told c = c.loop-told.invariant.passing.told_long

pub shape_of-state : goal.shape_of-state
shape_of-state c = c.loop-told.invariant.passing.state_long

pub shape_of-told-then-p : goal.shape_of-told-then-p
shape_of-told-then-p c = simp length-set c.loop-told.invariant.passing.told_long

pub shape_of-state-then-p : goal.shape_of-state-then-p
shape_of-state-then-p c = simp length-set c.loop-told.invariant.passing.state_long

pub returns-clause-told : goal.returns-clause-told
returns-clause-told c = pass_end c.loop-told.invariant.passing
