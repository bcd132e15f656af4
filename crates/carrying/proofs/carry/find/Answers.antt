-- `find` meets its contract: each row on the way carries what the first one carries.
use mathlib.Core.Path.{refl, ◌∙◌}
use Rattle.carrying.proofs.Telling.{no_parent, a_parent, parent_in-is, parent_falls, climb_start, climb_told, climb_top, climb_on}
use native.Mathlib.Omega.{arith}
use Rattle.carrying.proofs.carry.find.Goals as goal

pub loop-u-init : goal.loop-u-init
loop-u-init c = record { same = (refl, refl); long = refl; climbing = climb_start c.requires.2; known = c.requires.1 }

pub bounds-told-u : goal.bounds-told-u
bounds-told-u c = omega (arith, c.loop-u.invariant.climbing.row, c.requires.0.told_long)

pub parent-p-requires : goal.parent-p-requires
parent-p-requires c = (omega (arith, c.requires.0.keeping.ends_long, c.loop-u.invariant.climbing.row), omega (arith, c.requires.0.keeping.par_long, c.loop-u.invariant.climbing.row, c.loop-u.invariant.long), c.loop-u.invariant.known)

pub returns-then-p-clause-found : goal.returns-then-p-clause-found
returns-then-p-clause-found c = climb_top c.loop-u.invariant.climbing c.loop-u-test.true (no_parent c.requires.0.rising c.requires.0.few _ _ _ c.parent-p.ensures.answer c.if-p.true)

pub loop-u-smaller : goal.loop-u-smaller
loop-u-smaller c = parent_falls c.requires.0.rising c.requires.0.few _ _ _ c.parent-p.ensures.answer c.if-p.false

pub loop-u-preserved : goal.loop-u-preserved
loop-u-preserved c = record {
  same = (c.parent-p.ensures.same.0 ∙ c.loop-u.invariant.same.0, c.parent-p.ensures.same.1 ∙ c.loop-u.invariant.same.1);
  long = omega (arith, c.parent-p.ensures.long, c.loop-u.invariant.long);
  climbing = climb_on c.loop-u.invariant.climbing c.loop-u-test.true (parent_in-is c.requires.0.rising c.requires.0.few _ _ _ c.parent-p.ensures.answer c.if-p.false) (a_parent c.requires.0.rising c.requires.0.few _ _ _ c.parent-p.ensures.answer c.if-p.false);
  known = c.parent-p.ensures.known;
}

pub bounds-state-u : goal.bounds-state-u
bounds-state-u c = omega (arith, c.loop-u.invariant.climbing.row, c.requires.0.state_long)

pub returns-clause-found : goal.returns-clause-found
returns-clause-found c = climb_told c.loop-u.invariant.climbing c.loop-u-test.false
