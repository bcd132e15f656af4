-- `is_missing` meets its contract: a mutation of its own, a parent or a child keeps a row from being missing.
use Rattle.carrying.proofs.Telling.{no_parent, a_parent}
use Rattle.carrying.proofs.RowByRow.{by_mutation, by_parent, by_child}
use native.Mathlib.Omega.{arith}
use Rattle.carrying.proofs.column.is_missing.Goals as goal

pub bounds-own-u : goal.bounds-own-u
bounds-own-u c = omega (arith, c.requires.3, c.requires.0.own_long)

pub returns-then-own-u-clause-answer : goal.returns-then-own-u-clause-answer
returns-then-own-u-clause-answer c = by_mutation _ _ _ _ _ c.if-own-u.true

pub parent-p-requires : goal.parent-p-requires
parent-p-requires c = (omega (arith, c.requires.0.keeping.ends_long, c.requires.3), omega (arith, c.requires.0.keeping.par_long, c.requires.3), c.requires.1)

pub returns-then-p-clause-answer : goal.returns-then-p-clause-answer
returns-then-p-clause-answer c = by_parent _ _ _ _ (a_parent c.requires.0.rising c.requires.0.few _ _ _ c.parent-p.ensures.answer c.if-p.true)

pub child-below-requires : goal.child-below-requires
child-below-requires c = (c.requires.0.spans, omega (arith, c.requires.0.first_long, c.requires.3), omega (arith, c.requires.0.past_long, c.requires.3), omega (arith, c.requires.0.kid_long, c.requires.3), c.requires.2)

pub returns-clause-answer : goal.returns-clause-answer
returns-clause-answer c = by_child _ _ _ _ _ c.if-own-u.false (no_parent c.requires.0.rising c.requires.0.few _ _ _ c.parent-p.ensures.answer c.if-p.false) _ c.child-below.ensures.answer
