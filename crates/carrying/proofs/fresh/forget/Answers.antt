-- `forget` meets its contract: the ends are as they were, or all 0.
use mathlib.Core.Path.{refl}
use mathlib.Core.Logic.{inl, inr}
use Rattle.carrying.proofs.Beginning.{cleared}
use Rattle.carrying.proofs.fresh.forget.Goals as goal

pub returns-then-last-x-clause-ends : goal.returns-then-last-x-clause-ends
returns-then-last-x-clause-ends c = record { case = inl (c.if-last-x.true, refl, refl) }

pub returns-clause-ends : goal.returns-clause-ends
returns-clause-ends c = record { case = inr (cleared _ (c.fill.ensures.after (λ y k. k)), cleared _ (c.fill-2.ensures.after (λ y k. k))) }
