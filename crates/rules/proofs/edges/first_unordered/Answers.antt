-- `first_unordered` meets its contract: every edge before the one looked at has its key above that of the row before.
use mathlib.Core.Path.{sym, ◌∙◌}
use Rattle.laws.specs.Counting.{sought_start, sought_miss, lowest_hit, lowest_missed}
use native.Mathlib.Omega.{arith}
use Rattle.rules.proofs.edges.first_unordered.Goals as goal

pub loop-i-init : goal.loop-i-init
loop-i-init c = sought_start _ _

pub returns-then-unordered_at : goal.returns-then-unordered_at
returns-then-unordered_at c = lowest_hit _ _ _ c.loop-i-test.true c.loop-i.invariant (sym c.unordered_at.ensures ∙ c.if-unordered_at.true)

pub loop-i-preserved : goal.loop-i-preserved
loop-i-preserved c = sought_miss _ _ _ c.loop-i-test.true c.loop-i.invariant (sym c.unordered_at.ensures ∙ c.if-unordered_at.false)

pub returns : goal.returns
returns c = lowest_missed _ _ _ (omega arith) c.loop-i-test.false c.loop-i.invariant
