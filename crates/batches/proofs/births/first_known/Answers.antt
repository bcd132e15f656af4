-- `first_known` meets its contract: no row passed has a number of the base.
use mathlib.Core.Path.{sym, ◌∙◌}
use native.Mathlib.Omega.{arith}
use Rattle.laws.specs.Counting.{sought_start, sought_miss, lowest_hit, lowest_missed}
use Rattle.batches.proofs.births.first_known.Goals as goal

pub loop-i-init : goal.loop-i-init
loop-i-init c = sought_start _ _

pub returns-then-known : goal.returns-then-known
returns-then-known c = lowest_hit _ _ _ c.loop-i-test.true c.loop-i.invariant (sym c.known.ensures ∙ c.if-known.true)

pub loop-i-preserved : goal.loop-i-preserved
loop-i-preserved c = sought_miss _ _ _ c.loop-i-test.true c.loop-i.invariant (sym c.known.ensures ∙ c.if-known.false)

pub returns : goal.returns
returns c = lowest_missed _ _ _ (omega arith) c.loop-i-test.false c.loop-i.invariant
