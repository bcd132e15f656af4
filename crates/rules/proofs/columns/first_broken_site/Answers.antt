-- `first_broken_site` meets its contract: no site before the one looked at is broken.
use mathlib.Core.Path.{sym, ◌∙◌}
use Rattle.laws.specs.Counting.{sought_start, sought_miss, lowest_hit, lowest_missed}
use native.Mathlib.Omega.{arith}
use Rattle.rules.proofs.columns.first_broken_site.Goals as goal

pub loop-i-init : goal.loop-i-init
loop-i-init c = sought_start _ _

pub returns-then-site_broken_at : goal.returns-then-site_broken_at
returns-then-site_broken_at c = lowest_hit _ _ _ c.loop-i-test.true c.loop-i.invariant (sym c.site_broken_at.ensures ∙ c.if-site_broken_at.true)

pub loop-i-preserved : goal.loop-i-preserved
loop-i-preserved c = sought_miss _ _ _ c.loop-i-test.true c.loop-i.invariant (sym c.site_broken_at.ensures ∙ c.if-site_broken_at.false)

pub returns : goal.returns
returns c = lowest_missed _ _ _ (omega arith) c.loop-i-test.false c.loop-i.invariant
