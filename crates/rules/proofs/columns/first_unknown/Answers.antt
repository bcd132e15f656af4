-- `first_unknown` meets its contract: every sample before the one looked at names a node.
use mathlib.Core.Path.{sym, ap, ◌∙◌}
use mathlib.Core.Bool.{not}
use Rattle.meaning.specs.Check.{sample_unknown}
use Rattle.laws.specs.Counting.{sought_start, sought_miss, lowest_hit, lowest_missed}
use native.Mathlib.Omega.{arith}
use Rattle.rules.proofs.columns.first_unknown.Goals as goal

pub loop-i-init : goal.loop-i-init
loop-i-init c = sought_start _ _

pub returns-then-not-known : goal.returns-then-not-known
unfolding sample_unknown
returns-then-not-known c = lowest_hit _ _ _ c.loop-i-test.true c.loop-i.invariant (ap not (sym c.known.ensures ∙ c.if-not-known.true))

pub loop-i-preserved : goal.loop-i-preserved
unfolding sample_unknown
loop-i-preserved c = sought_miss _ _ _ c.loop-i-test.true c.loop-i.invariant (ap not (sym c.known.ensures ∙ c.if-not-known.false))

pub returns : goal.returns
returns c = lowest_missed _ _ _ (omega arith) c.loop-i-test.false c.loop-i.invariant
