-- `first_lined` meets its contract: the lowest row lies from low on, up to high.
use mathlib.Core.Path.{sym, ap, ◌∙◌}
use mathlib.Core.Bool.{not}
use Rattle.laws.specs.Bools.{not_of}
use Rattle.rules.proofs.Halving.{none_lined, all_lined, halved_down, halved_up, found_lined}
use native.Mathlib.Omega.{arith}
use Rattle.rules.proofs.lined.first_lined.Goals as goal

pub returns-then-not-some_related : goal.returns-then-not-some_related
returns-then-not-some_related g c = none_lined _ _ _ c.requires.long (not_of _ (ap not (sym c.some_related.ensures ∙ c.if-not-some_related.true)))

pub loop-low-init : goal.loop-low-init
loop-low-init g c = all_lined _ _ _ c.requires.long

pub loop-low-preserved-then-some_related : goal.loop-low-preserved-then-some_related
loop-low-preserved-then-some_related g c = (c.loop-low.invariant.0, halved_down _ _ _ (sym c.some_related-in-loop-low.ensures ∙ c.if-some_related.true), omega (arith, c.middle-m.ensures.1, c.loop-low.invariant.2))

pub loop-low-preserved : goal.loop-low-preserved
loop-low-preserved g c = (halved_up _ _ _ _ c.middle-m.ensures.1 c.loop-low.invariant.2 (sym c.some_related-in-loop-low.ensures ∙ c.if-some_related.false), c.loop-low.invariant.1, c.loop-low.invariant.2)

pub returns : goal.returns
returns g c = found_lined _ _ _ c.requires.long (sym c.some_related.ensures ∙ c.if-not-some_related.false) _ _ c.loop-low.invariant.0 c.loop-low.invariant.1 c.loop-low-test.false
