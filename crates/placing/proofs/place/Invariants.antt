-- `placing::place` meets its contract: each turn gives one mutation its nearest standing row.
use Rattle.placing.specs.Placing.{Between}
use Rattle.placing.proofs.place.Given as goal

abbrev pub invariant-loop-m : goal.invariant-loop-m
invariant-loop-m l = Between l.sample l.par l.position l.site l.node l.next (record { row = l.initial.mrow; low = l.initial.mlow; count = l.k0 }) l.m0 (record { row = l.mrow; low = l.mlow; count = l.k }) l.m
