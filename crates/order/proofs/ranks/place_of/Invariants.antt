-- place_of meets its contract. Invariant: before low stand smaller numbers, from high on none that is smaller. Measure: the range.
use Prim.Native.Nat.{◌-◌}
use Rattle.order.proofs.Lookup.{Ringed}
use Rattle.order.proofs.ranks.place_of.Given as goal

abbrev pub invariant-loop-low : goal.invariant-loop-low
invariant-loop-low l = Ringed l.l l.idx l.b l.low l.high

abbrev pub decreases-loop-low : goal.decreases-loop-low
decreases-loop-low l = l.high - l.low
