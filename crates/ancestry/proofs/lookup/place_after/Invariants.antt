-- `place_after` meets its contract: the place lies from low on, up to high.
use Prim.Native.Nat.{◌-◌}
use Rattle.ancestry.specs.Lookup.{Halved}
use Rattle.ancestry.proofs.lookup.place_after.Given as goal

abbrev pub invariant-loop-low : goal.invariant-loop-low
invariant-loop-low l = Halved l.left l.by_child l.from l.to l.x l.low l.high

abbrev pub decreases-loop-low : goal.decreases-loop-low
decreases-loop-low l = l.high - l.low
