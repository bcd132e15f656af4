-- `mend::climb_up` meets its contract.
use Rattle.std.proofs.Common.{◌≡◌, ◌<◌, length}
use Rattle.mend.specs.Right.{none, live, feeds, Lacks, Shape, climb}
use Rattle.mend.specs.Line.{Climb}
use Rattle.mend.proofs.climb_up.Given as goal

abbrev pub invariant-loop-q : goal.invariant-loop-q
invariant-loop-q l = Shape l.time l.sample l.parent l.count l.sum × ((l.q ≡ none → ⊥) → l.q < length l.parent) × Lacks (length l.parent) (feeds l.parent (live l.sample l.count)) l.count l.sum l.q l.d × Climb l.time l.sample l.parent l.initial.count l.count l.initial.low l.low l.q0 l.d0 l.w l.q l.d × (length l.low ≡ length l.parent)

abbrev pub decreases-loop-q : goal.decreases-loop-q
decreases-loop-q l = climb l.time l.q
