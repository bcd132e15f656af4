-- `mend::climb_down` meets its contract: each turn mends the row q, and what is in excess next is at its parent.
use Rattle.std.proofs.Common.{◌≡◌, ℕ, ◌<◌, ◌≤◌, length, get_or}
use Rattle.mend.specs.Right.{none, live, stands, feeds, Excess, Shape, climb}
use Rattle.mend.specs.Line.{Under}
use Rattle.mend.proofs.climb_down.Given as goal

abbrev pub invariant-loop-q : goal.invariant-loop-q
invariant-loop-q l = Shape l.time l.sample l.parent l.count l.sum × ((l.q ≡ none → ⊥) → l.q < length l.parent) × (l.d < length l.parent) × Excess (length l.parent) (feeds l.parent (live l.sample l.count)) l.count l.sum l.q l.d × ((v : ℕ) → stands l.sample l.count v ≡ stands l.sample l.initial.count v) × ((l.q ≡ none → ⊥) → get_or l.time l.q0 0 ≤ get_or l.time l.q 0) × Under l.time l.sample l.initial.count l.count l.q0

abbrev pub decreases-loop-q : goal.decreases-loop-q
decreases-loop-q l = climb l.time l.q
