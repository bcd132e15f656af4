-- No segment before the cursor holds x.
use Rattle.segments.specs.Search.{Onward}
use Rattle.segments.proofs.find.Given as goal

abbrev pub invariant-loop-seg : goal.invariant-loop-seg
invariant-loop-seg l = Onward l.s l.x l.seg-index
