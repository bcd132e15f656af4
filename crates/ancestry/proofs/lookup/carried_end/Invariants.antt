-- `carried_end` meets its contract: the edges gone over touch and have one parent.
use Rattle.ancestry.specs.Lookup.{Chained}
use Rattle.ancestry.proofs.lookup.carried_end.Given as goal

abbrev pub invariant-loop-i : goal.invariant-loop-i
invariant-loop-i l = Chained l.fn.edges.left.now l.fn.edges.right.now l.fn.edges.parent.now l.by_child l.place l.i l.end
