-- `has_child` meets its contract: no edge gone over hangs a child below the row.
use Rattle.missing.proofs.Missing.{NoneYet}
use Rattle.missing.proofs.has_child.Given as goal

abbrev pub invariant-loop-e : goal.invariant-loop-e
invariant-loop-e l = NoneYet l.edges.left.now l.edges.right.now l.edges.parent.now l.x l.u l.e
