-- `child_from` meets its contract: no edge gone over hangs a child below the row from x on before the end.
use Rattle.carrying.proofs.Childless.{NoneYet}
use Rattle.carrying.proofs.kids.child_from.Given as goal

abbrev pub invariant-loop-e : goal.invariant-loop-e
invariant-loop-e l = NoneYet l.edges.left.now l.edges.right.now l.edges.parent.now l.x l.u l.e l.end
