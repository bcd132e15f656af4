-- `skip` meets its contract: every edge gone over is of row u or of a lower row.
use Rattle.ancestry.specs.Index.{Passed}
use Rattle.ancestry.proofs.index.skip.Given as goal

abbrev pub invariant-loop-i : goal.invariant-loop-i
invariant-loop-i l = Passed l.child l.by_child l.u l.i
