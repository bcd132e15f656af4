-- `fill_ends` meets its contract: the ends of the rows gone over stand in their cells.
use mathlib.Core.Path.{◌≡◌}
use lib.ListN.{length}
use Rattle.ancestry.specs.Index.{Ending}
use Rattle.ancestry.proofs.index.fill_ends.Given as goal

abbrev pub invariant-loop-u : goal.invariant-loop-u
invariant-loop-u l = (length l.ends ≡ length l.initial.ends) × Ending l.fn.edges.child.now l.by_child l.u l.i l.ends
