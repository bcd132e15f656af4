-- `first_broken_edge` meets its contract: no edge before the one looked at is broken.
use Rattle.meaning.specs.Columns.{edges_in}
use lib.ListN.{length}
use Rattle.meaning.specs.Check.{edge_broken}
use Rattle.laws.specs.Counting.{Sought}
use Rattle.rules.proofs.edges.first_broken_edge.Given as goal

abbrev pub invariant-loop-i : goal.invariant-loop-i
invariant-loop-i l = Sought (edge_broken l.len l.time (edges_in l.fn.edges)) (length l.fn.edges.left.now) l.i
