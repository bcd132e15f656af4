-- `first_unordered` meets its contract: every edge before the one looked at has its key above that of the row before.
use Rattle.meaning.specs.Columns.{ages_in, edges_in}
use lib.ListN.{length}
use Rattle.meaning.specs.Check.{edge_unordered}
use Rattle.laws.specs.Counting.{Sought}
use Rattle.rules.proofs.edges.first_unordered.Given as goal

abbrev pub invariant-loop-i : goal.invariant-loop-i
invariant-loop-i l = Sought (edge_unordered (ages_in l.fn.ages) (edges_in l.fn.edges)) (length l.fn.edges.left.now) l.i
