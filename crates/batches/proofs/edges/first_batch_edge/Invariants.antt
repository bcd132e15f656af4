-- `first_batch_edge` meets its contract: no edge before the one looked at is broken.
use Rattle.meaning.specs.Columns.{ages_in, edges_in}
use Rattle.meaning.specs.Join.{batch_edge}
use lib.ListN.{length}
use Rattle.laws.specs.Counting.{Sought}
use Rattle.batches.proofs.edges.first_batch_edge.Given as goal

abbrev pub invariant-loop-i : goal.invariant-loop-i
invariant-loop-i l = Sought (batch_edge l.len (ages_in l.fn.nodes.base.ages) (ages_in l.fn.nodes.batch.ages) (edges_in l.fn.edges)) (length l.fn.edges.left.now) l.i
