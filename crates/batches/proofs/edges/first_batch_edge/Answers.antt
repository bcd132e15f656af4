-- `first_batch_edge` meets its contract: no edge before the one looked at is broken.
use mathlib.Core.Path.{sym, ◌∙◌}
use native.Mathlib.Omega.{arith}
use Rattle.laws.specs.Counting.{sought_start, sought_miss, lowest_hit, lowest_missed}
use Rattle.batches.proofs.edges.first_batch_edge.Goals as goal

pub loop-i-init : goal.loop-i-init
loop-i-init c = sought_start _ _

pub returns-then-batch_edge_at : goal.returns-then-batch_edge_at
returns-then-batch_edge_at c = lowest_hit _ _ _ c.loop-i-test.true c.loop-i.invariant (sym c.batch_edge_at.ensures ∙ c.if-batch_edge_at.true)

pub loop-i-preserved : goal.loop-i-preserved
loop-i-preserved c = sought_miss _ _ _ c.loop-i-test.true c.loop-i.invariant (sym c.batch_edge_at.ensures ∙ c.if-batch_edge_at.false)

pub returns : goal.returns
returns c = lowest_missed _ _ _ (omega arith) c.loop-i-test.false c.loop-i.invariant
