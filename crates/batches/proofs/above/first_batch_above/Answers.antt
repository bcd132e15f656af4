-- `first_batch_above` meets its contract: times, edges and nodes of the batch stand by rows in working columns, and 26 by the batch's edges is 26.
use native.Mathlib.Omega.{arith}
use mathlib.Core.Path.{refl}
use mathlib.Core.List.{◌++◌}
use Rattle.meaning.specs.Words.{index_of, lowest, row_below}
use Rattle.batches.specs.Joint.{joint_few}
use Rattle.batches.proofs.Fronts.{joined_room, joined_long, joined_part, mapped_room, mapped_long, mapped_part}
use Rattle.batches.proofs.Asking.{held_unlined, held_26}
use Rattle.batches.proofs.above.first_batch_above.Goals as goal

pub returns-then-site-eq0 : goal.returns-then-site-eq0
unfolding lowest row_below
returns-then-site-eq0 c base held derived = rw c.if-site-eq0.true refl

pub rows_of-requires : goal.rows_of-requires
rows_of-requires c = (omega (arith, c.requires.1.joint.even.parent_long, c.requires.1.edges), joint_few c.requires.1.joint)

pub rows_of-requires-2 : goal.rows_of-requires-2
rows_of-requires-2 c = (omega (arith, c.requires.1.joint.even.child_long, c.requires.1.edges), joint_few c.requires.1.joint)

pub rows_of-requires-3 : goal.rows_of-requires-3
rows_of-requires-3 c = (omega (arith, c.requires.1.node_long, c.requires.1.mutations), joint_few c.requires.1.joint)

pub slice_bounds-alltime-end : goal.slice_bounds-alltime-end
slice_bounds-alltime-end c = joined_room c.args.nodes.base.ages.time.now c.args.nodes.batch.ages.time.now 1024 c.append.ensures c.requires.1.joint.few

pub slice_bounds-lowest_overtaken-end : goal.slice_bounds-lowest_overtaken-end
slice_bounds-lowest_overtaken-end c = joined_long c.args.nodes.base.ages.time.now c.args.nodes.batch.ages.time.now 1024 c.append.ensures c.requires.1.joint.few

pub slice_bounds-parentrow-end : goal.slice_bounds-parentrow-end
slice_bounds-parentrow-end c = mapped_room (λ b. index_of b (c.args.nodes.base.ages.birth.now ++ c.args.nodes.batch.ages.birth.now)) c.args.edges.parent.now 4096 _ c.rows_of.ensures c.requires.1.joint.even.parent_long (omega (arith, c.requires.1.edges))

pub slice_bounds-by_rows-end : goal.slice_bounds-by_rows-end
slice_bounds-by_rows-end c = mapped_long (λ b. index_of b (c.args.nodes.base.ages.birth.now ++ c.args.nodes.batch.ages.birth.now)) c.args.edges.parent.now 4096 _ c.rows_of.ensures c.requires.1.joint.even.parent_long (omega (arith, c.requires.1.edges))

pub slice_bounds-childrow-end : goal.slice_bounds-childrow-end
slice_bounds-childrow-end c = mapped_room (λ b. index_of b (c.args.nodes.base.ages.birth.now ++ c.args.nodes.batch.ages.birth.now)) c.args.edges.child.now 4096 _ c.rows_of-2.ensures c.requires.1.joint.even.child_long (omega (arith, c.requires.1.edges))

pub slice_bounds-by_rows-end-2 : goal.slice_bounds-by_rows-end-2
slice_bounds-by_rows-end-2 c = mapped_long (λ b. index_of b (c.args.nodes.base.ages.birth.now ++ c.args.nodes.batch.ages.birth.now)) c.args.edges.child.now 4096 _ c.rows_of-2.ensures c.requires.1.joint.even.child_long (omega (arith, c.requires.1.edges))

pub slice_bounds-noderow-end : goal.slice_bounds-noderow-end
slice_bounds-noderow-end c = mapped_room (λ b. index_of b (c.args.nodes.base.ages.birth.now ++ c.args.nodes.batch.ages.birth.now)) c.args.node.now 1024 _ c.rows_of-3.ensures refl (omega (arith, c.requires.1.node_long, c.requires.1.mutations))

pub slice_bounds-lowest_overtaken-end-2 : goal.slice_bounds-lowest_overtaken-end-2
slice_bounds-lowest_overtaken-end-2 c = mapped_long (λ b. index_of b (c.args.nodes.base.ages.birth.now ++ c.args.nodes.batch.ages.birth.now)) c.args.node.now 1024 _ c.rows_of-3.ensures refl (omega (arith, c.requires.1.node_long, c.requires.1.mutations))

pub lowest_overtaken-requires : goal.lowest_overtaken-requires
lowest_overtaken-requires c = held_unlined c.requires.1 (joined_part c.args.nodes.base.ages.time.now c.args.nodes.batch.ages.time.now 1024 c.append.ensures c.requires.1.joint.few) (mapped_part (λ b. index_of b (c.args.nodes.base.ages.birth.now ++ c.args.nodes.batch.ages.birth.now)) c.args.edges.parent.now 4096 _ c.rows_of.ensures c.requires.1.joint.even.parent_long (omega (arith, c.requires.1.edges))) (mapped_part (λ b. index_of b (c.args.nodes.base.ages.birth.now ++ c.args.nodes.batch.ages.birth.now)) c.args.edges.child.now 4096 _ c.rows_of-2.ensures c.requires.1.joint.even.child_long (omega (arith, c.requires.1.edges))) (mapped_part (λ b. index_of b (c.args.nodes.base.ages.birth.now ++ c.args.nodes.batch.ages.birth.now)) c.args.node.now 1024 _ c.rows_of-3.ensures refl (omega (arith, c.requires.1.node_long, c.requires.1.mutations)))

pub returns : goal.returns
returns c = λ base asked derived. held_26 asked (joined_part c.args.nodes.base.ages.time.now c.args.nodes.batch.ages.time.now 1024 c.append.ensures c.requires.1.joint.few) (mapped_part (λ b. index_of b (c.args.nodes.base.ages.birth.now ++ c.args.nodes.batch.ages.birth.now)) c.args.edges.parent.now 4096 _ c.rows_of.ensures c.requires.1.joint.even.parent_long (omega (arith, c.requires.1.edges))) (mapped_part (λ b. index_of b (c.args.nodes.base.ages.birth.now ++ c.args.nodes.batch.ages.birth.now)) c.args.edges.child.now 4096 _ c.rows_of-2.ensures c.requires.1.joint.even.child_long (omega (arith, c.requires.1.edges))) (mapped_part (λ b. index_of b (c.args.nodes.base.ages.birth.now ++ c.args.nodes.batch.ages.birth.now)) c.args.node.now 1024 _ c.rows_of-3.ensures refl (omega (arith, c.requires.1.node_long, c.requires.1.mutations))) _ c.lowest_overtaken.ensures derived
