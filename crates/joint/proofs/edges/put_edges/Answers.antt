-- `put_edges` meets its contract: the rows in key order, and each column written by them, over what its front served for.
use native.Mathlib.Omega.{arith}
use mathlib.Core.Path.{sym, ◌∙◌}
use mathlib.Core.List.{[], ◌++◌}
use Prim.Native.Nat.{◌+◌}
use lib.ListN.{length, take, drop}
use lib.Seq.{length-take-le, length_front, take_at}
use Rattle.meaning.specs.Rows.{age_table}
use Rattle.batches.specs.Joint.{rows_in}
use Rattle.joint.proofs.Written.{write_asked, all_written}
use Rattle.joint.proofs.Anew.{edges_anew}
use Rattle.joint.proofs.edges.put_edges.Goals as goal

pub slice_bounds-order_edges-end : goal.slice_bounds-order_edges-end
slice_bounds-order_edges-end c = omega (arith, c.requires.0.room.right)

pub slice_bounds-order_edges-end-2 : goal.slice_bounds-order_edges-end-2
slice_bounds-order_edges-end-2 c = sym (length-take-le (length c.args.edges.left.now) c.args.outright.now (omega (arith, c.requires.0.room.right)))

pub slice_bounds-order_edges-end-3 : goal.slice_bounds-order_edges-end-3
slice_bounds-order_edges-end-3 c = omega (arith, c.requires.0.room.parent)

pub slice_bounds-order_edges-end-4 : goal.slice_bounds-order_edges-end-4
slice_bounds-order_edges-end-4 c = sym (length-take-le (length c.args.edges.left.now) c.args.outparent.now (omega (arith, c.requires.0.room.parent)))

pub slice_bounds-order_edges-end-5 : goal.slice_bounds-order_edges-end-5
slice_bounds-order_edges-end-5 c = omega (arith, c.requires.0.room.child)

pub slice_bounds-order_edges-end-6 : goal.slice_bounds-order_edges-end-6
slice_bounds-order_edges-end-6 c = sym (length-take-le (length c.args.edges.left.now) c.args.outchild.now (omega (arith, c.requires.0.room.child)))

pub order_edges-requires : goal.order_edges-requires
order_edges-requires c = (c.requires.0.found, length-take-le (length c.args.edges.left.now) c.args.outright.now (omega (arith, c.requires.0.room.right)), length-take-le (length c.args.edges.left.now) c.args.outparent.now (omega (arith, c.requires.0.room.parent)), length-take-le (length c.args.edges.left.now) c.args.outchild.now (omega (arith, c.requires.0.room.child)), c.requires.1)

pub write_by-requires : goal.write_by-requires
write_by-requires c = write_asked c.args.len (record { nodes = age_table c.args.nodes.base.ages.time.now c.args.nodes.base.ages.birth.now; edges = record { left = c.args.base_edges.left.now; right = c.args.base_edges.right.now; parent = c.args.base_edges.parent.now; child = c.args.base_edges.child.now }; sites = record { position = []; ancestral = [] }; muts = record { site = []; node = []; derived = [] } }) (record { nodes = age_table c.args.nodes.batch.ages.time.now c.args.nodes.batch.ages.birth.now; edges = record { left = c.args.edges.left.now; right = c.args.edges.right.now; parent = c.args.edges.parent.now; child = c.args.edges.child.now }; muts = record { site = []; node = []; derived = [] } }) c.requires.0.found _ _ c.order_edges.ensures.0 c.order_edges.ensures.1 _ (record { left = c.requires.0.room.left; right = omega (arith, length_front c.args.outright.now c.order_edges.new.parentrow (length c.args.edges.left.now) c.order_edges.auto.parentrow, c.requires.0.room.right); parent = omega (arith, length_front c.args.outparent.now c.order_edges.new.age (length c.args.edges.left.now) c.order_edges.auto.age, c.requires.0.room.parent); child = omega (arith, length_front c.args.outchild.now c.order_edges.new.ord (length c.args.edges.left.now) c.order_edges.auto.ord, c.requires.0.room.child) }) (c.order_edges.auto.rows ∙ c.requires.1)

pub shape_of-rows : goal.shape_of-rows
shape_of-rows c = c.order_edges.auto.rows

pub shape_of-outleft : goal.shape_of-outleft
shape_of-outleft c = c.write_by.auto.outleft

pub shape_of-outright : goal.shape_of-outright
shape_of-outright c = c.write_by.auto.outright ∙ length_front c.args.outright.now c.order_edges.new.parentrow (length c.args.edges.left.now) c.order_edges.auto.parentrow

pub shape_of-outparent : goal.shape_of-outparent
shape_of-outparent c = c.write_by.auto.outparent ∙ length_front c.args.outparent.now c.order_edges.new.age (length c.args.edges.left.now) c.order_edges.auto.age

pub shape_of-outchild : goal.shape_of-outchild
shape_of-outchild c = c.write_by.auto.outchild ∙ length_front c.args.outchild.now c.order_edges.new.ord (length c.args.edges.left.now) c.order_edges.auto.ord

pub returns : goal.returns
returns c = all_written c.args.len (record { nodes = age_table c.args.nodes.base.ages.time.now c.args.nodes.base.ages.birth.now; edges = record { left = c.args.base_edges.left.now; right = c.args.base_edges.right.now; parent = c.args.base_edges.parent.now; child = c.args.base_edges.child.now }; sites = record { position = []; ancestral = [] }; muts = record { site = []; node = []; derived = [] } }) (record { nodes = age_table c.args.nodes.batch.ages.time.now c.args.nodes.batch.ages.birth.now; edges = record { left = c.args.edges.left.now; right = c.args.edges.right.now; parent = c.args.edges.parent.now; child = c.args.edges.child.now }; muts = record { site = []; node = []; derived = [] } }) c.requires.0.found _ _ c.order_edges.ensures.0 c.order_edges.ensures.1 _ (take_at c.order_edges.new.parentrow (drop (length c.args.edges.left.now) c.args.outright.now) (length c.args.edges.left.now) (c.order_edges.auto.parentrow ∙ length-take-le (length c.args.edges.left.now) c.args.outright.now (omega (arith, c.requires.0.room.right)))) _ _ (edges_anew c.order_edges.new.rows (record { left = c.args.base_edges.left.now ++ c.args.edges.left.now; right = c.args.base_edges.right.now ++ c.args.edges.right.now; parent = c.args.base_edges.parent.now ++ take (length c.args.edges.left.now) (c.order_edges.new.parentrow ++ drop (length c.args.edges.left.now) c.args.outright.now); child = c.args.base_edges.child.now ++ rows_in (c.args.nodes.base.ages.birth.now ++ c.args.nodes.batch.ages.birth.now) c.args.edges.child.now }) (record { left = c.args.outleft.now; right = c.args.outright.now; parent = c.args.outparent.now; child = c.args.outchild.now }) _ c.order_edges.new.parentrow c.order_edges.new.age c.order_edges.new.ord (length c.args.edges.left.now) (length c.args.base_edges.left.now + length c.args.edges.left.now) (c.order_edges.auto.parentrow ∙ length-take-le (length c.args.edges.left.now) c.args.outright.now (omega (arith, c.requires.0.room.right))) (c.order_edges.auto.age ∙ length-take-le (length c.args.edges.left.now) c.args.outparent.now (omega (arith, c.requires.0.room.parent))) (c.order_edges.auto.ord ∙ length-take-le (length c.args.edges.left.now) c.args.outchild.now (omega (arith, c.requires.0.room.child))) (omega arith) (c.order_edges.auto.rows ∙ c.requires.1) c.requires.0.room c.write_by.ensures)
