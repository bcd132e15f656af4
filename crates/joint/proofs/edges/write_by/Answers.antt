-- `write_by` meets its contract: each column is gathered by the rows.
use native.Mathlib.Omega.{arith}
use mathlib.Core.Path.{sym, ap₂, subst, ◌∙◌}
use mathlib.Core.List.{◌++◌}
use Prim.Native.Nat.{◌+◌}
use lib.ListN.{length, length-map}
use lib.Seq.{length-take-le}
use Rattle.meaning.specs.Words.{index_of}
use Rattle.order.specs.Order.{Inside}
use Rattle.batches.specs.Joint.{rows_in}
use Rattle.joint.proofs.Anew.{over_list, from_front}
use Rattle.joint.proofs.edges.write_by.Goals as goal

pub rows_of-requires : goal.rows_of-requires
rows_of-requires c = (omega (arith, c.requires.child_long, c.requires.room.left), c.requires.few)

pub slice_bounds-gather_both-end : goal.slice_bounds-gather_both-end
slice_bounds-gather_both-end c = omega (arith, c.rows_of.auto.out, c.requires.room.left)

pub slice_bounds-gather_both-end-2 : goal.slice_bounds-gather_both-end-2
slice_bounds-gather_both-end-2 c = sym (length-take-le (length c.args.edges.left.now) c.rows_of.new.out (omega (arith, c.rows_of.auto.out, c.requires.room.left)))

pub gather_both-requires : goal.gather_both-requires
gather_both-requires c = (omega (arith, c.requires.long, c.requires.room.child), subst (λ k. Inside k c.args.rows.now) (sym (ap₂ ◌+◌ c.requires.base_child_long (length-take-le (length c.args.edges.left.now) c.rows_of.new.out (omega (arith, c.rows_of.auto.out, c.requires.room.left))))) c.requires.inside)

pub slice_bounds-gather_both-end-3 : goal.slice_bounds-gather_both-end-3
slice_bounds-gather_both-end-3 c = omega (arith, c.requires.room.right)

pub slice_bounds-gather_both-end-4 : goal.slice_bounds-gather_both-end-4
slice_bounds-gather_both-end-4 c = sym (length-take-le (length c.args.edges.left.now) c.args.outright.now (omega (arith, c.requires.room.right)))

pub gather_both-requires-2 : goal.gather_both-requires-2
gather_both-requires-2 c = (omega (arith, c.requires.long, c.requires.room.parent), subst (λ k. Inside k c.args.rows.now) (sym (ap₂ ◌+◌ c.requires.base_parent_long (length-take-le (length c.args.edges.left.now) c.args.outright.now (omega (arith, c.requires.room.right))))) c.requires.inside)

pub gather_both-requires-3 : goal.gather_both-requires-3
gather_both-requires-3 c = (omega (arith, c.requires.long, c.requires.room.left, c.rows_of.auto.out), c.requires.inside)

pub gather_both-requires-4 : goal.gather_both-requires-4
gather_both-requires-4 c = (omega (arith, c.requires.long, c.requires.room.right), subst (λ k. Inside k c.args.rows.now) (sym (ap₂ ◌+◌ c.requires.base_right_long c.requires.right_long)) c.requires.inside)

pub shape_of-outleft : goal.shape_of-outleft
shape_of-outleft c = c.gather_both-3.auto.out ∙ c.rows_of.auto.out

pub shape_of-outright : goal.shape_of-outright
shape_of-outright c = c.gather_both-4.auto.out

pub shape_of-outparent : goal.shape_of-outparent
shape_of-outparent c = c.gather_both-2.auto.out

pub shape_of-outchild : goal.shape_of-outchild
shape_of-outchild c = c.gather_both.auto.out

pub returns : goal.returns
returns c = record { left = over_list (c.args.base_edges.left.now ++ c.args.edges.left.now) (rows_in (c.args.nodes.base.ages.birth.now ++ c.args.nodes.batch.ages.birth.now) c.args.edges.child.now) c.args.outleft.now c.rows_of.new.out _ c.args.rows.now (length c.args.base_edges.left.now + length c.args.edges.left.now) c.rows_of.ensures (omega (arith, length-map c.args.edges.child.now (λ b. index_of b (c.args.nodes.base.ages.birth.now ++ c.args.nodes.batch.ages.birth.now)), c.requires.child_long)) c.requires.long c.requires.room.left (c.gather_both-3.ensures 0); right = (c.gather_both-4.ensures 0); parent = (c.gather_both-2.ensures 0); child = from_front c.args.base_edges.child.now (rows_in (c.args.nodes.base.ages.birth.now ++ c.args.nodes.batch.ages.birth.now) c.args.edges.child.now) c.args.outleft.now c.rows_of.new.out c.args.outchild.now _ c.args.rows.now (length c.args.edges.left.now) c.rows_of.ensures (omega (arith, length-map c.args.edges.child.now (λ b. index_of b (c.args.nodes.base.ages.birth.now ++ c.args.nodes.batch.ages.birth.now)), c.requires.child_long, c.requires.room.left)) (sym (length-map c.args.edges.child.now (λ b. index_of b (c.args.nodes.base.ages.birth.now ++ c.args.nodes.batch.ages.birth.now)) ∙ c.requires.child_long)) (c.gather_both.ensures 0) }
