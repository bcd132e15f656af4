-- `order_edges` meets its contract: births become rows, and the rows of both are merged by key.
use native.Mathlib.Omega.{arith}
use mathlib.Core.Path.{sym, ◌∙◌}
use mathlib.Core.List.{[], ◌++◌}
use lib.ListN.{length-map}
use Rattle.meaning.specs.Words.{index_of}
use Rattle.meaning.specs.Rows.{age_table}
use Rattle.batches.specs.Joint.{rows_in, joint_few}
use Rattle.batches.proofs.Fronts.{put_whole}
use Rattle.joint.proofs.Written.{rises, parents_inside, mergeable, in_key_order}
use Rattle.joint.proofs.edges.order_edges.Goals as goal

pub rows_of-requires : goal.rows_of-requires
rows_of-requires c = (omega (arith, c.requires.0.joint.even.parent_long, c.requires.1), joint_few c.requires.0.joint)

pub rows_by_key-requires : goal.rows_by_key-requires
rows_by_key-requires c = (mergeable c.args.len (record { nodes = age_table c.args.nodes.base.ages.time.now c.args.nodes.base.ages.birth.now; edges = record { left = c.args.base_edges.left.now; right = c.args.base_edges.right.now; parent = c.args.base_edges.parent.now; child = c.args.base_edges.child.now }; sites = record { position = []; ancestral = [] }; muts = record { site = []; node = []; derived = [] } }) (record { nodes = age_table c.args.nodes.batch.ages.time.now c.args.nodes.batch.ages.birth.now; edges = record { left = c.args.edges.left.now; right = c.args.edges.right.now; parent = c.args.edges.parent.now; child = c.args.edges.child.now }; muts = record { site = []; node = []; derived = [] } }) c.requires.0 _ (c.rows_of.ensures ∙ put_whole (rows_in (c.args.nodes.base.ages.birth.now ++ c.args.nodes.batch.ages.birth.now) c.args.edges.parent.now) c.args.parentrow.now (c.requires.1 ∙ sym (length-map c.args.edges.parent.now (λ b. index_of b (c.args.nodes.base.ages.birth.now ++ c.args.nodes.batch.ages.birth.now)) ∙ c.requires.0.joint.even.parent_long))), rises c.args.len (record { nodes = age_table c.args.nodes.base.ages.time.now c.args.nodes.base.ages.birth.now; edges = record { left = c.args.base_edges.left.now; right = c.args.base_edges.right.now; parent = c.args.base_edges.parent.now; child = c.args.base_edges.child.now }; sites = record { position = []; ancestral = [] }; muts = record { site = []; node = []; derived = [] } }) (record { nodes = age_table c.args.nodes.batch.ages.time.now c.args.nodes.batch.ages.birth.now; edges = record { left = c.args.edges.left.now; right = c.args.edges.right.now; parent = c.args.edges.parent.now; child = c.args.edges.child.now }; muts = record { site = []; node = []; derived = [] } }) c.requires.0, parents_inside c.args.len (record { nodes = age_table c.args.nodes.base.ages.time.now c.args.nodes.base.ages.birth.now; edges = record { left = c.args.base_edges.left.now; right = c.args.base_edges.right.now; parent = c.args.base_edges.parent.now; child = c.args.base_edges.child.now }; sites = record { position = []; ancestral = [] }; muts = record { site = []; node = []; derived = [] } }) (record { nodes = age_table c.args.nodes.batch.ages.time.now c.args.nodes.batch.ages.birth.now; edges = record { left = c.args.edges.left.now; right = c.args.edges.right.now; parent = c.args.edges.parent.now; child = c.args.edges.child.now }; muts = record { site = []; node = []; derived = [] } }) c.requires.0 _ (c.rows_of.ensures ∙ put_whole (rows_in (c.args.nodes.base.ages.birth.now ++ c.args.nodes.batch.ages.birth.now) c.args.edges.parent.now) c.args.parentrow.now (c.requires.1 ∙ sym (length-map c.args.edges.parent.now (λ b. index_of b (c.args.nodes.base.ages.birth.now ++ c.args.nodes.batch.ages.birth.now)) ∙ c.requires.0.joint.even.parent_long))), c.requires.2, c.requires.3, c.requires.4)

pub shape_of-parentrow : goal.shape_of-parentrow
shape_of-parentrow c = c.rows_of.auto.out

pub shape_of-age : goal.shape_of-age
shape_of-age c = c.rows_by_key.auto.age

pub shape_of-ord : goal.shape_of-ord
shape_of-ord c = c.rows_by_key.auto.ord

pub shape_of-rows : goal.shape_of-rows
shape_of-rows c = c.rows_by_key.auto.rows

pub returns : goal.returns
returns c = ((c.rows_of.ensures ∙ put_whole (rows_in (c.args.nodes.base.ages.birth.now ++ c.args.nodes.batch.ages.birth.now) c.args.edges.parent.now) c.args.parentrow.now (c.requires.1 ∙ sym (length-map c.args.edges.parent.now (λ b. index_of b (c.args.nodes.base.ages.birth.now ++ c.args.nodes.batch.ages.birth.now)) ∙ c.requires.0.joint.even.parent_long))), in_key_order c.args.len (record { nodes = age_table c.args.nodes.base.ages.time.now c.args.nodes.base.ages.birth.now; edges = record { left = c.args.base_edges.left.now; right = c.args.base_edges.right.now; parent = c.args.base_edges.parent.now; child = c.args.base_edges.child.now }; sites = record { position = []; ancestral = [] }; muts = record { site = []; node = []; derived = [] } }) (record { nodes = age_table c.args.nodes.batch.ages.time.now c.args.nodes.batch.ages.birth.now; edges = record { left = c.args.edges.left.now; right = c.args.edges.right.now; parent = c.args.edges.parent.now; child = c.args.edges.child.now }; muts = record { site = []; node = []; derived = [] } }) c.requires.0 _ (c.rows_of.ensures ∙ put_whole (rows_in (c.args.nodes.base.ages.birth.now ++ c.args.nodes.batch.ages.birth.now) c.args.edges.parent.now) c.args.parentrow.now (c.requires.1 ∙ sym (length-map c.args.edges.parent.now (λ b. index_of b (c.args.nodes.base.ages.birth.now ++ c.args.nodes.batch.ages.birth.now)) ∙ c.requires.0.joint.even.parent_long))) _ c.rows_by_key.ensures)
