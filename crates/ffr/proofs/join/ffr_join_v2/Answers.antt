-- `ffr::join::ffr_join_v2` meets its contract: C is told what the call answers.
use mathlib.Core.Path.{refl}
use Rattle.meaning.specs.Rows.{Tables}
use Rattle.ffr.proofs.Joining.{tellable, call_told}
use Rattle.meaning.specs.Rows.{node_table, edge_table, site_table, mutation_table, tables}
use Rattle.meaning.specs.Join.{batch_tables}
use Rattle.ffr.proofs.join.ffr_join_v2.Goals as goal

pub tell-requires : goal.tell-requires
tell-requires c = let cells : Tables = record { nodes = record { time = c.join-answer.new.out_time; birth = c.join-answer.new.out_birth; population = c.join-answer.new.out_population }; edges = record { left = c.join-answer.new.out_left; right = c.join-answer.new.out_right; parent = c.join-answer.new.out_parent; child = c.join-answer.new.out_child }; sites = record { position = c.join-answer.new.out_position; ancestral = c.join-answer.new.out_ancestral }; muts = record { site = c.join-answer.new.out_site; node = c.join-answer.new.out_node; derived = c.join-answer.new.out_derived } } in
    tellable c.args.len (tables (node_table c.args.basetime.now c.args.basebirth.now c.args.basepopulation.now) (edge_table c.args.baseleft.now c.args.baseright.now c.args.baseparent.now c.args.basechild.now) (site_table c.args.position.now c.args.ancestral.now) (mutation_table c.args.basesite.now c.args.basenode.now c.args.basederived.now)) (batch_tables (node_table c.args.time.now c.args.birth.now c.args.population.now) (edge_table c.args.left.now c.args.right.now c.args.parent.now c.args.child.now) (mutation_table c.args.site.now c.args.node.now c.args.derived.now)) (tables (node_table c.args.out_time.now c.args.out_birth.now c.args.out_population.now) (edge_table c.args.out_left.now c.args.out_right.now c.args.out_parent.now c.args.out_child.now) (site_table c.args.out_position.now c.args.out_ancestral.now) (mutation_table c.args.out_site.now c.args.out_node.now c.args.out_derived.now)) c.args.block.now c.join-answer.result cells c.join-answer.ensures c.join-answer.result refl

pub shape_of-out_time : goal.shape_of-out_time
shape_of-out_time c = c.join-answer.auto.out_time

pub shape_of-out_birth : goal.shape_of-out_birth
shape_of-out_birth c = c.join-answer.auto.out_birth

pub shape_of-out_population : goal.shape_of-out_population
shape_of-out_population c = c.join-answer.auto.out_population

pub shape_of-out_left : goal.shape_of-out_left
shape_of-out_left c = c.join-answer.auto.out_left

pub shape_of-out_right : goal.shape_of-out_right
shape_of-out_right c = c.join-answer.auto.out_right

pub shape_of-out_parent : goal.shape_of-out_parent
shape_of-out_parent c = c.join-answer.auto.out_parent

pub shape_of-out_child : goal.shape_of-out_child
shape_of-out_child c = c.join-answer.auto.out_child

pub shape_of-out_position : goal.shape_of-out_position
shape_of-out_position c = c.join-answer.auto.out_position

pub shape_of-out_ancestral : goal.shape_of-out_ancestral
shape_of-out_ancestral c = c.join-answer.auto.out_ancestral

pub shape_of-out_site : goal.shape_of-out_site
shape_of-out_site c = c.join-answer.auto.out_site

pub shape_of-out_node : goal.shape_of-out_node
shape_of-out_node c = c.join-answer.auto.out_node

pub shape_of-out_derived : goal.shape_of-out_derived
shape_of-out_derived c = c.join-answer.auto.out_derived

pub returns : goal.returns
returns c = let cells : Tables = record { nodes = record { time = c.join-answer.new.out_time; birth = c.join-answer.new.out_birth; population = c.join-answer.new.out_population }; edges = record { left = c.join-answer.new.out_left; right = c.join-answer.new.out_right; parent = c.join-answer.new.out_parent; child = c.join-answer.new.out_child }; sites = record { position = c.join-answer.new.out_position; ancestral = c.join-answer.new.out_ancestral }; muts = record { site = c.join-answer.new.out_site; node = c.join-answer.new.out_node; derived = c.join-answer.new.out_derived } } in
    call_told c.args.len (tables (node_table c.args.basetime.now c.args.basebirth.now c.args.basepopulation.now) (edge_table c.args.baseleft.now c.args.baseright.now c.args.baseparent.now c.args.basechild.now) (site_table c.args.position.now c.args.ancestral.now) (mutation_table c.args.basesite.now c.args.basenode.now c.args.basederived.now)) (batch_tables (node_table c.args.time.now c.args.birth.now c.args.population.now) (edge_table c.args.left.now c.args.right.now c.args.parent.now c.args.child.now) (mutation_table c.args.site.now c.args.node.now c.args.derived.now)) (tables (node_table c.args.out_time.now c.args.out_birth.now c.args.out_population.now) (edge_table c.args.out_left.now c.args.out_right.now c.args.out_parent.now c.args.out_child.now) (site_table c.args.out_position.now c.args.out_ancestral.now) (mutation_table c.args.out_site.now c.args.out_node.now c.args.out_derived.now)) c.args.block.now c.join-answer.result cells c.join-answer.ensures c.join-answer.result refl _ _ c.tell.ensures
