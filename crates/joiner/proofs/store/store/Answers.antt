-- `joiner::store::store` meets its contract: 13 before anything is written, or one table after the other.
use native.Mathlib.Omega.{arith}
use Rattle.meaning.specs.Rows.{node_table, edge_table, site_table, mutation_table, tables}
use Rattle.joiner.proofs.Result.{nodes_room, edges_room, sites_room, mutations_room, all_written}
use Rattle.laws.specs.Passing.{passed_on}
use Rattle.joiner.proofs.Entry.{stored_refused, stored_fits, stored_done}
use Rattle.joiner.proofs.store.store.Goals as goal

pub overflow_add-nodes : goal.overflow_add-nodes
overflow_add-nodes c = omega (arith, c.requires.0.batch.size.nodes)

pub overflow_add-edges : goal.overflow_add-edges
overflow_add-edges c = omega (arith, c.requires.0.batch.size.edges)

pub overflow_add-mutations : goal.overflow_add-mutations
overflow_add-mutations c = omega (arith, c.requires.0.batch.size.muts)

pub returns-in_err-check_room_and_block : goal.returns-in_err-check_room_and_block
returns-in_err-check_room_and_block c = stored_refused _ _ _ c.requires.0 _ _ c.check_room_and_block.result c.check_room_and_block.ensures _ c.in_err-check_room_and_block.was _ (passed_on c.from_residual.ensures.1)

pub write_nodes-requires : goal.write_nodes-requires
write_nodes-requires c = nodes_room _ _ _ c.requires.0 (tables (node_table c.args.out_time.now c.args.out_birth.now c.args.out_population.now) (edge_table c.args.out_left.now c.args.out_right.now c.args.out_parent.now c.args.out_child.now) (site_table c.args.out_position.now c.args.out_ancestral.now) (mutation_table c.args.out_site.now c.args.out_node.now c.args.out_derived.now)) (stored_fits _ _ _ c.requires.0 _ _ c.check_room_and_block.result c.check_room_and_block.ensures c.in_ok-check_room_and_block.was)

pub join_edges-requires : goal.join_edges-requires
join_edges-requires c = edges_room _ _ _ c.requires.0 (tables (node_table c.args.out_time.now c.args.out_birth.now c.args.out_population.now) (edge_table c.args.out_left.now c.args.out_right.now c.args.out_parent.now c.args.out_child.now) (site_table c.args.out_position.now c.args.out_ancestral.now) (mutation_table c.args.out_site.now c.args.out_node.now c.args.out_derived.now)) (stored_fits _ _ _ c.requires.0 _ _ c.check_room_and_block.result c.check_room_and_block.ensures c.in_ok-check_room_and_block.was)

pub write_sites-requires : goal.write_sites-requires
write_sites-requires c = sites_room _ _ _ c.requires.0 (tables (node_table c.args.out_time.now c.args.out_birth.now c.args.out_population.now) (edge_table c.args.out_left.now c.args.out_right.now c.args.out_parent.now c.args.out_child.now) (site_table c.args.out_position.now c.args.out_ancestral.now) (mutation_table c.args.out_site.now c.args.out_node.now c.args.out_derived.now)) (stored_fits _ _ _ c.requires.0 _ _ c.check_room_and_block.result c.check_room_and_block.ensures c.in_ok-check_room_and_block.was)

pub join_mutations-requires : goal.join_mutations-requires
join_mutations-requires c = mutations_room _ _ _ c.requires.0 (tables (node_table c.args.out_time.now c.args.out_birth.now c.args.out_population.now) (edge_table c.args.out_left.now c.args.out_right.now c.args.out_parent.now c.args.out_child.now) (site_table c.args.out_position.now c.args.out_ancestral.now) (mutation_table c.args.out_site.now c.args.out_node.now c.args.out_derived.now)) (stored_fits _ _ _ c.requires.0 _ _ c.check_room_and_block.result c.check_room_and_block.ensures c.in_ok-check_room_and_block.was)

pub returns : goal.returns
returns c = stored_done _ _ _ c.requires.0 _ _ c.check_room_and_block.result c.check_room_and_block.ensures c.in_ok-check_room_and_block.was _ (all_written _ _ _ c.requires.0 _ _ c.write_nodes.ensures c.join_edges.ensures c.write_sites.ensures c.join_mutations.ensures)
