-- `stored::read` meets its contract: a refusal of the first pass, a table that lacks room, or every column filled. Assumes nothing.
use Rattle.std.proofs.Common.{rules}
use Rattle.meaning.specs.Rows.{node_table, edge_table, site_table, mutation_table, tables}
use Rattle.stored.proofs.Returning.{file_whole, read_stops, read_ready, read_short, read_whole}
use Rattle.stored.proofs.read.Goals as goal

pub returns-in_err-found : goal.returns-in_err-found
returns-in_err-found c = read_stops c.args.bytes.now (tables (node_table c.args.time.now c.args.birth.now c.args.population.now) (edge_table c.args.left.now c.args.right.now c.args.parent.now c.args.child.now) (site_table c.args.position.now c.args.ancestral.now) (mutation_table c.args.site.now c.args.node.now c.args.derived.now)) c.args.samples.now c.scan.ensures c.in_err-found.field-0.0 c.in_err-found.was (search rules)

pub returns-in-Some : goal.returns-in-Some
returns-in-Some c = read_short c.args.bytes.now (tables (node_table c.args.time.now c.args.birth.now c.args.population.now) (edge_table c.args.left.now c.args.right.now c.args.parent.now c.args.child.now) (site_table c.args.position.now c.args.ancestral.now) (mutation_table c.args.site.now c.args.node.now c.args.derived.now)) c.args.samples.now c.scan.ensures c.in_ok-found.found c.in_ok-found.was c.found_rows-rows.ensures c.room.ensures c.lacking.ensures c.in-Some.table c.in-Some.is

pub get32-len-requires : goal.get32-len-requires
get32-len-requires c = (file_whole c.args.bytes.now c.scan.result c.in_ok-found.found c.scan.ensures c.in_ok-found.was).first

pub nodes-requires : goal.nodes-requires
nodes-requires c = (read_ready c.args.bytes.now (tables (node_table c.args.time.now c.args.birth.now c.args.population.now) (edge_table c.args.left.now c.args.right.now c.args.parent.now c.args.child.now) (site_table c.args.position.now c.args.ancestral.now) (mutation_table c.args.site.now c.args.node.now c.args.derived.now)) c.args.samples.now c.scan.ensures c.in_ok-found.found c.in_ok-found.was c.found_rows-rows.ensures c.room.ensures c.lacking.ensures c.in_default.is).nodes

pub settle-requires : goal.settle-requires
settle-requires c = (read_ready c.args.bytes.now (tables (node_table c.args.time.now c.args.birth.now c.args.population.now) (edge_table c.args.left.now c.args.right.now c.args.parent.now c.args.child.now) (site_table c.args.position.now c.args.ancestral.now) (mutation_table c.args.site.now c.args.node.now c.args.derived.now)) c.args.samples.now c.scan.ensures c.in_ok-found.found c.in_ok-found.was c.found_rows-rows.ensures c.room.ensures c.lacking.ensures c.in_default.is).population

pub edges-requires : goal.edges-requires
edges-requires c = (read_ready c.args.bytes.now (tables (node_table c.args.time.now c.args.birth.now c.args.population.now) (edge_table c.args.left.now c.args.right.now c.args.parent.now c.args.child.now) (site_table c.args.position.now c.args.ancestral.now) (mutation_table c.args.site.now c.args.node.now c.args.derived.now)) c.args.samples.now c.scan.ensures c.in_ok-found.found c.in_ok-found.was c.found_rows-rows.ensures c.room.ensures c.lacking.ensures c.in_default.is).edges

pub sites-requires : goal.sites-requires
sites-requires c = (read_ready c.args.bytes.now (tables (node_table c.args.time.now c.args.birth.now c.args.population.now) (edge_table c.args.left.now c.args.right.now c.args.parent.now c.args.child.now) (site_table c.args.position.now c.args.ancestral.now) (mutation_table c.args.site.now c.args.node.now c.args.derived.now)) c.args.samples.now c.scan.ensures c.in_ok-found.found c.in_ok-found.was c.found_rows-rows.ensures c.room.ensures c.lacking.ensures c.in_default.is).sites

pub mutations-requires : goal.mutations-requires
mutations-requires c = (read_ready c.args.bytes.now (tables (node_table c.args.time.now c.args.birth.now c.args.population.now) (edge_table c.args.left.now c.args.right.now c.args.parent.now c.args.child.now) (site_table c.args.position.now c.args.ancestral.now) (mutation_table c.args.site.now c.args.node.now c.args.derived.now)) c.args.samples.now c.scan.ensures c.in_ok-found.found c.in_ok-found.was c.found_rows-rows.ensures c.room.ensures c.lacking.ensures c.in_default.is).muts

pub samples-requires : goal.samples-requires
samples-requires c = (read_ready c.args.bytes.now (tables (node_table c.args.time.now c.args.birth.now c.args.population.now) (edge_table c.args.left.now c.args.right.now c.args.parent.now c.args.child.now) (site_table c.args.position.now c.args.ancestral.now) (mutation_table c.args.site.now c.args.node.now c.args.derived.now)) c.args.samples.now c.scan.ensures c.in_ok-found.found c.in_ok-found.was c.found_rows-rows.ensures c.room.ensures c.lacking.ensures c.in_default.is).samples

pub returns : goal.returns
returns c = read_whole c.args.bytes.now (tables (node_table c.args.time.now c.args.birth.now c.args.population.now) (edge_table c.args.left.now c.args.right.now c.args.parent.now c.args.child.now) (site_table c.args.position.now c.args.ancestral.now) (mutation_table c.args.site.now c.args.node.now c.args.derived.now)) c.args.samples.now c.scan.ensures c.in_ok-found.found c.in_ok-found.was c.found_rows-rows.ensures c.room.ensures c.lacking.ensures c.in_default.is _ _ c.get32-len.result (record { time = c.nodes.ensures.0; birth = c.nodes.ensures.1; population = c.settle.ensures; left = c.edges.ensures.0; right = c.edges.ensures.1; parent = c.edges.ensures.2; child = c.edges.ensures.3; position = c.sites.ensures.0; ancestral = c.sites.ensures.1; site = c.mutations.ensures.0; node = c.mutations.ensures.1; derived = c.mutations.ensures.2; samples = c.samples.ensures }) c.get32-len.ensures
