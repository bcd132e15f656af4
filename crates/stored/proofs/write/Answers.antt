-- `stored::write` meets its contract: a refusal in 01's order, or the file laid piece by piece. Assumes nothing.
use mathlib.Core.Path.{sym, ◌∙◌}
use Rattle.meaning.specs.Columns.{lent_in}
use Rattle.stored.proofs.Writing.{lent_ragged, lent_shaped, lent_over, lent_ample, lent_edge, lent_mutation, lent_populated, lent_full, lent_done, nodes_same, edges_same, sites_same, muts_same}
use native.Mathlib.Omega.{arith}
use Rattle.stored.proofs.write.Goals as goal

pub returns-in-Some : goal.returns-in-Some
returns-in-Some c = lent_ragged c.args.len c.args.tables c.args.samples.now c.args.bytes.now c.uneven.ensures c.in-Some.table c.in-Some.is

pub invariant_of-ages : goal.invariant_of-ages
invariant_of-ages c = record { even = record { birth_long = (nodes_same (lent_in c.args.tables) (lent_shaped c.args.len c.args.tables c.args.samples.now c.args.bytes.now c.uneven.ensures c.in_default.is)).0 } }

pub invariant_of-edges : goal.invariant_of-edges
invariant_of-edges c = record { even = edges_same (lent_in c.args.tables) (lent_shaped c.args.len c.args.tables c.args.samples.now c.args.bytes.now c.uneven.ensures c.in_default.is) }

pub invariant_of-sites : goal.invariant_of-sites
invariant_of-sites c = record { even = sites_same (lent_in c.args.tables) (lent_shaped c.args.len c.args.tables c.args.samples.now c.args.bytes.now c.uneven.ensures c.in_default.is) }

pub invariant_of-mutations : goal.invariant_of-mutations
invariant_of-mutations c = record { even = muts_same (lent_in c.args.tables) (lent_shaped c.args.len c.args.tables c.args.samples.now c.args.bytes.now c.uneven.ensures c.in_default.is) }

pub returns-in-Some-lacking : goal.returns-in-Some-lacking
returns-in-Some-lacking c = lent_over c.args.len c.args.tables c.args.samples.now c.args.bytes.now c.uneven.ensures c.in_default.is c.most.ensures c.lacking.ensures c.in-Some-lacking.table c.in-Some-lacking.is

pub first_wide-requires : goal.first_wide-requires
first_wide-requires c = let e = edges_same (lent_in c.args.tables) (lent_shaped c.args.len c.args.tables c.args.samples.now c.args.bytes.now c.uneven.ensures c.in_default.is) in e.child_long ∙ sym e.parent_long

pub returns-in-Some-first_wide : goal.returns-in-Some-first_wide
returns-in-Some-first_wide c = lent_edge c.args.len c.args.tables c.args.samples.now c.args.bytes.now c.uneven.ensures c.in_default.is c.most.ensures c.lacking.ensures c.in_default-lacking.is c.first_wide.ensures c.in-Some-first_wide.edge c.in-Some-first_wide.is

pub first_wide-requires-2 : goal.first_wide-requires-2
first_wide-requires-2 c = (muts_same (lent_in c.args.tables) (lent_shaped c.args.len c.args.tables c.args.samples.now c.args.bytes.now c.uneven.ensures c.in_default.is)).node_long

pub returns-in-Some-first_wide-2 : goal.returns-in-Some-first_wide-2
returns-in-Some-first_wide-2 c = lent_mutation c.args.len c.args.tables c.args.samples.now c.args.bytes.now c.uneven.ensures c.in_default.is c.most.ensures c.lacking.ensures c.in_default-lacking.is c.first_wide.ensures c.in_default-first_wide.is c.first_wide-2.ensures c.in-Some-first_wide-2.mutation c.in-Some-first_wide-2.is

pub returns-in-Some-first_populated : goal.returns-in-Some-first_populated
returns-in-Some-first_populated c = lent_populated c.args.len c.args.tables c.args.samples.now c.args.bytes.now c.uneven.ensures c.in_default.is c.most.ensures c.lacking.ensures c.in_default-lacking.is c.first_wide.ensures c.in_default-first_wide.is c.first_wide-2.ensures c.in_default-first_wide-2.is c.first_populated.ensures c.in-Some-first_populated.stock c.in-Some-first_populated.is

pub file_bytes-count-requires : goal.file_bytes-count-requires
file_bytes-count-requires c = lent_ample c.args.len c.args.tables c.args.samples.now c.args.bytes.now c.uneven.ensures c.in_default.is c.most.ensures c.lacking.ensures c.in_default-lacking.is

pub returns-then-bytes-count : goal.returns-then-bytes-count
returns-then-bytes-count c = lent_full c.args.len c.args.tables c.args.samples.now c.args.bytes.now c.uneven.ensures c.in_default.is c.most.ensures c.lacking.ensures c.in_default-lacking.is c.first_wide.ensures c.in_default-first_wide.is c.first_wide-2.ensures c.in_default-first_wide-2.is c.first_populated.ensures c.in_default-first_populated.is c.file_bytes-count.ensures c.if-bytes-count.true

pub head-requires : goal.head-requires
head-requires c = omega (arith, c.file_bytes-count.ensures, c.if-bytes-count.false)

pub samples-a-requires : goal.samples-a-requires
samples-a-requires c = omega (arith, c.file_bytes-count.ensures, c.if-bytes-count.false, c.head.auto.out)

pub nodes-b-requires : goal.nodes-b-requires
nodes-b-requires c = omega (arith, c.file_bytes-count.ensures, c.if-bytes-count.false, c.head.auto.out, c.samples-a.auto.out, c.samples-a.ensures.0)

pub edges-c-requires : goal.edges-c-requires
edges-c-requires c = omega (arith, c.file_bytes-count.ensures, c.if-bytes-count.false, c.head.auto.out, c.samples-a.auto.out, c.nodes-b.auto.out, c.samples-a.ensures.0, c.nodes-b.ensures.0)

pub sites-d-requires : goal.sites-d-requires
sites-d-requires c = omega (arith, c.file_bytes-count.ensures, c.if-bytes-count.false, c.head.auto.out, c.samples-a.auto.out, c.nodes-b.auto.out, c.edges-c.auto.out, c.samples-a.ensures.0, c.nodes-b.ensures.0, c.edges-c.ensures.0)

pub mutations-e-requires : goal.mutations-e-requires
mutations-e-requires c = omega (arith, c.file_bytes-count.ensures, c.if-bytes-count.false, c.head.auto.out, c.samples-a.auto.out, c.nodes-b.auto.out, c.edges-c.auto.out, c.sites-d.auto.out, c.samples-a.ensures.0, c.nodes-b.ensures.0, c.edges-c.ensures.0, c.sites-d.ensures.0)

pub mark-requires : goal.mark-requires
mark-requires c = omega (arith, c.file_bytes-count.ensures, c.if-bytes-count.false, c.head.auto.out, c.samples-a.auto.out, c.nodes-b.auto.out, c.edges-c.auto.out, c.sites-d.auto.out, c.mutations-e.auto.out, c.samples-a.ensures.0, c.nodes-b.ensures.0, c.edges-c.ensures.0, c.sites-d.ensures.0, c.mutations-e.ensures.0)

pub returns : goal.returns
returns c = lent_done c.args.len c.args.tables c.args.samples.now c.args.bytes.now c.uneven.ensures c.in_default.is c.most.ensures c.lacking.ensures c.in_default-lacking.is c.first_wide.ensures c.in_default-first_wide.is c.first_wide-2.ensures c.in_default-first_wide-2.is c.first_populated.ensures c.in_default-first_populated.is c.file_bytes-count.ensures c.if-bytes-count.false (record { head = c.head.ensures; samples = c.samples-a.ensures; nodes = c.nodes-b.ensures; edges = c.edges-c.ensures; sites = c.sites-d.ensures; muts = c.mutations-e.ensures; end = c.mark.ensures })
