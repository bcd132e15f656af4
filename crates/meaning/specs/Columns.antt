-- What the code's columns hold: the tables of 01, as the definitions speak of them.
use Rattle.meaning.specs.Rows.{node_table, age_table, edge_table, site_table, mutation_table, tables}
use Rattle.meaning.specs.Rows as rows
use Rattle.meaning.specs.declared.columns.Ages.{Ages}
use Rattle.meaning.specs.declared.columns.EdgeColumns.{EdgeColumns}
use Rattle.meaning.specs.declared.columns.SiteColumns.{SiteColumns}
use Rattle.meaning.specs.declared.columns.MutationColumns.{MutationColumns}
use Rattle.meaning.specs.declared.columns.Tables.{Tables}
use Rattle.meaning.specs.declared.columns.Lent.{Lent}
use Rattle.meaning.specs.declared.columns.BatchTables.{BatchTables}
use Rattle.meaning.specs.declared.columns.Batch.{Batch}
use Rattle.meaning.specs.Join as join

abbrev pub ages_in : Ages → rows.NodeColumns
ages_in a = age_table a.time.now a.birth.now

abbrev pub edges_in : EdgeColumns → rows.EdgeColumns
edges_in e = edge_table e.left.now e.right.now e.parent.now e.child.now

abbrev pub sites_in : SiteColumns → rows.SiteColumns
sites_in p = site_table p.position.now p.ancestral.now

abbrev pub mutations_in : MutationColumns → rows.MutationColumns
mutations_in m = mutation_table m.site.now m.node.now m.derived.now

-- tables 1 to 4 without the populations
abbrev pub tables_in : Tables → rows.Tables
tables_in t = tables (ages_in t.ages) (edges_in t.edges) (sites_in t.sites) (mutations_in t.mutations)

-- tables 1 to 4 as lent
abbrev pub lent_in : Lent → rows.Tables
lent_in t = tables (node_table t.time.now t.birth.now t.population.now) (edge_table t.left.now t.right.now t.parent.now t.child.now) (site_table t.position.now t.ancestral.now) (mutation_table t.site.now t.node.now t.derived.now)

-- a batch without the populations
abbrev pub batch_tables_in : BatchTables → join.BatchTables
batch_tables_in b = join.batch_tables (ages_in b.ages) (edges_in b.edges) (mutations_in b.mutations)

-- a batch as lent
abbrev pub batch_in : Batch → join.BatchTables
batch_in b = join.batch_tables (node_table b.time.now b.birth.now b.population.now) (edge_table b.left.now b.right.now b.parent.now b.child.now) (mutation_table b.site.now b.node.now b.derived.now)
