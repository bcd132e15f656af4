-- Rules 20 and 21 on lengths alone: the table that is refused, 0 where none is.
use Rattle.std.specs.Prelude.{ℕ, ◌+◌, ltb, length}
use Rattle.meaning.specs.Words.{or}
use Rattle.meaning.specs.Rows.{Tables}
use Rattle.meaning.specs.Answer.{Limits}
use Rattle.meaning.specs.Join.{BatchTables}
use Rattle.rules.specs.Lengths.{unlike, table_if}

-- 20: the lowest batch table whose columns differ in length
unfoldable pub batch_ragged : ℕ → ℕ → ℕ → ℕ → ℕ → ℕ → ℕ → ℕ → ℕ → ℕ → ℕ
batch_ragged time birth population left right parent child site node derived =
    table_if (or (unlike birth time) (unlike population time)) 1
    (table_if (or (unlike right left) (or (unlike parent left) (unlike child left))) 2
    (table_if (or (unlike node site) (unlike derived site)) 4 0))

-- 21: the lowest table that base and batch together make too long
unfoldable pub batch_large : Limits → ℕ → ℕ → ℕ → ℕ → ℕ → ℕ → ℕ
batch_large m base_nodes base_edges base_mutations nodes edges mutations =
    table_if (ltb m.nodes (base_nodes + nodes)) 1
    (table_if (ltb m.edges (base_edges + edges)) 2
    (table_if (ltb m.mutations (base_mutations + mutations)) 4 0))

-- the same of tables
abbrev pub ragged_of : BatchTables → ℕ
ragged_of B = batch_ragged (length B.nodes.time) (length B.nodes.birth) (length B.nodes.population) (length B.edges.left) (length B.edges.right) (length B.edges.parent) (length B.edges.child) (length B.muts.site) (length B.muts.node) (length B.muts.derived)

abbrev pub large_of : Limits → Tables → BatchTables → ℕ
large_of m T B = batch_large m (length T.nodes.time) (length T.edges.left) (length T.muts.site) (length B.nodes.time) (length B.edges.left) (length B.muts.site)
