-- Rule 1 on tables as lent: the tables themselves where the columns of each are equally long, and else the lowest table whose columns are not.
use Rattle.std.specs.Prelude.{◌≡◌, ◌≢◌, ℕ, Result, MatchResult}
use Rattle.meaning.specs.Rows.{age_table, edge_table, site_table, mutation_table, tables}
use Rattle.meaning.specs.Rows as rows
use Rattle.meaning.specs.declared.columns.Lent.{Lent}
use Rattle.meaning.specs.declared.columns.Tables.{Tables}
use Rattle.meaning.specs.Columns.{lent_in, tables_in}
use Rattle.rules.specs.Lengths.{lengths_of, ragged_table}

-- tables 1 to 4 as lent, without the populations
abbrev pub aged_in : Lent → rows.Tables
aged_in l = tables (age_table l.time.now l.birth.now) (edge_table l.left.now l.right.now l.parent.now l.child.now) (site_table l.position.now l.ancestral.now) (mutation_table l.site.now l.node.now l.derived.now)

-- what is answered of the tables lent
abbrev pub Evened : Lent → Result Tables ℕ → Type 0
Evened l r = MatchResult r
    (λ t. (ragged_table (lengths_of (lent_in l)) ≡ 0) × (tables_in t ≡ aged_in l))
    (λ n. (n ≡ ragged_table (lengths_of (lent_in l))) × (n ≢ 0))
