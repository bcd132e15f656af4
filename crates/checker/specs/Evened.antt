-- What rules 1 and 2 answer of tables as lent, by lengths alone.
use Rattle.std.specs.Prelude.{◌≡◌, length, Result, MatchResult}
use Rattle.meaning.specs.Rows as rows
use Rattle.meaning.specs.Answer.{Answer, Limits, done, limits, refusal_of}
use Rattle.meaning.specs.declared.Refusal.{Refusal}
use Rattle.meaning.specs.declared.columns.Lent.{Lent}
use Rattle.meaning.specs.declared.columns.Tables.{Tables}
use Rattle.meaning.specs.Columns.{lent_in, tables_in}
use Rattle.rules.specs.Lengths.{lengths_of, ragged_table, large_table, refuse_table}
use Rattle.rules.specs.Evened.{aged_in}
use Rattle.checker.specs.Found.{Shaped}

-- their answer
abbrev pub table_answer : Limits → rows.Tables → Answer
table_answer m T = refuse_table 1 (ragged_table (lengths_of T)) (refuse_table 2 (large_table m (length T.nodes.time) (length T.edges.left) (length T.sites.position) (length T.muts.site)) done)

-- the tables without the populations where they refuse nothing, and else the refusal
abbrev pub LengthsTold : Lent → Result Tables Refusal → Type 0
LengthsTold l r = MatchResult r
    (λ t. (table_answer limits (lent_in l) ≡ done) × (tables_in t ≡ aged_in l))
    (λ e. refusal_of e ≡ table_answer limits (lent_in l))

-- 1 is told by the type of the tables
pub shaped : (t : Tables) → Shaped (tables_in t)
shaped t = record {
  birth_long = t.ages.even.birth_long;
  edges = t.edges.even;
  ancestral_long = t.sites.even.ancestral_long;
  node_long = t.mutations.even.node_long;
  derived_long = t.mutations.even.derived_long;
}
