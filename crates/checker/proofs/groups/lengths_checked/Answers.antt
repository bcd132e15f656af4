-- `lengths_checked` meets its contract: the table that the lengths give is refused, where there is one.
use mathlib.Core.Path.{◌≡◌, refl, sym, ap, subst, ◌∙◌}
use lib.ListN.{length}
use Prim.Native.Nat.{ℕ}
use Rattle.std.specs.Prelude.{Result, Ok, Err, MatchResult}
use Rattle.meaning.specs.Rows as rows
use Rattle.meaning.specs.Answer.{limits, refusal_of}
use Rattle.meaning.specs.declared.Refusal.{Refusal}
use Rattle.meaning.specs.declared.Refusal.TheVariants.{Ragged}
use Rattle.laws.specs.Passing.{passed_on}
use Rattle.meaning.specs.declared.columns.Lent.{Lent}
use Rattle.meaning.specs.declared.columns.Tables.{Tables}
use Rattle.meaning.specs.Columns.{lent_in, tables_in}
use Rattle.rules.specs.Evened.{Evened, aged_in}
use Rattle.rules.specs.Lengths.{lengths_of, ragged_table, large_table, table_of}
use Rattle.checker.specs.Evened.{table_answer, LengthsTold}
use Rattle.rules.proofs.ByLengths.{told_table, no_table}
use Rattle.checker.proofs.Order.{table_found, table_none}
use Rattle.checker.proofs.groups.lengths_checked.Goals as goal

-- the tables have as many rows as those lent
as_lent : (l : Lent) (t : Tables) → tables_in t ≡ aged_in l → table_of (large_table limits (length t.ages.time.now) (length t.edges.left.now) (length t.sites.position.now) (length t.mutations.site.now)) ≡ table_of (large_table limits (length l.time.now) (length l.left.now) (length l.position.now) (length l.site.now))
as_lent l t e = ap (λ (T : rows.Tables). table_of (large_table limits (length T.nodes.time) (length T.edges.left) (length T.sites.position) (length T.muts.site))) e

-- what is told of the tables, and of a table's number that became a refusal
told_ok : (l : Lent) (r : Result Tables ℕ) (t : Tables) → MatchResult r (λ x. ◌≡◌ {A = Result Tables Refusal} (Ok t) (Ok x)) (λ n. ⊥) → Evened l r → (ragged_table (lengths_of (lent_in l)) ≡ 0) × (tables_in t ≡ aged_in l)
told_ok l (Ok x) t a b = let q : t ≡ x = cc in (b.0, ap tables_in q ∙ b.1)
told_ok l (Err n) t a b = absurd a

told_err : (l : Lent) (r : Result Tables ℕ) (e : Refusal) → MatchResult r (λ x. ◌≡◌ {A = Result Tables Refusal} (Err e) (Ok x)) (λ n. e ≡ Ragged n) → Evened l r → refusal_of e ≡ table_answer limits (lent_in l)
told_err l (Ok x) e a b = cc
told_err l (Err n) e a b = ap refusal_of a ∙ sym (table_found _ _ _ _ b.0 b.1)

pub returns-in_err-tables : goal.returns-in_err-tables
returns-in_err-tables c = subst (LengthsTold c.args.lent) (sym (passed_on c.from_residual.ensures.1)) (told_err c.args.lent c.even.result _ c.in_err-tables.ensures.cases c.even.ensures)

pub returns-in-Some : goal.returns-in-Some
returns-in-Some c = let t : _ = told_ok c.args.lent c.even.result c.in_ok-tables.tables c.in_ok-tables.ensures.cases c.even.ensures in
    sym (table_none _ _ 0 _ (sym t.0) refl ∙ told_table _ _ _ _ (c.in-Some.ensures ∙ as_lent c.args.lent c.in_ok-tables.tables t.1))

pub returns : goal.returns
returns c = let t : _ = told_ok c.args.lent c.even.result c.in_ok-tables.tables c.in_ok-tables.ensures.cases c.even.ensures in
    (table_none _ _ 0 _ (sym t.0) refl ∙ no_table _ _ _ (c.in_default.ensures ∙ as_lent c.args.lent c.in_ok-tables.tables t.1), t.1)
