-- Rules 8 to 10: what they answer, by the rows that the searches gave; rule 10 is searched by rows and said by births.
use mathlib.Core.Path.{◌≡◌, sym, ap, ◌∙◌}
use mathlib.Core.Bool.{Bool}
use mathlib.Core.List.{List}
use Prim.Native.Nat.{ℕ}
use lib.ListN.{length}
use Rattle.std.specs.Prelude.{Option, Some, None}
use Rattle.meaning.specs.Words.{at, lowest_row, row_below}
use Rattle.meaning.specs.Rows.{EdgeColumns, MutationColumns, Tables, edges_of, mutation_table}
use Rattle.meaning.specs.Answer.{Answer, answer, done, refuse_row}
use Rattle.meaning.specs.Check.{site_broken, mutation_broken, mutation_above, site_rules}
use Rattle.ancestry.specs.Column.{Rising}
use Rattle.overtaking.specs.Overtaken.{Lined}
use Rattle.overtaking.specs.Births.{first_above_births}
use Rattle.checker.specs.Found.{Shaped, TreeSound}
use Rattle.checker.proofs.Order.{row_found, row_none, none_found}
use Rattle.checker.proofs.Rows.{rising, lined, apart}

-- rule 10 found among the mutations by site is rule 10 of the tables, whose derived states it does not look at
pub of_sites : (E : EdgeColumns) (position : List ℕ) (M : MutationColumns) {position' site node : List ℕ} {r : Option ℕ} → position' ≡ position → site ≡ M.site → node ≡ M.node → ((derived : List ℕ) → r ≡ lowest_row (mutation_above (edges_of (λ x. x) E) position' (λ x. x) (mutation_table site node derived)) (length site)) → r ≡ lowest_row (mutation_above (edges_of (λ x. x) E) position (λ x. x) M) (length M.site)
of_sites E position M p s n h = let k : _ = h M.derived in rw (p, s, n) at k

module _ (L : ℕ) (T : Tables) where
  abbrev position : List ℕ
  position = T.sites.position

  abbrev rows : ℕ
  rows = length T.muts.site

  abbrev broken : ℕ → Bool
  broken = mutation_broken (length T.sites.position) (length T.nodes.time) T.muts

  -- rule 10 by births, as 01 says it
  abbrev above : ℕ → Bool
  above = mutation_above (edges_of (at T.nodes.birth) T.edges) T.sites.position (at T.nodes.birth) T.muts

  abbrev after_9 : Answer
  after_9 = refuse_row 10 above rows done

  abbrev after_8 : Answer
  after_8 = refuse_row 9 broken rows after_9

  pub site_refused : (p : ℕ) → Some p ≡ lowest_row (site_broken L T.sites.position) (length T.sites.position) → answer 8 p ≡ site_rules L T done
  unfolding site_rules
  site_refused p e = sym (row_found (site_broken L position) 8 (length position) after_8 p e)

  module _ (e : None ≡ lowest_row (site_broken L T.sites.position) (length T.sites.position)) where
    past_8 : site_rules L T done ≡ after_8
    unfolding site_rules
    past_8 = row_none (site_broken L position) 8 (length position) after_8 e

    pub mutation_refused : (m : ℕ) → Some m ≡ lowest_row (mutation_broken (length T.sites.position) (length T.nodes.time) T.muts) (length T.muts.site) → answer 9 m ≡ site_rules L T done
    mutation_refused m f = sym (past_8 ∙ row_found broken 9 rows after_9 m f)

    module _ (f : None ≡ lowest_row (mutation_broken (length T.sites.position) (length T.nodes.time) T.muts) (length T.muts.site)) (sh : Shaped T) (tr : TreeSound L T.nodes T.edges) where
      past_9 : site_rules L T done ≡ after_9
      past_9 = past_8 ∙ row_none broken 9 rows after_9 f

      mutations_lined : Lined (length T.sites.position) (length T.nodes.time) T.muts.site T.muts.node
      mutations_lined = lined (length position) (length T.nodes.time) T.muts sh.node_long (none_found broken rows f)

      edges_rise : Rising T.nodes.time T.edges
      edges_rise = rising L T.nodes.time T.edges sh.edges tr.whole

      by_births : lowest_row (mutation_above (edges_of (λ x. x) T.edges) T.sites.position (λ x. x) T.muts) (length T.muts.site) ≡ lowest_row (mutation_above (edges_of (at T.nodes.birth) T.edges) T.sites.position (at T.nodes.birth) T.muts) (length T.muts.site)
      by_births = ap (row_below rows) (first_above_births T.nodes.time T.nodes.birth position T.edges T.muts sh.birth_long (apart T.nodes.birth tr.once) edges_rise mutations_lined)

      pub above_refused : (a : ℕ) → Some a ≡ lowest_row (mutation_above (edges_of (λ x. x) T.edges) T.sites.position (λ x. x) T.muts) (length T.muts.site) → answer 10 a ≡ site_rules L T done
      above_refused a g = sym (past_9 ∙ row_found above 10 rows done a (g ∙ by_births))

      pub none_refused : None ≡ lowest_row (mutation_above (edges_of (λ x. x) T.edges) T.sites.position (λ x. x) T.muts) (length T.muts.site) → done ≡ site_rules L T done
      none_refused g = sym (past_9 ∙ row_none above 10 rows done (g ∙ by_births))
