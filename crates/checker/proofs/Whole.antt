-- The groups put together: what a check of several groups answers, by the answers of its groups.
use mathlib.Core.Path.{◌≡◌, refl, sym, ap, subst, ◌∙◌}
use mathlib.Core.Bool.{true, false}
use mathlib.Core.List.{List}
use Prim.Native.Nat.{ℕ, ◌<◌, ◌≤◌}
use lib.Dec.{ltb}
use lib.ListN.{length, take}
use borrow.Author.Tests.{lt-ltb, le-ltb}
use Rattle.meaning.specs.Rows.{NodeColumns, EdgeColumns, Tables}
use Rattle.meaning.specs.Answer.{Answer, Limits, answer, done, limits, refuse, checked_of}
use Rattle.meaning.specs.Check.{length_broken, shapes, sizes, tree_rules, site_rules, rules, check_then, sample_rules, check_all_then, check}
use Rattle.meaning.specs.declared.Refusal.{Refusal}
use Rattle.meaning.specs.Answer.{Checked}
use Rattle.std.specs.Prelude.{Ok, Err}
use Rattle.rules.specs.Lengths.{lengths_of, ragged_table, refuse_table}
use Rattle.rules.proofs.ByLengths.{shapes_by_lengths, sizes_by_lengths}
use Rattle.meaning.specs.declared.columns.Lent.{Lent}
use Rattle.meaning.specs.declared.columns.Tables as Code
use Rattle.meaning.specs.Columns.{lent_in, tables_in}
use Rattle.rules.specs.Evened.{aged_in}
use Rattle.checker.specs.Found.{Shaped, Sized, TreeSound, Ordered}
use Rattle.checker.specs.Evened.{table_answer}
use Rattle.checker.specs.Aged.{aged, rules_aged, shaped_aged, sized_aged}
use Rattle.checker.proofs.Order.{refuse_yes, refuse_no}
use Rattle.checker.proofs.After.{Hands, hands, stops, goes_on, was_sound, shapes_after, sizes_after, tree_after, rules_after}
use Rattle.checker.proofs.Sound.{shapes_sound, sizes_sound, tree_sound}

-- ---- 1 and 2, which code knows by lengths

abbrev pub length_rules : Limits → Tables → Answer → Answer
length_rules m T rest = shapes T (sizes m T rest)

module _ (m : Limits) (T : Tables) (s : Checked) (e : checked_of s ≡ table_answer m T) where
  by_lengths : checked_of s ≡ length_rules m T done
  by_lengths = e ∙ sym (shapes_by_lengths T (sizes m T done) ∙ ap (refuse_table 1 (ragged_table (lengths_of T))) (sizes_by_lengths m T done))

  lengths_hand : Hands (length_rules m T)
  lengths_hand = hands (length_rules m T) (λ a rest. ap (shapes T) (sizes_after m T a rest) ∙ shapes_after T (sizes m T a) rest)

  lengths_stop : (r : Refusal) → s ≡ Err r → (rest : Answer) → checked_of s ≡ length_rules m T rest
  lengths_stop = stops (length_rules m T) lengths_hand s by_lengths

  lengths_go_on : s ≡ Ok tt → (rest : Answer) → length_rules m T rest ≡ rest
  lengths_go_on = goes_on (length_rules m T) lengths_hand s by_lengths

  pub lengths_found : s ≡ Ok tt → Shaped (aged T) × Sized m (aged T)
  lengths_found q =
      let one : _ = shapes_sound T (sizes m T done) (was_sound (length_rules m T) lengths_hand s by_lengths q) in
      let two : _ = sizes_sound m T done one.1 in
      (shaped_aged one.0, sized_aged two.0)

-- ---- 3 to 10

pub trees_found : (L : ℕ) (N : NodeColumns) (E : EdgeColumns) (t : Checked) → checked_of t ≡ tree_rules L N E done → t ≡ Ok tt → TreeSound L N E
trees_found L N E t e q = (tree_sound L N E done (was_sound (tree_rules L N E) (hands (tree_rules L N E) (tree_after L N E)) t e q)).0

module _ (L : ℕ) (T : Tables) where
  pub length_refused : length_broken L ≡ true → answer 3 0 ≡ rules L T done
  unfolding rules
  length_refused b = sym (refuse_yes 3 0 (tree_rules L T.nodes T.edges (site_rules L T done)) b)

  module _ (b : length_broken L ≡ false) (t : Checked) (e : checked_of t ≡ tree_rules L T.nodes T.edges done) where
    trees_hand : Hands (tree_rules L T.nodes T.edges)
    trees_hand = hands (tree_rules L T.nodes T.edges) (tree_after L T.nodes T.edges)

    past_length : rules L T done ≡ tree_rules L T.nodes T.edges (site_rules L T done)
    unfolding rules
    past_length = refuse_no 3 0 (tree_rules L T.nodes T.edges (site_rules L T done)) b

    pub trees_refused : (r : Refusal) → t ≡ Err r → checked_of t ≡ rules L T done
    trees_refused r q = stops (tree_rules L T.nodes T.edges) trees_hand t e r q (site_rules L T done) ∙ sym past_length

    pub sites_last : t ≡ Ok tt → (s : Checked) → checked_of s ≡ site_rules L T done → checked_of s ≡ rules L T done
    sites_last q s f = f ∙ sym (past_length ∙ goes_on (tree_rules L T.nodes T.edges) trees_hand t e q (site_rules L T done))

-- ---- 1 to 10: 1 and 2, then 3 to 10

module _ (m : Limits) (L : ℕ) (T : Tables) (s : Checked) (e : checked_of s ≡ table_answer m T) where
  pub table_refused : (r : Refusal) → s ≡ Err r → checked_of s ≡ check_then m L T done
  unfolding check_then
  table_refused r q = lengths_stop m T s e r q (rules L T done)

  pub rules_last : s ≡ Ok tt → (t : Checked) → checked_of t ≡ rules L (aged T) done → checked_of t ≡ check_then m L T done
  unfolding check_then
  rules_last q t f = f ∙ rules_aged L T done ∙ sym (lengths_go_on m T s e q (rules L T done))

-- ---- 3 to 12: 3 to 10, then 11 and 12

module _ (L : ℕ) (T : Tables) (S : List ℕ) (t : Checked) (f : checked_of t ≡ rules L T done) where
  pub rules_refused : (r : Refusal) → t ≡ Err r → checked_of t ≡ rules L T (sample_rules T.nodes.birth S done)
  rules_refused r k = stops (rules L T) (hands (rules L T) (rules_after L T)) t f r k (sample_rules T.nodes.birth S done)

  pub samples_last : t ≡ Ok tt → (u : Checked) → checked_of u ≡ sample_rules T.nodes.birth S done → checked_of u ≡ rules L T (sample_rules T.nodes.birth S done)
  samples_last k u g = g ∙ sym (goes_on (rules L T) (hands (rules L T) (rules_after L T)) t f k (sample_rules T.nodes.birth S done))

-- ---- 1 to 12: 1 and 2 of tables 1 to 4, 2 of the samples, then 3 to 12

module _ (m : Limits) (L : ℕ) (T : Tables) (S : List ℕ) (s : Checked) (e : checked_of s ≡ table_answer m T) where
  -- 3 to 12
  abbrev sampled : Answer
  sampled = rules L T (sample_rules T.nodes.birth S done)

  abbrev counted : Answer
  counted = refuse (ltb m.samples (length S)) 2 5 sampled

  pub lengths_refused : (r : Refusal) → s ≡ Err r → checked_of s ≡ check m L T S
  unfolding check check_all_then
  lengths_refused r q = lengths_stop m T s e r q counted

  module _ (q : s ≡ Ok tt) where
    past_lengths : check m L T S ≡ counted
    unfolding check check_all_then
    past_lengths = lengths_go_on m T s e q counted

    pub samples_many : m.samples < length S → answer 2 5 ≡ check m L T S
    samples_many l = sym (past_lengths ∙ refuse_yes 2 5 sampled (lt-ltb m.samples (length S) l))

    pub all_last : length S ≤ m.samples → (u : Checked) → checked_of u ≡ rules L (aged T) (sample_rules T.nodes.birth S done) → checked_of u ≡ check m L T S
    all_last l u g = g ∙ rules_aged L T (sample_rules T.nodes.birth S done) ∙ sym (past_lengths ∙ refuse_no 2 5 sampled (le-ltb m.samples (length S) l))

-- ---- tables as lent, which are gone on with where 1 and 2 refuse nothing

module _ (l : Lent) (t : Code.Tables) (h : (table_answer limits (lent_in l) ≡ done) × (tables_in t ≡ aged_in l)) where
  pub lent_sized : Sized limits (tables_in t)
  lent_sized = let z : Sized limits (aged_in l) = (lengths_found limits (lent_in l) (Ok tt) (sym h.0) refl).1 in subst (Sized limits) (sym h.1) z

  module _ (L : ℕ) (r : Checked) (by_child by_birth : List ℕ) where
    -- the orders are those of the tables lent
    abbrev Left : (Tables → Answer) → Tables → Type 0
    Left G T = (checked_of r ≡ G T) × Ordered r T.nodes.birth T.edges (take (length T.edges.left) by_child) (take (length T.nodes.birth) by_birth)

    pub lent_rules : Left (λ T. rules L T done) (tables_in t) → Left (λ T. check_then limits L T done) (lent_in l)
    lent_rules f = let g : Left (λ T. rules L T done) (aged_in l) = subst (Left (λ T. rules L T done)) h.1 f in
        (rules_last limits L (lent_in l) (Ok tt) (sym h.0) refl r g.0, g.1)

    pub lent_all : (S : List ℕ) → length S ≤ limits.samples → Left (λ T. rules L T (sample_rules T.nodes.birth S done)) (tables_in t) → Left (λ T. check limits L T S) (lent_in l)
    lent_all S k f = let g : Left (λ T. rules L T (sample_rules T.nodes.birth S done)) (aged_in l) = subst (Left (λ T. rules L T (sample_rules T.nodes.birth S done))) h.1 f in
        (all_last limits L (lent_in l) S (Ok tt) (sym h.0) refl k r g.0, g.1)
