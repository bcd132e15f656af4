-- The whole allele call: the check of the tables, and then 41, 42 or what is read.
use mathlib.Core.Path.{◌≡◌, refl, sym, ap, ap₂, subst, ◌∙◌}
use mathlib.Core.List.{List}
use mathlib.Core.Option.{Option, none, some}
use Prim.Native.Nat.{ℕ, ◌≤◌}
use native.Mathlib.Omega.{arith}
use lib.ListN.{length, take}
use Rattle.meaning.specs.declared.Refusal.{Refusal}
use Rattle.meaning.specs.Answer.{Checked}
use Rattle.std.specs.Prelude.{Ok, Err}
use Rattle.meaning.specs.Rows.{Tables, Record, record_of, pos_of}
use Rattle.meaning.specs.Forest.{Ages, near, parent_in}
use Rattle.meaning.specs.Answer.{Answer, Stated, done, limits, refusal_of, checked_of, unread}
use Rattle.meaning.specs.Check.{check_then}
use Rattle.meaning.specs.Allele.{carries, allele_at, missing_at, stated, allele_answer, allele}
use Rattle.accepted.specs.Endings.{allele_refused}
use Rattle.checker.specs.Found.{Shaped, TablesSound, Ordered}
use Rattle.checker.specs.Aged.{aged}
use Rattle.checker.proofs.After.{Hands, hands, tables_after, refused, stops, goes_on, was_sound}
use Rattle.checker.proofs.Rows.{edge_whole, rising, lined, apart}
use Rattle.checker.proofs.Sound.{tables_sound}
use Rattle.order.specs.Ranks.{Ranked}
use Rattle.rules.specs.ByChild.{ByChild}
use Rattle.alleles.specs.Reading.{Readable}
use Rattle.alleles.specs.ByRows.{allele_none, allele_some}
use Rattle.alleles.specs.Call.{named, read_of, read_allele, by_answer}

-- tables that the check does not refuse can be read, and the populations are no part of it
readable : (L : ℕ) (T : Tables) (by : List ℕ) → TablesSound limits L T → ByChild T.edges by → Readable L (aged T) by
readable L T by s o =
    let m : _ = lined (length T.sites.position) (length T.nodes.time) T.muts s.shaped.node_long s.sites.whole in
    record {
      few = s.sized.nodes;
      few_edges = s.sized.edges;
      births_long = s.shaped.birth_long;
      once = apart T.nodes.birth s.tree.once;
      rising = rising L T.nodes.time T.edges s.shaped.edges s.tree.whole;
      whole = record {
        held = λ e l. (edge_whole L T.nodes.time T.edges e (s.tree.whole e l)).holds;
        inside = λ e l. (edge_whole L T.nodes.time T.edges e (s.tree.whole e l)).inside;
      };
      order = o;
      states_long = s.shaped.ancestral_long;
      naming = record { node_long = s.shaped.node_long; derived_long = s.shaped.derived_long; node_row = m.node_row };
    }

-- ---- what is read names no population

module _ (L : ℕ) (T : Tables) (i b : ℕ) where
  abbrev R : Record
  R = record_of L T

  missing_aged : missing_at (record_of L (aged T)) i b ≡ missing_at (record_of L T) i b
  unfolding missing_at record_of
  missing_aged = refl

  allele_aged : allele_at (record_of L (aged T)) i b ≡ allele_at (record_of L T) i b
  unfolding record_of
  allele_aged = go (near (parent_in R.edges (pos_of R.sites i)) (carries R.muts i) Ages b) refl
    where
      go : (o : Option ℕ) → near (parent_in R.edges (pos_of R.sites i)) (carries R.muts i) Ages b ≡ o → allele_at (record_of L (aged T)) i b ≡ allele_at (record_of L T) i b
      go none e = allele_none (record_of L (aged T)) i b e ∙ sym (allele_none R i b e)
      go (some w) e = allele_some (record_of L (aged T)) i b w e ∙ sym (allele_some R i b w e)

  named_aged : named (aged T) i b ≡ named T i b
  unfolding named
  named_aged = refl

  pub read_aged : read_allele L (aged T) i b ≡ read_allele L T i b
  read_aged = by_answer L (aged T) i b (named T i b) named_aged ∙ ap₂ (stated (named T i b)) missing_aged allele_aged ∙ sym (by_answer L T i b (named T i b) refl)

-- ---- tables that are equal are read alike

pub still_readable : {L : ℕ} {T T' : Tables} {by : List ℕ} → T' ≡ T → Readable L T by → Readable L T' by
still_readable {L} {by = by} e r = subst (λ (T : Tables). Readable L T by) (sym e) r

pub still_ranked : {T T' : Tables} {by : List ℕ} → T' ≡ T → Ranked T.nodes.birth by → Ranked T'.nodes.birth by
still_ranked {by = by} e r = subst (λ (T : Tables). Ranked T.nodes.birth by) (sym e) r

pub still_read : (L i b : ℕ) {T T' : Tables} {s : Stated} → T' ≡ T → s ≡ read_allele L T' i b → s ≡ read_allele L T i b
still_read L i b e q = q ∙ ap (λ (T : Tables). read_allele L T i b) e

-- ---- the call

module _ (L : ℕ) (T : Tables) (c : Checked) (e : checked_of c ≡ check_then limits L T done) where
  hand : Hands (check_then limits L T)
  hand = hands (check_then limits L T) (tables_after limits L T)

  pub sound_shaped : c ≡ Ok tt → Shaped T
  sound_shaped q = (tables_sound limits L T done (was_sound (check_then limits L T) hand c e q)).0.shaped

  module _ (lent births : List ℕ) (o : Ordered c T.nodes.birth T.edges (take (length T.edges.left) lent) (take (length T.nodes.birth) births)) (q : c ≡ Ok tt) where
    pub sound_readable : Readable L (aged T) (take (length T.edges.left) lent)
    sound_readable = readable L T (take (length T.edges.left) lent) (tables_sound limits L T done (was_sound (check_then limits L T) hand c e q)).0 (o.order q)

    -- columns as long as the tables may be have room for the orders
    pub edges_room : (n : ℕ) → n ≡ limits.edges → length lent ≡ n → length T.edges.left ≤ length lent
    edges_room n m l = omega (arith, sound_readable.few_edges)

    pub births_room : (n : ℕ) → n ≡ limits.nodes → length births ≡ n → length T.nodes.birth ≤ length births
    births_room n m l = omega (arith, sound_readable.few, sound_readable.births_long)

  module _ (i b : ℕ) where
    -- the call's answer and what is read, by the answer after the check
    by_check : (a : Answer) → check_then limits L T (named T i b) ≡ a → allele limits L T i b ≡ read_of L T i b a
    unfolding allele allele_answer named
    by_check a q = ap (read_of L T i b) q

    pub whole_refused : (r : Refusal) → c ≡ Err r → ◌≡◌ {A = Stated} (unread (refusal_of r)) (allele limits L T i b)
    whole_refused r q = sym
        (by_check (refusal_of r) (sym (stops (check_then limits L T) hand c e r q (named T i b)) ∙ ap checked_of q)
        ∙ allele_refused (refusal_of r) (refused r) (missing_at (record_of L T) i b) (allele_at (record_of L T) i b))

    pub whole_read : (s : Stated) → c ≡ Ok tt → s ≡ read_allele L (aged T) i b → s ≡ allele limits L T i b
    unfolding read_allele
    whole_read s q f = f ∙ read_aged L T i b ∙ sym (by_check (named T i b) (goes_on (check_then limits L T) hand c e q (named T i b)))
