-- The whole call: fresh working columns, the answer after the lists are looked at, and the check of the tables before.
use mathlib.Core.Path.{◌≡◌, refl, sym, ap, subst, ◌∙◌}
use mathlib.Core.Bool.{Bool, true, false, not}
use mathlib.Core.List.{List, [], ◌∷◌, ◌++◌, map}
use mathlib.Core.Logic.{◌⊎◌, inl, inr}
use Prim.Native.Nat.{ℕ, zero, suc, ◌<◌, ◌≤◌, min}
use native.Mathlib.Omega.{arith}
use lib.Dec.{leb}
use lib.ListN.{length, replicate, length-replicate}
use borrow.Author.Tests.{leb-true, leb-false}
use Rattle.meaning.specs.declared.Refusal.{Refusal}
use Rattle.meaning.specs.Answer.{Checked}
use Rattle.std.specs.Prelude.{Ok, Err}
use Rattle.meaning.specs.Words.{at, each}
use Rattle.meaning.specs.Rows.{Tables}
use Rattle.meaning.specs.Answer.{Answer, Stated, done, limits, refusal_of, checked_of}
use Rattle.meaning.specs.Check.{check_then}
use Rattle.meaning.specs.Allele.{allele}
use Rattle.meaning.specs.Panel.{PanelOutcome, panel_of, panel_end, panel_answer, panel, singles, first_refused}
use Rattle.laws.specs.Bools.{not_of, not_no}
use Rattle.checker.specs.Found.{TablesSound}
use Rattle.checker.specs.Aged.{aged}
use Rattle.checker.proofs.After.{Hands, hands, tables_after, refused, stops, goes_on, was_sound}
use Rattle.checker.proofs.Rows.{lined}
use Rattle.checker.proofs.Sound.{tables_sound}
use Rattle.alleles.specs.Call.{read_allele}
use Rattle.alleles.proofs.Whole.{whole_read}
use Rattle.ancestry.specs.Index.{Ends}
use Rattle.alleles.specs.Reading.{Readable}
use Rattle.carrying.proofs.Beginning.{zero_cells}
use Rattle.carrying.specs.Spans.{Spans}
use Rattle.carrying.specs.Work.{work_of, Kept, index_by, Prepared}
use Rattle.blocks.specs.Lists.{readings, AllThere, FirstIs, ListsTold}
use Rattle.panel.specs.Whole.{SitesNamed, room_then, after_check, end_refused, first_refused-is}

-- ---- fresh columns

abbrev zeros : ℕ → List ℕ
zeros n = replicate n 0

-- what is filled in once for a call
pub prepared : {L : ℕ} {T : Tables} {by ends ef ep mf mp : List ℕ} → Readable L T by → ((j : ℕ) → j < length T.muts.site → at T.muts.site j < length T.sites.position) → Ends T.edges.child by ends → Spans T.edges.parent ef ep → Spans T.muts.site mf mp → length ends ≡ 1024 → length ef ≡ 1024 → length ep ≡ 1024 → length mf ≡ 512 → length mp ≡ 512 → length T.sites.position ≤ 512 → Prepared L T by (index_by ends ef ep mf mp)
prepared {L} {T} {by} ok named e p m a b c d f few = record {
  readable = ok;
  site_row = named;
  ends = e;
  ends_long = omega (arith, ok.few);
  edges = p;
  edge_first_long = omega (arith, ok.few);
  edge_past_long = omega (arith, ok.few);
  muts = m;
  mut_first_long = omega arith;
  mut_past_long = omega arith;
}

-- nothing is kept yet, and nothing stamped
pub nothing_kept : (T : Tables) → length T.nodes.time ≤ 1024 → Kept T 0 0 (work_of (zeros 1024) (zeros 1024) (zeros 1024) (zeros 1024) (zeros 1024) (zeros 1024) (zeros 1024))
nothing_kept T few =
    let l : length (zeros 1024) ≡ 1024 = length-replicate {A = ℕ} 1024 0 in
    record {
      long = record { par = omega arith; kid = omega arith; own = omega arith; told = omega arith; state = omega arith };
      known = record { cell = λ u y a b c. absurd (omega (arith, zero_cells 1024 u)) };
      kids = record { cell = λ u y a b c. absurd (omega (arith, zero_cells 1024 u)) };
      own = λ v. omega (arith, zero_cells 1024 v);
      told = λ v. omega (arith, zero_cells 1024 v);
    }

-- ---- what the lists tell, and the room

pub some_of : (n : ℕ) → (n ≡ 0 → ⊥) → 0 < n
some_of zero h = absurd (h refl)
some_of (suc n) h = omega arith

told_refused : (most : ℕ) (birth sites fish : List ℕ) (r : Checked) (x : Refusal) → ListsTold most birth sites fish r → r ≡ Err x → FirstIs most birth sites fish x
told_refused most birth sites fish r x t e = subst (ListsTold most birth sites fish) e t

pub told_sound : (most : ℕ) (birth sites fish : List ℕ) (r : Checked) → ListsTold most birth sites fish r → r ≡ Ok tt → AllThere most birth sites fish
told_sound most birth sites fish r t e = subst (ListsTold most birth sites fish) e t

pub refused_first : (L : ℕ) (T : Tables) (sites fish states flags : List ℕ) (r : Checked) (x : Refusal) → ListsTold (length T.sites.position) T.nodes.birth sites fish r → r ≡ Err x → panel_of (Err x) states flags ≡ after_check L T sites fish states flags
refused_first L T sites fish states flags r x t e = first_refused-is L T sites fish states flags x (refused x) (told_refused (length T.sites.position) T.nodes.birth sites fish r x t e)

pub short_of : {a b : ℕ} (t : Bool) → not t ≡ true → t ≡ leb a b → b < a
short_of {a} {b} t n e = leb-false a b (sym e ∙ not_of t n)

pub enough_of : {a b : ℕ} (t : Bool) → not t ≡ false → t ≡ leb a b → a ≤ b
enough_of {a} {b} t n e = leb-true a b (sym e ∙ not_no t n)

-- one of two blocks is short where the lesser is
pub one_short : {a s f : ℕ} (t : Bool) → not t ≡ true → t ≡ leb a (min s f) → (s < a) ⊎ (f < a)
one_short {a} {s} {f} t n e = go (leb s f) refl
  where
    short : min s f < a
    short = short_of t n e

    go : (b : Bool) → leb s f ≡ b → (s < a) ⊎ (f < a)
    go true k = let h : s ≤ f = leb-true s f k in inl (omega (arith, short))
    go false k = let h : f < s = leb-false s f k in inr (omega (arith, short))

-- both blocks are long enough where the lesser is
pub both_long : {a s f : ℕ} (t : Bool) → not t ≡ false → t ≡ leb a (min s f) → (a ≤ s) × (a ≤ f)
both_long {a} {s} {f} t n e = let h : a ≤ min s f = enough_of t n e in (omega arith, omega arith)

-- ---- the check before

-- each mutation names a site, of tables that the check does not refuse
module _ (L : ℕ) (T : Tables) (s : TablesSound limits L T) where
  sites_of : SitesNamed (length T.sites.position) T.muts.site
  sites_of = record { there = (lined (length T.sites.position) (length T.nodes.time) T.muts s.shaped.node_long s.sites.whole).site_row }

-- tables that are equal are as few, and give the same
pub still_named : {T T' : Tables} → T' ≡ T → SitesNamed (length T.sites.position) T.muts.site → SitesNamed (length T'.sites.position) T'.muts.site
still_named e n = subst (λ (T : Tables). SitesNamed (length T.sites.position) T.muts.site) (sym e) n

pub still_few_sites : {T T' : Tables} {n : ℕ} → T' ≡ T → length T.sites.position ≤ n → length T'.sites.position ≤ n
still_few_sites e h = omega (arith, ap (λ (T : Tables). length T.sites.position) e)

pub still_few_mutations : {T T' : Tables} {n : ℕ} → T' ≡ T → length T.muts.site ≤ n → length T'.muts.site ≤ n
still_few_mutations e h = omega (arith, ap (λ (T : Tables). length T.muts.site) e)

pub still_after : (L : ℕ) (sites fish states flags : List ℕ) {T T' : Tables} {o : PanelOutcome} → T' ≡ T → o ≡ after_check L T' sites fish states flags → o ≡ after_check L T sites fish states flags
still_after L sites fish states flags e q = q ∙ ap (λ (T : Tables). after_check L T sites fish states flags) e

map_same : {A B : Type 0} (f g : A → B) → ((a : A) → f a ≡ g a) → (l : List A) → map f l ≡ map g l
map_same f g h [] = refl
map_same f g h (a ∷ l) = λ i. h a i ∷ map_same f g h l i

each_same : {A : Type 0} (f g : ℕ → List A) → ((a : ℕ) → f a ≡ g a) → (l : List ℕ) → each f l ≡ each g l
unfolding each
each_same f g h [] = refl
each_same f g h (a ∷ l) = λ i. h a i ++ each_same f g h l i

module _ (L : ℕ) (T : Tables) (c : Checked) (e : checked_of c ≡ check_then limits L T done) where
  hand : Hands (check_then limits L T)
  hand = hands (check_then limits L T) (tables_after limits L T)

  sound : c ≡ Ok tt → TablesSound limits L T
  sound q = (tables_sound limits L T done (was_sound (check_then limits L T) hand c e q)).0

  pub sites_named : c ≡ Ok tt → SitesNamed (length T.sites.position) T.muts.site
  sites_named q = sites_of L T (sound q)

  pub few_sites : c ≡ Ok tt → length T.sites.position ≤ 512
  few_sites q = (sound q).sized.sites

  pub few_mutations : c ≡ Ok tt → length T.muts.site ≤ 1024
  few_mutations q = (sound q).sized.mutations

  module _ (sites fish states flags : List ℕ) where
    -- the check's refusal is the call's
    pub whole_refused : (r : Refusal) → c ≡ Err r → panel_of (Err r) states flags ≡ panel limits L T sites fish states flags
    unfolding panel panel_answer
    whole_refused r q = sym
        (ap (λ (a : Answer). panel_end a (singles limits L T sites fish) states flags) (sym (stops (check_then limits L T) hand c e r q (first_refused (singles limits L T sites fish) (room_then states flags (length (singles limits L T sites fish))))) ∙ ap checked_of q)
        ∙ end_refused (singles limits L T sites fish) states flags (refusal_of r) (refused r))

    -- after a check that refuses nothing the single calls are what is read
    singles_read : c ≡ Ok tt → readings L (aged T) sites fish ≡ singles limits L T sites fish
    unfolding readings singles
    singles_read q = each_same (λ b. map (λ i. read_allele L (aged T) i b) sites) (λ b. map (λ i. allele limits L T i b) sites) (λ b. map_same (λ i. read_allele L (aged T) i b) (λ i. allele limits L T i b) (λ i. whole_read L T c e i b (read_allele L (aged T) i b) q refl) sites) fish

    pub whole_sound : (o : PanelOutcome) → c ≡ Ok tt → o ≡ after_check L (aged T) sites fish states flags → o ≡ panel limits L T sites fish states flags
    unfolding panel panel_answer after_check
    whole_sound o q f =
        f
        ∙ ap (λ (l : List Stated). panel_end (first_refused l (room_then states flags (length l))) l states flags) (singles_read q)
        ∙ ap (λ (a : Answer). panel_end a (singles limits L T sites fish) states flags) (sym (goes_on (check_then limits L T) hand c e q (first_refused (singles limits L T sites fish) (room_then states flags (length (singles limits L T sites fish))))))
