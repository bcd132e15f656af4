-- Demand 3 for records: cleanings in between do not change the last cleaned record, for any run of batches and cleanings.
use Rattle.std.specs.Prelude.{◌≡◌, refl, Bool, true, List, [], ◌∷◌, ◌⊎◌, ℕ}
use Rattle.std.proofs.Common.{sym, ap, ◌∙◌, inl, inr, ⊎_elim}
use Rattle.meaning.specs.Words.{or, mem, filter}
use Rattle.meaning.specs.Rows.{Record, births}
use Rattle.meaning.specs.Forest.{Rules, stands}
use Rattle.meaning.specs.Clean.{clean}
use Rattle.meaning.specs.Join.{Batch, join}
use Rattle.laws.specs.Bools.{or_of, or_left, or_right}
use Rattle.laws.specs.Members.{mem_split}
use Rattle.laws.specs.Facts.{In, Distinct, parents, Good, JoinOk}
use Rattle.forest.specs.Profile.{Profile, stands_profile, line, line_profile}
use Rattle.history.specs.Lists.{filter_of, of_filter, filter_distinct}
use Rattle.history.specs.Cleaned.{clean_births, kept_in}
use Rattle.history.specs.Joined.{join_births}
use Rattle.history.specs.Fits.{Fits}
use Rattle.history.specs.Step.{one_step}
use Rattle.history.specs.Tidy.{tidy_law}
use Rattle.history.specs.Run.{Move, batch, tidy, Names, plain, run, Accepted}

module _ (rule : Rules) where
  module _ (pr : Profile rule) where
    -- the records agree for every list of fish that are named later
    abbrev Agree : List Move → List ℕ → Record → Record → Type 0
    Agree l S Q P =
        (F : List ℕ) → Distinct F →
        ((b : ℕ) → In F b → mem b (births Q.nodes) ≡ true) →
        ((b : ℕ) → In F b → mem b (births P.nodes) ≡ true) →
        ((b : ℕ) → In F b → Names l S b) →
        clean rule F Q ≡ clean rule F P

    module _
        (Q P : Record) (B : Batch) (l : List Move) (S : List ℕ)
        (g_q : Good Q) (g_p : Good P) (j_q : JoinOk Q B) (j_p : JoinOk P B)
        (ag : Agree (batch B ∷ l) S Q P)
        (F : List ℕ) (d_f : Distinct F)
        (in_q : (b : ℕ) → In F b → mem b (births (join Q B).nodes) ≡ true)
        (in_p : (b : ℕ) → In F b → mem b (births (join P B).nodes) ≡ true)
        (nm : (b : ℕ) → In F b → Names l S b) where
      abbrev NB : List ℕ
      NB = births B.nodes

      abbrev named : ℕ → Bool
      named b = or (mem b (parents B.edges)) (mem b F)

      -- the old fish that the batch or F name
      abbrev E : List ℕ
      E = filter named (births Q.nodes)

      e_q : (b : ℕ) → In E b → mem b (births Q.nodes) ≡ true
      e_q b m = (filter_of named b (births Q.nodes) m).0

      e_cases : (b : ℕ) → In E b → (mem b (parents B.edges) ≡ true) ⊎ (mem b F ≡ true)
      e_cases b m = or_of (mem b (parents B.edges)) (mem b F) (filter_of named b (births Q.nodes) m).1

      not_new : (b : ℕ) → In E b → mem b NB ≡ true → ⊥
      not_new b m n = j_q.fresh b n (e_q b m)

      e_p : (b : ℕ) → In E b → mem b (births P.nodes) ≡ true
      e_p b m = ⊎_elim
          (λ (p : mem b (parents B.edges) ≡ true). ⊎_elim (λ (n : mem b NB ≡ true). absurd (not_new b m n)) (λ i. i) (j_p.known b p))
          (λ (i : mem b F ≡ true). ⊎_elim (λ i. i) (λ (n : mem b NB ≡ true). absurd (not_new b m n)) (mem_split b (births P.nodes) NB (sym (ap (mem b) (join_births P B)) ∙ in_p b i)))
          (e_cases b m)

      e_names : (b : ℕ) → In E b → Names (batch B ∷ l) S b
      e_names b m = ⊎_elim (λ p. inl p) (λ (i : mem b F ≡ true). inr (nm b i)) (e_cases b m)

      e_distinct : Distinct E
      e_distinct = filter_distinct named (births Q.nodes) g_q.once

      -- an old fish of Q that is named is in E
      e_of : (b : ℕ) → (mem b (parents B.edges) ≡ true) ⊎ (mem b F ≡ true) → mem b (births Q.nodes) ≡ true → In E b
      e_of b p m = of_filter named b (births Q.nodes) m
          (⊎_elim (λ (i : mem b (parents B.edges) ≡ true). or_left (mem b F) i) (λ (i : mem b F ≡ true). or_right (mem b (parents B.edges)) (mem b F) i) p)

      e_parent : (q : ℕ) → mem q (parents B.edges) ≡ true → (mem q NB ≡ true) ⊎ In E q
      e_parent q p = ⊎_elim (λ n. inl n) (λ (m : mem q (births Q.nodes) ≡ true). inr (e_of q (inl p) m)) (j_q.known q p)

      e_from : (s : ℕ) → In F s → (mem s NB ≡ true) ⊎ In E s
      e_from s i = ⊎_elim (λ (m : mem s (births Q.nodes) ≡ true). inr (e_of s (inr i) m)) (λ n. inl n) (mem_split s (births Q.nodes) NB (sym (ap (mem s) (join_births Q B)) ∙ in_q s i))

      fits : (R : Record) → Good R → JoinOk R B → ((b : ℕ) → In E b → mem b (births R.nodes) ≡ true) → Fits R B E F
      fits R g j h = record {
        cleaned = record { good = g; distinct = e_distinct; listed = h };
        joined = j;
        named = e_parent;
        from = e_from;
        distinct = d_f;
      }

      batch_step : clean rule F (join Q B) ≡ clean rule F (join P B)
      batch_step =
          sym (one_step rule pr Q B E F (fits Q g_q j_q e_q))
          ∙ ap (λ (R : Record). clean rule F (join R B)) (ag E e_distinct e_q e_p e_names)
          ∙ one_step rule pr P B E F (fits P g_p j_p e_p)

    agree : (l : List Move) (S : List ℕ) (Q P : Record) → Accepted rule l S Q P → Agree l S Q P → clean rule S (run rule l Q) ≡ clean rule S (plain l P)
    agree [] S Q P a ag = ag S a.0.distinct a.0.listed a.1.listed (λ b m. m)
    agree (batch B ∷ l) S Q P a ag = agree l S (join Q B) (join P B) a.4 (λ F d_f in_q in_p nm. batch_step Q P B l S a.0 a.1 a.2 a.3 ag F d_f in_q in_p nm)
    agree (tidy T ∷ l) S Q P a ag = agree l S (clean rule T Q) P a.2 (λ F d_f in_c in_p nm.
        let in_q : (b : ℕ) → In F b → mem b (births Q.nodes) ≡ true = λ b m. kept_in rule pr Q T a.0 b (sym (ap (mem b) (clean_births rule pr Q T a.0)) ∙ in_c b m) in
        tidy_law rule pr Q T F a.0 d_f (λ s m. a.1 s (in_q s m) (nm s m))
        ∙ ag F d_f in_q in_p (λ b m. inr (nm b m)))

    -- demand 3, for any rule of what stands that is a profile
    pub demand_three : (l : List Move) (S : List ℕ) (R : Record) → Accepted rule l S R R → clean rule S (run rule l R) ≡ clean rule S (plain l R)
    demand_three l S R a = agree l S R R a (λ F _ _ _ _. refl)

-- for 01's rule
pub demand_three_stands : (l : List Move) (S : List ℕ) (R : Record) → Accepted stands l S R R → clean stands S (run stands l R) ≡ clean stands S (plain l R)
demand_three_stands l S R a = demand_three stands stands_profile l S R a

-- for the rule that every reached node stands
pub demand_three_line : (l : List Move) (S : List ℕ) (R : Record) → Accepted line l S R R → clean line S (run line l R) ≡ clean line S (plain l R)
demand_three_line l S R a = demand_three line line_profile l S R a
