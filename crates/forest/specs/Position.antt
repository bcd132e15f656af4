-- The one-step law at a position: cleaning for S1 before a batch changes nothing that a cleaning for S2 after it sees.
use Rattle.std.specs.Prelude.{◌≡◌, refl, Bool, true, false, List, ℕ, ◌≤◌}
use Rattle.std.proofs.Common.{ap, ◌∙◌, ⊎_elim}
use Rattle.std.proofs.Math.Option.{Option, none, some}
use Rattle.meaning.specs.Words.{or}
use Rattle.meaning.specs.Forest.{Par, Ages, Rules, reached, low, drawn}
use Rattle.laws.specs.Bools.{none_some, or_left, or_right}
use Rattle.laws.specs.Facts.{In}
use Rattle.forest.specs.Lines.{here}
use Rattle.forest.specs.Contract.{Low, Contract}
use Rattle.forest.specs.Joining.{contract_join, low_join, reached_old}
use Rattle.forest.specs.TreeLaws.{Nodes, drawn_contract}
use Rattle.forest.specs.Lowest.{Rule, low_of, of_low}
use Rattle.forest.specs.Redrawn.{contract_aged, low_reached, redrawn, redrawn_low}
use Rattle.forest.specs.Profile.{join_par, join_par_joined, Setting, Profile}

-- T cleaned for S1 and then joined is the join drawn together to what stood and what is new
module _ (new : ℕ → Bool) (T B : Par) (rank : ℕ → ℕ) (S1 S2 : List ℕ) (st : Setting new T B rank S1 S2) (K : ℕ → Bool) (ru : Rule T (In S1) K) where
  abbrev pub kept : ℕ → Bool
  kept = λ u. or (new u) (K u)

  pub drawn_join : Contract (join_par new B T) kept (join_par new B (drawn T K))
  drawn_join = contract_join new (In S1) T B st.batch K (λ s m. ru.samples m) (join_par new B T) (join_par_joined new B T) (drawn T K) (join_par new B (drawn T K))
      (drawn_contract T K rank st.base_aged) (join_par_joined new B (drawn T K))

  pub kept_samples : (s : ℕ) → In S2 s → kept s ≡ true
  kept_samples s m = ⊎_elim (λ (e : new s ≡ true). or_left (K s) e) (λ (i : In S1 s). or_right (new s) (K s) (ru.samples i)) (st.from s m)

-- for any profile: T cleaned is C
module _ (rule : Rules) (pr : Profile rule) (new : ℕ → Bool) (T B : Par) (rank : ℕ → ℕ) (S1 S2 : List ℕ) (st : Setting new T B rank S1 S2) (NT : List ℕ) (nd_t : Nodes T NT) where
  abbrev K : ℕ → Bool
  K = rule NT T S1

  abbrev C : Par
  C = drawn T K

  abbrev J : Par
  J = join_par new B T

  abbrev D : Par
  D = join_par new B C

  rule_t : Rule T (In S1) K
  rule_t = pr.is_rule T rank st.base_aged NT nd_t S1

  contract : Contract J (kept new T B rank S1 S2 st K rule_t) D
  contract = drawn_join new T B rank S1 S2 st K rule_t

  module _ (NJ ND : List ℕ) (nd_j : Nodes J NJ) (nd_d : Nodes D ND) where
    -- what stands for S2 after the batch stood for S1 before it, or is new
    pub step_sub : (v : ℕ) → rule NJ J S2 v ≡ true → or (new v) (K v) ≡ true
    step_sub = pr.dropped new T B rank S1 S2 st NT NJ nd_t nd_j

    pub step_stands : rule ND D S2 ≡ rule NJ J S2
    step_stands = pr.contracted J D (λ u. or (new u) (K u)) rank contract st.aged NJ ND nd_j nd_d S2 (kept_samples new T B rank S1 S2 st K rule_t) step_sub

    pub step_drawn : drawn D (rule ND D S2) ≡ drawn J (rule NJ J S2)
    step_drawn = ap (drawn D) step_stands ∙ redrawn J D (λ u. or (new u) (K u)) rank contract st.aged (rule NJ J S2) step_sub

    rule_j : Rule J (In S2) (rule NJ J S2)
    rule_j = pr.is_rule J rank st.aged NJ nd_j S2

    rule_d : Rule D (In S2) (rule NJ J S2)
    rule_d = rw step_stands at (pr.is_rule D rank (contract_aged rank contract st.aged) ND nd_d S2)

    -- where a mutation goes for S2, in the join of the whole forest
    abbrev pub low_now : ℕ → Option ℕ
    low_now u = low NJ J (reached J S2) (rule NJ J S2) Ages u

    -- and in the join of the cleaned one
    abbrev pub low_then : ℕ → Option ℕ
    low_then u = low ND D (reached D S2) (rule ND D S2) Ages u

    -- a mutation on u went to a, the nearest below for S1: it comes to rest where it would have
    step_low : (u a : ℕ) → rank u ≤ Ages → rank a ≤ Ages → Low J (λ v. or (new v) (K v)) a u → low_then a ≡ low_now u
    step_low u a l m x =
        ap (λ (M : ℕ → Bool). low ND D (reached D S2) M Ages a) step_stands
        ∙ redrawn_low J D (λ v. or (new v) (K v)) rank contract st.aged (rule NJ J S2) step_sub S2 NJ ND nd_j nd_d rule_j rule_d u a l m x

    -- one on a new node stayed
    pub step_low_new : (u : ℕ) → rank u ≤ Ages → new u ≡ true → low_then u ≡ low_now u
    step_low_new u l n = step_low u u l l (record { in_set = or_left (K u) n; below = here; all = λ m x. x })

    pub step_low_old : (u a : ℕ) → rank u ≤ Ages → rank a ≤ Ages → new u ≡ false → low NT T (reached T S1) K Ages u ≡ some a → low_then a ≡ low_now u
    step_low_old u a l m n h = step_low u a l m
        (low_join new (In S1) T B st.batch K (λ s i. rule_t.samples i) J (join_par_joined new B T) n (low_of T rank st.base_aged NT nd_t S1 K rule_t Ages a u h))

    -- one that was dropped would have been dropped
    pub step_low_gone : (u : ℕ) → rank u ≤ Ages → new u ≡ false → low NT T (reached T S1) K Ages u ≡ none → low_now u ≡ none
    step_low_gone u l n h = go (low_now u) refl
      where
        go : (o : Option ℕ) → low_now u ≡ o → low_now u ≡ none
        go none e = e
        go (some w) e =
            let x : Low J (rule NJ J S2) w u = low_of J rank st.aged NJ nd_j S2 (rule NJ J S2) rule_j Ages w u e in
            let z : _ = reached_old new (In S1) T B st.batch K (λ s m. rule_t.samples m) J (join_par_joined new B T) (In S2) st.from n (low_reached rule_j x) in
            absurd (none_some h (of_low T rank st.base_aged NT nd_t S1 K rule_t Ages u l z).1)
