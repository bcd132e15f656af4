-- A batch joined to a forest, and to the forest cleaned: the second is the first drawn together.
use Rattle.std.specs.Prelude.{◌≡◌, Bool, true, false, ◌⊎◌, ℕ}
use Rattle.std.proofs.Common.{sym, ap, ◌∙◌, inl, inr, ⊎_elim}
use Rattle.std.proofs.Math.Option.{some}
use Rattle.meaning.specs.Words.{or}
use Rattle.meaning.specs.Forest.{Par}
use Rattle.laws.specs.Bools.{clash, truth}
use Rattle.forest.specs.Lines.{Above, here, step, trans}
use Rattle.forest.specs.Contract.{Set, Reached, Stands, sample, two, Near, found, on, Low, Contract, near_self}

-- J is the batch B, whose nodes are the new ones, joined to T
pub record Joined (new : ℕ → Bool) (T B J : Par) : Type 0 where
  pub old : {b : ℕ} → new b ≡ false → J b ≡ T b
  pub fresh : {b : ℕ} → new b ≡ true → J b ≡ B b

-- the batch's nodes are new to T, and its parents are new or in S
pub record Grafted (new : ℕ → Bool) (S : Set) (T B : Par) : Type 0 where
  pub base_child : {b p : ℕ} → T b ≡ some p → new b ≡ false
  pub base_parent : {b p : ℕ} → T b ≡ some p → new p ≡ false
  pub named : {b p : ℕ} → B b ≡ some p → (new p ≡ true) ⊎ S p

module _ (new : ℕ → Bool) (S : Set) (T B : Par) (bt : Grafted new S T B) (K : ℕ → Bool) (has : (s : ℕ) → S s → K s ≡ true) where
  -- what a cleaning kept, and what is new
  abbrev pub Kept : ℕ → Bool
  Kept u = or (new u) (K u)

  kept_new : {u : ℕ} → new u ≡ true → Kept u ≡ true
  kept_new e = rw e

  kept_old : {u : ℕ} → new u ≡ false → Kept u ≡ K u
  kept_old e = rw e

  kept_k : {u : ℕ} → K u ≡ true → Kept u ≡ true
  kept_k {u} k = ⊎_elim kept_new (λ e. kept_old e ∙ k) (truth (new u))

  kept_named : {p : ℕ} → (new p ≡ true) ⊎ S p → Kept p ≡ true
  kept_named (inl e) = kept_new e
  kept_named (inr s) = kept_k (has _ s)

  module _ (J : Par) (jn : Joined new T B J) where
    lift_eq : {b p : ℕ} → T b ≡ some p → J b ≡ some p
    lift_eq e = jn.old (bt.base_child e) ∙ e

    pub lift : {u v : ℕ} → Above T u v → Above J u v
    lift here = here
    lift (step e x) = step (lift_eq e) (lift x)

    near_lift : {w v : ℕ} → new v ≡ false → Near T K w v → Near J Kept w v
    near_lift n (found k) = found (kept_k k)
    near_lift n (on k e x) = on (kept_old n ∙ k) (lift_eq e) (near_lift (bt.base_parent e) x)

    near_drop : {w v : ℕ} → new v ≡ false → Near J Kept w v → Near T K w v
    near_drop n (found k) = found (sym (kept_old n) ∙ k)
    near_drop n (on k e x) = let f : _ = sym (jn.old n) ∙ e in on (sym (kept_old n) ∙ k) f (near_drop (bt.base_parent f) x)

    -- the join of the cleaned forest is the join drawn together to what was kept
    pub contract_join : (C D : Par) → Contract T K C → Joined new C B D → Contract J Kept D
    contract_join C D c dn = record {
      child = λ {b} e. ⊎_elim kept_new (λ n. kept_k (c.child (sym (dn.old n) ∙ e))) (truth (new b));
      into = λ {b} {w} e. ⊎_elim
          (λ n. let f : _ = sym (dn.fresh n) ∙ e in (w, jn.fresh n ∙ f, found (kept_named (bt.named f))))
          (λ n. let r : _ = c.into (sym (dn.old n) ∙ e) in (r.0, lift_eq r.1, near_lift (bt.base_parent r.1) r.2))
          (truth (new b));
      onto = λ {b} {w} k u. ⊎_elim
          (λ n. let f : _ = sym (jn.fresh n) ∙ u.1 in dn.fresh n ∙ f ∙ ap some (sym (near_self (kept_named (bt.named f)) u.2)))
          (λ n. let f : _ = sym (jn.old n) ∙ u.1 in dn.old n ∙ c.onto (sym (kept_old n) ∙ k) (u.0, f, near_drop (bt.base_parent f) u.2))
          (truth (new b));
    }

    -- a line up into an old node stays in the old record, or enters it at a member of S
    enter : {u s : ℕ} → new u ≡ false → Above J u s → ((new s ≡ false) × Above T u s) ⊎ ((q : ℕ) × S q × Above T u q × Above J q s)
    enter n here = inl (n, here)
    enter {u} n (step {b} {p} e x) = go (truth (new b)) (enter n x)
      where
        go : (new b ≡ true) ⊎ (new b ≡ false) → ((new p ≡ false) × Above T u p) ⊎ ((q : ℕ) × S q × Above T u q × Above J q p) →
            ((new b ≡ false) × Above T u b) ⊎ ((q : ℕ) × S q × Above T u q × Above J q b)
        go m (inr r) = inr (r.0, r.1, r.2, step e r.3)
        go (inl m) (inl r) = ⊎_elim (λ f. absurd (clash f r.0)) (λ s. inr (p, s, r.1, step e here)) (bt.named (sym (jn.fresh m) ∙ e))
        go (inr m) (inl r) = inl (m, step (sym (jn.old m) ∙ e) r.1)

    pub low_join : {a u : ℕ} → new u ≡ false → Low T K a u → Low J Kept a u
    low_join {a} {u} n l = record {
      in_set = kept_k l.in_set;
      below = lift l.below;
      all = λ {v} k x. ⊎_elim
          (λ (r : (new v ≡ false) × Above T u v). lift (l.all (sym (kept_old r.0) ∙ k) r.1))
          (λ (r : (q : ℕ) × S q × Above T u q × Above J q v). trans (lift (l.all (has _ r.1) r.2)) r.3)
          (enter n x);
    }

    -- nothing needed was dropped
    module _ (S2 : Set) (from : (s : ℕ) → S2 s → (new s ≡ true) ⊎ S s) where
      pub reached_old : {u : ℕ} → new u ≡ false → Reached J S2 u → Reached T S u
      reached_old {u} n r = ⊎_elim
          (λ (t : (new r.0 ≡ false) × Above T u r.0). ⊎_elim (λ f. absurd (clash f t.0)) (λ s. (r.0, s, t.1)) (from _ r.1))
          (λ (t : (q : ℕ) × S q × Above T u q × Above J q r.0). (t.0, t.1, t.2))
          (enter n r.2)

      pub kept_all : ((v : ℕ) → Stands T S v → K v ≡ true) → (u : ℕ) → Stands J S2 u → Kept u ≡ true
      kept_all st u (sample p) = kept_named (from u p)
      kept_all st u (two {c} {d} ne e f r s) = ⊎_elim kept_new old (truth (new u))
        where
          fresh_child : {v : ℕ} → new u ≡ false → new v ≡ true → J v ≡ some u → Kept u ≡ true
          fresh_child n m g = ⊎_elim (λ x. absurd (clash x n)) (λ x. kept_k (has u x)) (bt.named (sym (jn.fresh m) ∙ g))

          old : new u ≡ false → Kept u ≡ true
          old n = ⊎_elim (λ m. fresh_child n m e) (λ m. ⊎_elim (λ k. fresh_child n k f)
              (λ k. kept_k (st u (two ne (sym (jn.old m) ∙ e) (sym (jn.old k) ∙ f) (reached_old m r) (reached_old k s)))) (truth (new d))) (truth (new c))

      -- the same for the rule that every reached node stands
      pub kept_reached : ((v : ℕ) → Reached T S v → K v ≡ true) → (u : ℕ) → Reached J S2 u → Kept u ≡ true
      kept_reached st u r = ⊎_elim kept_new (λ n. kept_k (st u (reached_old n r))) (truth (new u))
