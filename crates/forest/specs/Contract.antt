-- A forest drawn together to a set K of its nodes: what stands, the nearest above and the nearest below stay.
use Rattle.std.specs.Prelude.{◌≡◌, refl, Bool, true, false, ◌⊎◌, ℕ, ◌<◌}
use Rattle.std.proofs.Common.{ap, inl, inr, ⊎_elim, arith}
use Rattle.std.proofs.Math.Option.{some}
use Rattle.meaning.specs.Forest.{Par}
use Rattle.laws.specs.Bools.{clash, eq?}
use Rattle.forest.specs.Lines.{Above, here, step, Ranked, Parts, first, second, fork, trans, above_eq, child_to, to_down, meet, rank_le, squeeze, same_child}

abbrev pub Set : Type 1
Set = ℕ → Type 0

abbrev pub Reached : Par → Set → ℕ → Type 0
Reached P S u = (s : ℕ) × S s × Above P u s

pub data Stands (P : Par) (S : Set) (u : ℕ) : Type 0 where
  sample : S u → Stands P S u
  two : {c d : ℕ} → (c ≡ d → ⊥) → P c ≡ some u → P d ≡ some u → Reached P S c → Reached P S d → Stands P S u

-- w is the nearest node of K at or above v
pub data Near (P : Par) (K : ℕ → Bool) (w : ℕ) : ℕ → Type 0 where
  found : K w ≡ true → Near P K w w
  on : {v p : ℕ} → K v ≡ false → P v ≡ some p → Near P K w p → Near P K w v

-- w is the nearest node of K properly above v
abbrev pub Up : Par → (ℕ → Bool) → ℕ → ℕ → Type 0
Up P K w v = (p : ℕ) × (P v ≡ some p) × Near P K w p

-- w is the highest node of K at or below u, and all others below u are below w
pub record Low (P : Par) (K : ℕ → Bool) (w u : ℕ) : Type 0 where
  pub in_set : K w ≡ true
  pub below : Above P u w
  pub all : {v : ℕ} → K v ≡ true → Above P u v → Above P w v

-- Q is P drawn together to K
pub record Contract (P : Par) (K : ℕ → Bool) (Q : Par) : Type 0 where
  pub child : {b w : ℕ} → Q b ≡ some w → K b ≡ true
  pub into : {b w : ℕ} → Q b ≡ some w → Up P K w b
  pub onto : {b w : ℕ} → K b ≡ true → Up P K w b → Q b ≡ some w

module _ {P : Par} {K : ℕ → Bool} where
  pub near_in : {w v : ℕ} → Near P K w v → K w ≡ true
  near_in (found k) = k
  near_in (on k e x) = near_in x

  pub near_above : {w v : ℕ} → Near P K w v → Above P w v
  near_above (found k) = here
  near_above (on k e x) = step e (near_above x)

  pub near_self : {w v : ℕ} → K v ≡ true → Near P K w v → w ≡ v
  near_self k (found l) = refl
  near_self k (on l e x) = absurd (clash k l)

module _ {P : Par} where
  -- a sample's meeting points stand
  pub meet_stands : (S : Set) {a s t : ℕ} → S s → S t → Above P a s → Above P a t → (m : ℕ) × Above P a m × Above P m s × Above P m t × Stands P S m
  meet_stands S {a} {s} {t} p q x y = let r : _ = meet t (to_down x) y in go r.0 r.1 r.2
    where
      go : (m : ℕ) → Above P a m → Parts P m s t → (m : ℕ) × Above P a m × Above P m s × Above P m t × Stands P S m
      go m u (first e z) = (m, u, above_eq e, z, sample (rw e p))
      go m u (second e z) = (m, u, z, above_eq e, sample (rw e q))
      go m u (fork n e f v w) = (m, u, trans (step e here) v, trans (step f here) w, two n e f (s, p, v) (t, q, w))

module _ {P : Par} {K : ℕ → Bool} {Q : Par} (c : Contract P K Q) where
  pub up_in : {b w : ℕ} → Q b ≡ some w → K w ≡ true
  up_in e = near_in (c.into e).2

  pub up_above : {b w : ℕ} → Q b ≡ some w → Above P w b
  up_above e = let r : _ = c.into e in step r.1 (near_above r.2)

  pub contract_ranked : {rank : ℕ → ℕ} → Ranked P rank → Ranked Q rank
  contract_ranked {rank} ok = record { grows = λ e. let r : _ = c.into e in omega (arith, ok.grows r.1, rank_le rank ok (near_above r.2)) }

  -- 1. the order law
  pub order_in : {u v : ℕ} → Above Q u v → Above P u v
  order_in here = here
  order_in (step e x) = trans (order_in x) (up_above e)

  order_near : {u v : ℕ} → K u ≡ true → Above P u v → (w : ℕ) × Near P K w v × Above Q u w
  order_near {u} k here = (u, found k, here)
  order_near {u} k (step {b} {p} e x) = go (K b) refl (order_near k x)
    where
      go : (t : Bool) → K b ≡ t → (w : ℕ) × Near P K w p × Above Q u w → (w : ℕ) × Near P K w b × Above Q u w
      go true f r = (b, found f, step (c.onto f (p, e, r.1)) r.2)
      go false f r = (r.0, on f e r.1, r.2)

  pub order_out : {u v : ℕ} → K u ≡ true → K v ≡ true → Above P u v → Above Q u v
  order_out k l x = let r : _ = order_near k x in rw (near_self l r.1) at r.2

  module _ (S : Set) (rank : ℕ → ℕ) (ok : Ranked P rank) (has : (s : ℕ) → S s → K s ≡ true) where
    -- 2. reached
    pub reached_in : {u : ℕ} → Reached Q S u → Reached P S u
    reached_in r = (r.0, r.1, order_in r.2)

    pub reached_out : {u : ℕ} → K u ≡ true → Reached P S u → Reached Q S u
    reached_out k r = (r.0, r.1, order_out k (has _ r.1) r.2)

    -- the child in Q of u, on the way down to s
    q_child : {u e s : ℕ} → K u ≡ true → S s → P e ≡ some u → Above P e s → (d : ℕ) × (Q d ≡ some u) × Above Q d s × Above P e d
    q_child {u} {e} {s} k p f x = go (child_to (order_out k (has _ p) (trans (step f here) x)))
      where
        go : (u ≡ s) ⊎ ((d : ℕ) × (Q d ≡ some u) × Above Q d s) → (d : ℕ) × (Q d ≡ some u) × Above Q d s × Above P e d
        go (inl q) = absurd (omega (arith, rank_le rank ok x, ok.grows f, ap rank q))
        go (inr r) = (r.0, r.1, r.2, squeeze rank ok f x (order_in r.2) ((contract_ranked ok).grows r.1))

    -- 3. what stands in P stands in Q
    pub stands_out : {u : ℕ} → K u ≡ true → Stands P S u → Stands Q S u
    stands_out k (sample p) = sample p
    stands_out k (two n e f r s) =
        let i : _ = q_child k r.1 e r.2 in
        let j : _ = q_child k s.1 f s.2 in
        two (λ (q : i.0 ≡ j.0). n (same_child rank ok e f i.3 (rw q j.3))) i.1 j.1 (r.0, r.1, i.2) (s.0, s.1, j.2)

    -- 4. and what stands in Q stands in P, if K has all that stands in P
    pub stands_in : ((v : ℕ) → Stands P S v → K v ≡ true) → {u : ℕ} → Stands Q S u → Stands P S u
    stands_in closed (sample p) = sample p
    stands_in closed {u} (two {c = a} {d} n e f r s) = go (child_to (up_above e)) (child_to (up_above f))
      where
        ok_q : Ranked Q rank
        ok_q = contract_ranked ok

        same : (i : ℕ) → P i ≡ some u → Above P i a → Above P i d → ⊥
        same i x y z =
            let m : _ = meet_stands S r.1 s.1 (trans y (order_in r.2)) (trans z (order_in s.2)) in
            let k : K m.0 ≡ true = closed m.0 m.4 in
            let l : rank m.0 < rank u = omega (arith, rank_le rank ok m.1, ok.grows x) in
            n (same_child rank ok_q e f (squeeze rank ok_q e r.2 (order_out k (has _ r.1) m.2) l) (squeeze rank ok_q f s.2 (order_out k (has _ s.1) m.3) l))

        go : (u ≡ a) ⊎ ((i : ℕ) × (P i ≡ some u) × Above P i a) → (u ≡ d) ⊎ ((i : ℕ) × (P i ≡ some u) × Above P i d) → Stands P S u
        go (inl q) _ = absurd (omega (arith, ok_q.grows e, ap rank q))
        go (inr i) (inl q) = absurd (omega (arith, ok_q.grows f, ap rank q))
        go (inr i) (inr j) = ⊎_elim
            (λ (q : i.0 ≡ j.0). absurd (same i.0 i.1 i.2 (rw q j.2)))
            (λ (m : i.0 ≡ j.0 → ⊥). two m i.1 j.1 (r.0, r.1, trans i.2 (order_in r.2)) (s.0, s.1, trans j.2 (order_in s.2)))
            (eq? i.0 j.0)

  -- 5. the nearest above, for any smaller set M that stands for "stands"
  module _ (M : ℕ → Bool) (sub : (v : ℕ) → M v ≡ true → K v ≡ true) where
    not_sub : {v : ℕ} → K v ≡ false → M v ≡ false
    not_sub {v} k = go (M v) refl
      where
        go : (t : Bool) → M v ≡ t → M v ≡ false
        go true e = absurd (clash (sub v e) k)
        go false e = e

    near_through : {a w v : ℕ} → Near P K a v → Near P M w a → Near P M w v
    near_through (found k) y = y
    near_through (on k e x) y = on (not_sub k) e (near_through x y)

    near_in_p : {w a : ℕ} → Near Q M w a → Near P M w a
    near_in_p (found k) = found k
    near_in_p (on k e x) = let r : _ = c.into e in on k r.1 (near_through r.2 (near_in_p x))

    near_split : {w v : ℕ} → Near P M w v → (a : ℕ) × Near P K a v × Near Q M w a
    near_split {w} (found k) = (w, found (sub w k), found k)
    near_split {w} (on {v} {p} k e x) = go (K v) refl (near_split x)
      where
        go : (t : Bool) → K v ≡ t → (a : ℕ) × Near P K a p × Near Q M w a → (a : ℕ) × Near P K a v × Near Q M w a
        go true f r = (v, found f, on k (c.onto f (p, e, r.1)) r.2)
        go false f r = (r.0, on f e r.1, r.2)

    pub up_in_p : {w v : ℕ} → Up Q M w v → Up P M w v
    up_in_p u = let r : _ = c.into u.1 in (r.0, r.1, near_through r.2 (near_in_p u.2))

    pub up_out_p : {w v : ℕ} → K v ≡ true → Up P M w v → Up Q M w v
    up_out_p k u = let r : _ = near_split u.2 in (r.0, c.onto k (u.0, u.1, r.1), r.2)

    -- the nearest below goes by the nearest below in K
    pub low_in_p : {u a w : ℕ} → Low P K a u → Low Q M w a → Low P M w u
    low_in_p x y = record { in_set = y.in_set; below = trans x.below (order_in y.below); all = λ m z. order_in (y.all m (order_out x.in_set (sub _ m) (x.all (sub _ m) z))) }

    pub low_out_p : {u a w : ℕ} → Low P K a u → Low P M w u → Low Q M w a
    low_out_p x y = record {
      in_set = y.in_set;
      below = order_out x.in_set (sub _ y.in_set) (x.all (sub _ y.in_set) y.below);
      all = λ m z. order_out
          (sub _ y.in_set) (sub _ m) (y.all m (trans x.below (order_in z)));
    }
