-- The functions that compute reached, stands, up and the cleaned forest say what the relations say.
use Rattle.std.proofs.Math.Path.{◌≡◌, refl, ap}
use Rattle.std.proofs.Common.{sym, ◌∙◌, inl, inr, arith}
use Rattle.std.specs.Prelude.{Bool, List, ◌⊎◌, leb}
use Rattle.std.proofs.Math.Bool.{true, false}
use Rattle.std.proofs.Math.Option.{Option, none, some}
use Rattle.std.proofs.Math.Logic.{⊎_elim}
use Prim.Native.Nat.{ℕ, zero, suc, ◌+◌, ◌<◌, ◌≤◌}
use Rattle.std.proofs.Math.Dec.{eqb}
use borrow.Author.Tests.{eqb-true, eq-eqb, le-leb, leb-true}
use Rattle.meaning.specs.Words.{or, mem, count}
use Rattle.meaning.specs.Forest.{Par, Ages, is, above, reached, feeds, stands, near, up, drawn}
use Rattle.laws.specs.Bools.{clash, truth}
use Rattle.laws.specs.Facts.{In, Distinct}
use Rattle.forest.specs.Lines.{Above, here, step, Ranked, above_eq}
use Rattle.forest.specs.Contract.{Reached, Stands, sample, two, Near, found, on, Up, Contract}
use Rattle.forest.specs.Passing.{any_yes, any_of, count_two, two_of}

-- what the checks give: parents are older, and times are below Ages
pub record Aged (P : Par) (rank : ℕ → ℕ) : Type 0 where
  pub ranked : Ranked P rank
  pub bound : {b p : ℕ} → P b ≡ some p → rank p < Ages

module _ (P : Par) where
  pub above_of : (k a b : ℕ) → above P k a b ≡ true → Above P a b
  unfolding above
  above_of zero a b h = above_eq (eqb-true a b h)
  above_of (suc k) a b h = go (eqb a b) refl (P b) refl (λ p m. above_of k a p m)
    where
      go : (t : Bool) → eqb a b ≡ t → (o : Option ℕ) → P b ≡ o → ((p : ℕ) → above P k a p ≡ true → Above P a p) → Above P a b
      go true e o f ih = above_eq (eqb-true a b e)
      go false e none f ih = absurd (clash h (rw (e, above) (rw f)))
      go false e (some p) f ih = step f (ih p (rw f at (rw (e, above) at h)))

  module _ (rank : ℕ → ℕ) (ok : Aged P rank) where
    pub of_above : (k a b : ℕ) → Ages ≤ k + rank b → Above P a b → above P k a b ≡ true
    unfolding above
    of_above zero a b l here = eq-eqb a a refl
    of_above zero a b l (step e x) = absurd (omega (arith, ok.ranked.grows e, ok.bound e))
    of_above (suc k) a b l here = rw (eq-eqb a a refl, above)
    of_above (suc k) a b l (step {p} e x) = go (eqb a b) refl (of_above k a p (omega (arith, ok.ranked.grows e)) x)
      where
        go : (t : Bool) → eqb a b ≡ t → above P k a p ≡ true → above P (suc k) a b ≡ true
        go true f ih = rw (f, above)
        go false f ih = rw (f, above) (rw e ih)

    pub reached_of : (S : List ℕ) (u : ℕ) → reached P S u ≡ true → Reached P (In S) u
    unfolding reached
    reached_of S u h = let r : _ = any_of (above P Ages u) S h in (r.0, r.1, above_of Ages u r.0 r.2)

    pub of_reached : (S : List ℕ) (u : ℕ) → Reached P (In S) u → reached P S u ≡ true
    unfolding reached
    of_reached S u r = any_yes (above P Ages u) r.0 S r.1 (of_above Ages u r.0 (omega arith) r.2)

  pub feeds_of : (R : ℕ → Bool) (u v : ℕ) → feeds P R u v ≡ true → (P v ≡ some u) × (R v ≡ true)
  unfolding feeds is
  feeds_of R u v h = go (P v) refl
    where
      sure : (p : ℕ) → P v ≡ some p → (t : Bool) → eqb p u ≡ t → (P v ≡ some u) × (R v ≡ true)
      sure p e true q = (e ∙ ap some (eqb-true p u q), rw q at (rw e at h))
      sure p e false q = absurd (clash (rw q at (rw e at h)) refl)

      go : (o : Option ℕ) → P v ≡ o → (P v ≡ some u) × (R v ≡ true)
      go none e = absurd (clash (rw e at h) refl)
      go (some p) e = sure p e (eqb p u) refl

  pub of_feeds : (R : ℕ → Bool) (u v : ℕ) → P v ≡ some u → R v ≡ true → feeds P R u v ≡ true
  unfolding feeds is
  of_feeds R u v e r = rw e (rw (eq-eqb u u refl) r)

-- the nodes of the forest, each once, every child among them
pub record Nodes (P : Par) (N : List ℕ) : Type 0 where
  pub once : Distinct N
  pub listed : {b p : ℕ} → P b ≡ some p → mem b N ≡ true

module _ (P : Par) (rank : ℕ → ℕ) (ok : Aged P rank) (N : List ℕ) (nd : Nodes P N) (S : List ℕ) where
  pub stands_of : (u : ℕ) → stands N P S u ≡ true → Stands P (In S) u
  unfolding stands
  stands_of u h = go (truth (mem u S))
    where
      go : (mem u S ≡ true) ⊎ (mem u S ≡ false) → Stands P (In S) u
      go (inl m) = sample m
      go (inr m) =
          let r : _ = two_of (feeds P (reached P S) u) N nd.once (leb-true _ _ (rw m at h)) in
          let x : _ = feeds_of P (reached P S) u r.0 r.3 in
          let y : _ = feeds_of P (reached P S) u r.1 r.4 in
          two r.2 x.0 y.0 (reached_of P rank ok S r.0 x.1) (reached_of P rank ok S r.1 y.1)

  pub of_stands : (u : ℕ) → Stands P (In S) u → stands N P S u ≡ true
  unfolding stands
  of_stands u (sample m) = rw m
  of_stands u (two {c} {d} n e f r s) = go (truth (mem u S))
    where
      go : (mem u S ≡ true) ⊎ (mem u S ≡ false) → or (mem u S) (leb 2 (count (feeds P (reached P S) u) N)) ≡ true
      go (inl m) = rw m
      go (inr m) = rw m (le-leb _ _ (count_two (feeds P (reached P S) u) c d N n (nd.listed e) (nd.listed f) (of_feeds P (reached P S) u c e (of_reached P rank ok S c r))
          (of_feeds P (reached P S) u d f (of_reached P rank ok S d s))))

module _ (P : Par) (K : ℕ → Bool) where
  pub near_of : (k w v : ℕ) → near P K k v ≡ some w → Near P K w v
  unfolding near
  near_of zero w v h = go (K v) refl
    where
      go : (t : Bool) → K v ≡ t → Near P K w v
      go true e = let h2 : some v ≡ some w = rw (e, near) at h in let q : w ≡ v = cc in rw (sym q) (found (rw q e))
      go false e = absurd (let h2 : none ≡ some w = rw (e, near) at h in let z : ◌≡◌ {A = ℕ} 0 1 = cc in omega arith)
  near_of (suc k) w v h = go (K v) refl (P v) refl (λ p m. near_of k w p m)
    where
      go : (t : Bool) → K v ≡ t → (o : Option ℕ) → P v ≡ o → ((p : ℕ) → near P K k p ≡ some w → Near P K w p) → Near P K w v
      go true e o f ih = let h2 : some v ≡ some w = rw (e, near) at h in let q : w ≡ v = cc in rw (sym q) (found (rw q e))
      go false e none f ih = absurd (let h2 : none ≡ some w = rw f at (rw (e, near) at h) in let z : ◌≡◌ {A = ℕ} 0 1 = cc in omega arith)
      go false e (some p) f ih = on e f (ih p (rw f at (rw (e, near) at h)))

  pub up_of : (w v : ℕ) → up P K v ≡ some w → Up P K w v
  unfolding up
  up_of w v h = go (P v) refl
    where
      go : (o : Option ℕ) → P v ≡ o → Up P K w v
      go none f = absurd (let h2 : none ≡ some w = rw (f, up) at h in let z : ◌≡◌ {A = ℕ} 0 1 = cc in omega arith)
      go (some p) f = (p, f, near_of Ages w p (rw (f, up) at h))

  module _ (rank : ℕ → ℕ) (ok : Aged P rank) where
    pub of_near : (k w v : ℕ) → Ages ≤ k + rank v → Near P K w v → near P K k v ≡ some w
    unfolding near
    of_near zero w v l (found e) = rw (e, near)
    of_near zero w v l (on e f x) = absurd (omega (arith, ok.ranked.grows f, ok.bound f))
    of_near (suc k) w v l (found e) = rw (e, near)
    of_near (suc k) w v l (on {p} e f x) = rw (e, near) (rw f (of_near k w p (omega (arith, ok.ranked.grows f)) x))

    pub of_up : (w v : ℕ) → Up P K w v → up P K v ≡ some w
    unfolding up
    of_up w v u = rw (u.1, up) (of_near Ages w u.0 (omega arith) u.2)

    -- the cleaned forest is the forest drawn together to what stands
    pub drawn_contract : Contract P K (drawn P K)
    unfolding drawn
    drawn_contract = record {
      child = λ {b} {w} e. ⊎_elim (λ k. k) (λ (k : K b ≡ false). absurd (let h : none ≡ some w = rw (k, drawn) at e in let z : ◌≡◌ {A = ℕ} 0 1 = cc in omega arith)) (truth (K b));
      into = λ {b} {w} e. ⊎_elim (λ (k : K b ≡ true). up_of w b (rw (k, drawn) at e))
          (λ (k : K b ≡ false). absurd (let h : none ≡ some w = rw (k, drawn) at e in let z : ◌≡◌ {A = ℕ} 0 1 = cc in omega arith)) (truth (K b));
      onto = λ {b} {w} k u. rw (k, drawn) (of_up w b u);
    }
