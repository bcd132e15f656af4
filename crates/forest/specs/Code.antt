-- The equations by which code fills columns for one position in the order of time: no steps are counted here.
use Rattle.std.specs.Prelude.{◌≡◌, Bool, true, false, List, ◌⊎◌, ℕ, suc, ◌<◌, ◌≤◌}
use Rattle.std.proofs.Common.{ap, ◌∙◌, inl, inr, ⊎_elim, arith}
use Rattle.std.proofs.Math.Option.{none, some}
use Rattle.meaning.specs.Words.{or, mem, any, first_of}
use Rattle.meaning.specs.Forest.{Par, Ages, reached, feeds, up, low}
use Rattle.laws.specs.Bools.{clash, truth, some_inj, bool_ext, opt_ext}
use Rattle.laws.specs.Facts.{In}
use Rattle.forest.specs.Lines.{Above, here, step, trans, child_to, antisym}
use Rattle.forest.specs.Contract.{Near, found, on, Up, Low}
use Rattle.forest.specs.Passing.{any_yes, any_of, first_of-is}
use Rattle.forest.specs.TreeLaws.{Aged, Nodes, reached_of, of_reached, up_of, of_up, feeds_of, of_feeds}
use Rattle.forest.specs.Lowest.{Rule, low_of, of_low}

module _ (P : Par) (K : ℕ → Bool) (rank : ℕ → ℕ) (ok : Aged P rank) where
  pub up_root : (v : ℕ) → P v ≡ none → up P K v ≡ none
  unfolding up
  up_root v e = rw (e, up)

  pub up_here : (v p : ℕ) → P v ≡ some p → K p ≡ true → up P K v ≡ some p
  up_here v p e k = of_up P K rank ok p v (p, e, found k)

  pub up_on : (v p : ℕ) → P v ≡ some p → K p ≡ false → up P K v ≡ up P K p
  up_on v p e k = opt_ext
      (λ w h. let u : _ = up_of P K w v h in of_up P K rank ok w p (past w u.0 (some_inj u.1 e) u.2))
      (λ w h. let u : _ = up_of P K w p h in of_up P K rank ok w v (p, e, on k u.1 u.2))
    where
      past : (w q : ℕ) → q ≡ p → Near P K w q → Up P K w p
      past w q r (found l) = absurd (clash (rw r at l) k)
      past w q r (on {p = j} l f x) = (j, rw r at f, x)

module _ (P : Par) (rank : ℕ → ℕ) (ok : Aged P rank) (N : List ℕ) (nd : Nodes P N) (S : List ℕ) where
  pub reached_step : (u : ℕ) → reached P S u ≡ or (mem u S) (any (feeds P (reached P S) u) N)
  reached_step u = bool_ext (λ h. down h (child_to (reached_of P rank ok S u h).2)) (λ h. up2 h (truth (mem u S)))
    where
      down : (h : reached P S u ≡ true) → (u ≡ (reached_of P rank ok S u h).0) ⊎ ((c : ℕ) × (P c ≡ some u) × Above P c (reached_of P rank ok S u h).0) →
          or (mem u S) (any (feeds P (reached P S) u) N) ≡ true
      down h (inl q) = let m : mem u S ≡ true = rw q (reached_of P rank ok S u h).1 in rw m
      down h (inr c) = ⊎_elim
          (λ (m : mem u S ≡ true). rw m)
          (λ (m : mem u S ≡ false). rw m (any_yes (feeds P (reached P S) u) c.0 N (nd.listed c.1)
          (of_feeds P (reached P S) u c.0 c.1 (of_reached P rank ok S c.0 ((reached_of P rank ok S u h).0, (reached_of P rank ok S u h).1, c.2)))))
          (truth (mem u S))

      up2 : or (mem u S) (any (feeds P (reached P S) u) N) ≡ true → (mem u S ≡ true) ⊎ (mem u S ≡ false) → reached P S u ≡ true
      up2 h (inl m) = of_reached P rank ok S u (u, m, here)
      up2 h (inr m) =
          let r : _ = any_of (feeds P (reached P S) u) N (rw m at h) in
          let f : _ = feeds_of P (reached P S) u r.0 r.2 in
          let s : _ = reached_of P rank ok S r.0 f.1 in
          of_reached P rank ok S u (s.0, s.1, trans (step f.0 here) s.2)

  module _ (K : ℕ → Bool) (ru : Rule P (In S) K) where
    low_steps : (j k u : ℕ) → rank u ≤ j → rank u ≤ k → (w : ℕ) → low N P (reached P S) K j u ≡ some w → low N P (reached P S) K k u ≡ some w
    low_steps j k u lj lk w h =
        let x : Low P K w u = low_of P rank ok N nd S K ru j w u h in
        let s : _ = ru.only x.in_set in
        let r : _ = of_low P rank ok N nd S K ru k u lk (s.0, s.1, trans x.below s.2) in
        let y : Low P K r.0 u = low_of P rank ok N nd S K ru k r.0 u r.1 in
        r.1 ∙ ap some (antisym rank ok.ranked (y.all x.in_set x.below) (x.all y.in_set y.below))

    stop : (n u : ℕ) → K u ≡ true → low N P (reached P S) K (suc n) u ≡ some u
    unfolding low
    stop n u k = rw (k, low)

    pub low_here : (u : ℕ) → K u ≡ true → low N P (reached P S) K Ages u ≡ some u
    low_here u k = stop 4294967295 u k

    unroll : (n u c : ℕ) → K u ≡ false → first_of (feeds P (reached P S) u) N ≡ some c → low N P (reached P S) K (suc n) u ≡ low N P (reached P S) K n c
    unfolding low
    unroll n u c k f = rw (k, low) (rw f)

    -- the only reached child
    pub low_on : (u c : ℕ) → rank u < Ages → K u ≡ false → first_of (feeds P (reached P S) u) N ≡ some c → low N P (reached P S) K Ages u ≡ low N P (reached P S) K Ages c
    low_on u c l k f = unroll 4294967295 u c k f ∙ opt_ext (λ w h. low_steps 4294967295 Ages c less (omega (arith, less)) w h) (λ w h. low_steps Ages 4294967295 c (omega (arith, less)) less w h)
      where
        fed : P c ≡ some u
        fed = (feeds_of P (reached P S) u c (first_of-is (feeds P (reached P S) u) c N f)).0

        less : rank c ≤ 4294967295
        less = omega (arith, ok.ranked.grows fed)
