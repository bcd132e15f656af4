-- What the rules of what stands share, and the nearest standing node at or below a reached one.
use Rattle.std.proofs.Math.Path.{◌≡◌, refl}
use Rattle.std.proofs.Common.{sym, inl, inr, ⊎_elim, arith}
use Rattle.std.specs.Prelude.{Bool, List, ◌⊎◌}
use Rattle.std.proofs.Math.Bool.{true, false}
use Rattle.std.proofs.Math.Option.{Option, none, some}
use Prim.Native.Nat.{ℕ, zero, suc, ◌≤◌}
use Rattle.meaning.specs.Words.{first_of}
use Rattle.meaning.specs.Forest.{Par, reached, feeds, stands, low}
use Rattle.laws.specs.Bools.{clash, eq?}
use Rattle.laws.specs.Facts.{In}
use Rattle.forest.specs.Lines.{Above, here, step, trans, child_to, above_eq}
use Rattle.forest.specs.Contract.{Set, Reached, Stands, sample, two, Low}
use Rattle.forest.specs.Passing.{first_some, first_of-is}
use Rattle.forest.specs.TreeLaws.{Aged, Nodes, reached_of, of_reached, feeds_of, of_feeds, stands_of, of_stands}

-- what every rule of what stands shares: samples stand, what stands is reached, and so does a fork
pub record Rule (P : Par) (S : Set) (K : ℕ → Bool) : Type 0 where
  pub samples : {s : ℕ} → S s → K s ≡ true
  pub only : {v : ℕ} → K v ≡ true → Reached P S v
  pub forks : {u c d : ℕ} → (c ≡ d → ⊥) → P c ≡ some u → P d ≡ some u → Reached P S c → Reached P S d → K u ≡ true

module _ (P : Par) (rank : ℕ → ℕ) (ok : Aged P rank) (N : List ℕ) (nd : Nodes P N) (S : List ℕ) where
  pub stands_rule : Rule P (In S) (stands N P S)
  stands_rule = record {
    samples = λ m. of_stands P rank ok N nd S _ (sample m);
    only = λ {v} k. reach v (stands_of P rank ok N nd S v k);
    forks = λ n e f r s. of_stands P rank ok N nd S _ (two n e f r s);
  }
    where
      reach : (v : ℕ) → Stands P (In S) v → Reached P (In S) v
      reach v (sample m) = (v, m, here)
      reach v (two n e f r s) = (r.0, r.1, trans (step e here) r.2)

  pub reached_rule : Rule P (In S) (reached P S)
  reached_rule = record {
    samples = λ {s} m. of_reached P rank ok S s (s, m, here);
    only = λ {v} k. reached_of P rank ok S v k;
    forks = λ n e f r s. of_reached P rank ok S _ (r.0, r.1, trans (step e here) r.2);
  }

  module _ (K : ℕ → Bool) (ru : Rule P (In S) K) where
    low_self : {u w : ℕ} → K u ≡ true → some u ≡ some w → Low P K w u
    low_self {u} {w} k e = let q : w ≡ u = cc in record { in_set = rw q k; below = above_eq (sym q); all = λ m x. rw q x }

    low_child : {u c w : ℕ} → K u ≡ false → P c ≡ some u → Reached P (In S) c → Low P K w c → Low P K w u
    low_child {u} {c} {w} k e r l = record { in_set = l.in_set; below = trans (step e here) l.below; all = λ {v} m x. go v m (child_to x) }
      where
        go : (v : ℕ) → K v ≡ true → (u ≡ v) ⊎ ((d : ℕ) × (P d ≡ some u) × Above P d v) → Above P w v
        go v m (inl q) = absurd (clash m (rw q at k))
        go v m (inr d) = ⊎_elim
            (λ (q : c ≡ d.0). l.all m (rw q d.2))
            (λ n. let s : _ = ru.only m in absurd (clash (ru.forks n e d.1 r (s.0, s.1, trans d.2 s.2)) k))
            (eq? c d.0)

    pub low_of : (k w u : ℕ) → low N P (reached P S) K k u ≡ some w → Low P K w u
    unfolding low
    low_of zero w u h = go (K u) refl
      where
        go : (t : Bool) → K u ≡ t → Low P K w u
        go true e = low_self e (rw (e, low) at h)
        go false e = absurd (let h2 : none ≡ some w = rw (e, low) at h in let z : ◌≡◌ {A = ℕ} 0 1 = cc in omega arith)
    low_of (suc k) w u h = go (K u) refl (first_of (feeds P (reached P S) u) N) refl (λ c m. low_of k w c m)
      where
        go : (t : Bool) → K u ≡ t → (o : Option ℕ) → first_of (feeds P (reached P S) u) N ≡ o → ((c : ℕ) → low N P (reached P S) K k c ≡ some w → Low P K w c) → Low P K w u
        go true e o f ih = low_self e (rw (e, low) at h)
        go false e none f ih = absurd (let h2 : none ≡ some w = rw f at (rw (e, low) at h) in let z : ◌≡◌ {A = ℕ} 0 1 = cc in omega arith)
        go false e (some c) f ih =
            let x : _ = feeds_of P (reached P S) u c (first_of-is (feeds P (reached P S) u) c N f) in
            low_child e x.0 (reached_of P rank ok S c x.1) (ih c (rw f at (rw (e, low) at h)))

    pub of_low : (k u : ℕ) → rank u ≤ k → Reached P (In S) u → (w : ℕ) × (low N P (reached P S) K k u ≡ some w)
    unfolding low
    of_low zero u l r = go (child_to r.2)
      where
        go : (u ≡ r.0) ⊎ ((c : ℕ) × (P c ≡ some u) × Above P c r.0) → (w : ℕ) × (low N P (reached P S) K zero u ≡ some w)
        go (inl q) = (u, rw (ru.samples {s = u} (rw q r.1), low))
        go (inr c) = absurd (omega (arith, ok.ranked.grows c.1))
    of_low (suc k) u l r = go (K u) refl (child_to r.2) (λ c m s. of_low k c m s)
      where
        go : (t : Bool) → K u ≡ t → (u ≡ r.0) ⊎ ((c : ℕ) × (P c ≡ some u) × Above P c r.0) →
            ((c : ℕ) → rank c ≤ k → Reached P (In S) c → (w : ℕ) × (low N P (reached P S) K k c ≡ some w)) → (w : ℕ) × (low N P (reached P S) K (suc k) u ≡ some w)
        go true e x ih = (u, rw (e, low))
        go false e (inl q) ih = absurd (clash (ru.samples {s = u} (rw q r.1)) e)
        go false e (inr c) ih =
            let f : _ = first_some (feeds P (reached P S) u) c.0 N (nd.listed c.1) (of_feeds P (reached P S) u c.0 c.1 (of_reached P rank ok S c.0 (r.0, r.1, c.2))) in
            let x : _ = feeds_of P (reached P S) u f.0 (first_of-is (feeds P (reached P S) u) f.0 N f.1) in
            let g : _ = ih f.0 (omega (arith, ok.ranked.grows x.0)) (reached_of P rank ok S f.0 x.1) in
            (g.0, rw (e, low) (rw f.1 g.1))
