-- The nearest carrier of a mark at or above a node, when marks go down to the nearest standing node.
use Rattle.std.specs.Prelude.{◌≡◌, refl, Bool, true, false, ◌⊎◌, ℕ, ◌<◌}
use Rattle.std.proofs.Math.Option.{Option, none, some}
use Rattle.std.proofs.Common.{inl, inr, ⊎_elim, arith}
use Rattle.meaning.specs.Forest.{Par, Ages, ancestor}
use Rattle.laws.specs.Bools.{clash, eq?, not_true, some_inj}
use Rattle.forest.specs.Lines.{Above, here, step, Ranked, trans, antisym, comparable, rank_le}
use Rattle.forest.specs.Contract.{Near, found, on, Low, Contract, near_in, near_above, order_in, order_out, contract_ranked}
use Rattle.forest.specs.TreeLaws.{Aged, above_of, of_above}

module _ {P : Par} {c : ℕ → Bool} where
  -- every carrier on the line is at or above the nearest
  pub near_least : {u v a : ℕ} → Near P c u v → c a ≡ true → Above P a v → Above P a u
  near_least (found k) h x = x
  near_least (on k e n) h here = absurd (clash h k)
  near_least (on k e n) h (step f x) = near_least n h (rw (some_inj f e) at x)

  -- where the line has a carrier, it has a nearest one
  pub near_exists : {a v : ℕ} → c a ≡ true → Above P a v → (w : ℕ) × Near P c w v
  near_exists {a} h here = (a, found h)
  near_exists h (step {b} {p} e x) = go (c b) refl (near_exists h x)
    where
      go : (t : Bool) → c b ≡ t → (w : ℕ) × Near P c w p → (w : ℕ) × Near P c w b
      go true f r = (b, found f)
      go false f r = (r.0, on f e r.1)

  -- a carrier below which the line has none is the nearest
  pub near_by : {w v : ℕ} → c w ≡ true → Above P w v → ((a : ℕ) → Above P w a → Above P a v → (a ≡ w → ⊥) → c a ≡ false) → Near P c w v
  near_by h here f = found h
  near_by {w} h (step {b} {p} e x) f = go (eq? b w) (near_by h x (λ a y z n. f a y (trans z (step e here)) n))
    where
      go : (b ≡ w) ⊎ (b ≡ w → ⊥) → Near P c w p → Near P c w b
      go (inl q) ih = rw q (found h)
      go (inr n) ih = on (f b (step e x) here n) e ih

module _ {P : Par} {K : ℕ → Bool} {Q : Par} (ct : Contract P K Q) (rank : ℕ → ℕ) (ok : Ranked P rank) (c d : ℕ → Bool) (came : (w : ℕ) → d w ≡ true → (u : ℕ) × (c u ≡ true) × Low P K w u) where
  -- marks c became marks d, each on the nearest standing node at or below: so did the nearest carrier above a standing node
  pub near_low : {u w s : ℕ} → K s ≡ true → Near P c u s → Low P K w u → d w ≡ true → Near Q d w s
  near_low {u} {w} {s} k n l h = near_by h (order_out ct l.in_set k (l.all k (near_above n))) (λ a y z ne. not_true (d a) (λ e. ne (same a y z e)))
    where
      same : (a : ℕ) → Above Q w a → Above Q a s → d a ≡ true → a ≡ w
      same a y z e =
          let r : _ = came a e in
          let up : Above P r.0 u = near_least n r.1 (trans r.2.below (order_in ct z)) in
          antisym rank ok (r.2.all l.in_set (trans up l.below)) (order_in ct y)

  -- no carrier comes from nowhere
  pub near_came : {w s : ℕ} → Near Q d w s → (u : ℕ) × Near P c u s
  near_came {w} n = let r : _ = came w (near_in n) in near_exists r.1 (trans r.2.below (order_in ct (near_above n)))

-- ---- a proper ancestor

pub ancestor_of : (P : Par) (a b : ℕ) → ancestor P a b ≡ true → (p : ℕ) × (P b ≡ some p) × Above P a p
unfolding ancestor
ancestor_of P a b h = go (P b) refl
  where
    go : (o : Option ℕ) → P b ≡ o → (p : ℕ) × (P b ≡ some p) × Above P a p
    go none e = absurd (clash (rw (e, ancestor) at h) refl)
    go (some p) e = (p, e, above_of P Ages a p (rw (e, ancestor) at h))

module _ (P : Par) (rank : ℕ → ℕ) (ok : Aged P rank) where
  pub of_ancestor : (a b : ℕ) → Above P a b → (a ≡ b → ⊥) → ancestor P a b ≡ true
  unfolding ancestor
  of_ancestor a b here n = absurd (n refl)
  of_ancestor a b (step {p} e x) n = rw (e, ancestor) (of_above P rank ok Ages a p (omega arith) x)

  -- drawing together turns no two marks round: where v's mark ends properly above u's, v was properly above u
  pub low_order : {K : ℕ → Bool} {Q : Par} → Contract P K Q → {u v w z : ℕ} → Low P K w u → Low P K z v → ancestor Q z w ≡ true → ancestor P v u ≡ true
  low_order {K} {Q} ct {u} {v} {w} {z} a b h = ⊎_elim
      (λ (y : Above P u z). absurd (not_under y))
      (λ (y : Above P z u). of_ancestor v u (trans b.below y) (λ (q : v ≡ u). not_under (rw q at b.below)))
      (comparable a.below over)
    where
      r : (p : ℕ) × (Q w ≡ some p) × Above Q z p
      r = ancestor_of Q z w h

      over : Above P z w
      over = order_in ct (trans r.2 (step r.1 here))

      older : rank w < rank z
      older = let ok_q : Ranked Q rank = contract_ranked ct ok.ranked in omega (arith, ok_q.grows r.1, rank_le rank ok_q r.2)

      not_under : Above P u z → ⊥
      not_under y = omega (arith, older, rank_le rank ok.ranked (a.all b.in_set y))
