-- At or above as a relation, and what it says of the test `ancestor`: the count of steps is never the matter.
use Rattle.std.specs.Prelude.{◌≡◌, Bool, ◌⊎◌}
use Rattle.std.proofs.Math.Path.{refl}
use Rattle.std.proofs.Math.Bool.{true, false}
use Rattle.std.proofs.Math.Option.{Option, none, some}
use Rattle.std.proofs.Common.{inl, inr, ⊎_elim, arith}
use Prim.Native.Nat.{ℕ, zero, suc, ◌+◌, ◌<◌, ◌≤◌}
use Rattle.std.proofs.Math.Dec.{eqb}
use borrow.Author.Tests.{eqb-true, eq-eqb}
use Rattle.meaning.specs.Words.{or}
use Rattle.meaning.specs.Forest.{Par, Ages, above, ancestor}
use Rattle.laws.specs.Bools.{clash, bool_ext, not_true, or_of, or_left, or_right, some_inj, none_some}

-- a is b or an ancestor of b
pub data Above (P : Par) (a : ℕ) : ℕ → Type 0 where
  here : Above P a a
  step : {b p : ℕ} → P b ≡ some p → Above P a p → Above P a b

-- ages grow upwards and stay below the count of steps
pub record Aged (P : Par) (age : ℕ → ℕ) : Type 0 where
  pub grows : {b p : ℕ} → P b ≡ some p → age b < age p
  pub bound : {b p : ℕ} → P b ≡ some p → age p < Ages

module _ (P : Par) where
  above_eq : {a b : ℕ} → a ≡ b → Above P a b
  above_eq e = rw e here

  first_step : {a b : ℕ} → Above P a b → (a ≡ b) ⊎ ((p : ℕ) × (P b ≡ some p) × Above P a p)
  first_step here = inl refl
  first_step (step {p} e x) = inr (p, e, x)

  -- what is found above in k steps is above
  pub above_of : (k a b : ℕ) → above P k a b ≡ true → Above P a b
  unfolding above
  above_of zero a b h = above_eq (eqb-true a b h)
  above_of (suc k) a b h = go (eqb a b) refl (P b) refl (λ p m. above_of k a p m)
    where
      go : (t : Bool) → eqb a b ≡ t → (o : Option ℕ) → P b ≡ o → ((p : ℕ) → above P k a p ≡ true → Above P a p) → Above P a b
      go true e o f ih = above_eq (eqb-true a b e)
      go false e none f ih = absurd (clash h (rw (e, above) (rw f)))
      go false e (some p) f ih = step f (ih p (rw f at (rw (e, above) at h)))

  pub ancestor_of : (a b : ℕ) → ancestor P a b ≡ true → (p : ℕ) × (P b ≡ some p) × Above P a p
  unfolding ancestor
  ancestor_of a b h = go (P b) refl
    where
      go : (o : Option ℕ) → P b ≡ o → (p : ℕ) × (P b ≡ some p) × Above P a p
      go none f = absurd (clash h (rw (f, ancestor)))
      go (some p) f = (p, f, above_of Ages a p (rw (f, ancestor) at h))

  -- a node with no parent has no ancestor
  pub ancestor_none : (a b : ℕ) → P b ≡ none → ancestor P a b ≡ false
  ancestor_none a b e = not_true (ancestor P a b) (λ h. none_some e (ancestor_of a b h).1)

module _ (P : Par) (age : ℕ → ℕ) (ok : Aged P age) where
  -- what is above is found in as many steps as ages are left
  pub of_above : (k a b : ℕ) → Ages ≤ k + age b → Above P a b → above P k a b ≡ true
  unfolding above
  of_above zero a b l here = eq-eqb a a refl
  of_above zero a b l (step e x) = absurd (omega (arith, ok.grows e, ok.bound e))
  of_above (suc k) a b l here = rw (eq-eqb a a refl, above)
  of_above (suc k) a b l (step {p} e x) = go (eqb a b) refl (of_above k a p (omega (arith, ok.grows e)) x)
    where
      go : (t : Bool) → eqb a b ≡ t → above P k a p ≡ true → above P (suc k) a b ≡ true
      go true f ih = rw (f, above)
      go false f ih = rw (f, above) (rw e ih)

  pub of_ancestor : (a b p : ℕ) → P b ≡ some p → Above P a p → ancestor P a b ≡ true
  unfolding ancestor
  of_ancestor a b p e x = rw (e, ancestor) (of_above Ages a p (omega arith) x)

  -- the proper ancestors of b are its parent and the parent's proper ancestors
  pub ancestor_step : (a b p : ℕ) → P b ≡ some p → ancestor P a b ≡ or (eqb a p) (ancestor P a p)
  ancestor_step a b p e = bool_ext (λ h. let r : _ = ancestor_of P a b h in up (rw (some_inj r.1 e) at r.2)) down
    where
      up : Above P a p → or (eqb a p) (ancestor P a p) ≡ true
      up x = ⊎_elim (λ (q : a ≡ p). or_left (ancestor P a p) (eq-eqb a p q)) (λ r. or_right (eqb a p) (ancestor P a p) (of_ancestor a p r.0 r.1 r.2)) (first_step P x)

      down : or (eqb a p) (ancestor P a p) ≡ true → ancestor P a b ≡ true
      down h = ⊎_elim
          (λ (q : eqb a p ≡ true). of_ancestor a b p e (above_eq P (eqb-true a p q)))
          (λ (q : ancestor P a p ≡ true). let r : _ = ancestor_of P a p q in of_ancestor a b p e (step r.1 r.2))
          (or_of (eqb a p) (ancestor P a p) h)
