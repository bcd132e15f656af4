-- Lines up and down the forest at one position: at or above, where two lines part, and times that grow upwards.
use Rattle.std.specs.Prelude.{◌≡◌, refl, ◌⊎◌, ℕ, ◌<◌, ◌≤◌}
use Rattle.std.proofs.Common.{sym, ap, ◌∙◌, inl, inr, ⊎_elim, arith}
use Rattle.std.proofs.Math.Option.{some}
use Rattle.meaning.specs.Forest.{Par}
use Rattle.laws.specs.Bools.{some_inj, eq?}

-- a is b or an ancestor of b
pub data Above (P : Par) (a : ℕ) : ℕ → Type 0 where
  here : Above P a a
  step : {b p : ℕ} → P b ≡ some p → Above P a p → Above P a b

-- the same, read from above
pub data Down (P : Par) (b : ℕ) : ℕ → Type 0 where
  still : Down P b b
  down : {a c : ℕ} → P c ≡ some a → Down P b c → Down P b a

module _ {P : Par} where
  pub trans : {a b c : ℕ} → Above P a b → Above P b c → Above P a c
  trans x here = x
  trans x (step e y) = step e (trans x y)

  pub above_eq : {a b : ℕ} → a ≡ b → Above P a b
  above_eq e = rw e here

  -- two ancestors of one node are in order
  pub comparable : {a b c : ℕ} → Above P a c → Above P b c → Above P a b ⊎ Above P b a
  comparable here y = inr y
  comparable (step e x) here = inl (step e x)
  comparable (step e x) (step f y) = comparable x (rw (some_inj f e) at y)

  -- the child on the way down from u to s
  pub child_to : {u s : ℕ} → Above P u s → (u ≡ s) ⊎ ((c : ℕ) × (P c ≡ some u) × Above P c s)
  child_to here = inl refl
  child_to {u} (step {b} {p} e x) = go (child_to x)
    where
      go : (u ≡ p) ⊎ ((c : ℕ) × (P c ≡ some u) × Above P c p) → (u ≡ b) ⊎ ((c : ℕ) × (P c ≡ some u) × Above P c b)
      go (inl q) = inr (b, e ∙ ap some (sym q), here)
      go (inr r) = inr (r.0, r.1, step e r.2)

  snoc : {p a b : ℕ} → P b ≡ some p → Down P p a → Down P b a
  snoc e still = down e still
  snoc e (down f x) = down f (snoc e x)

  pub to_down : {a b : ℕ} → Above P a b → Down P b a
  to_down here = still
  to_down (step e x) = snoc e (to_down x)

  pub from_down : {b a : ℕ} → Down P b a → Above P a b
  from_down still = here
  from_down (down f z) = trans (step f here) (from_down z)

-- a rank that grows along parents
pub record Ranked (P : Par) (rank : ℕ → ℕ) : Type 0 where
  pub grows : {b p : ℕ} → P b ≡ some p → rank b < rank p

-- both properly below the same node, or one of the two: the place where the lines down from a to c and to d part
pub data Parts (P : Par) (m c d : ℕ) : Type 0 where
  first : m ≡ c → Above P m d → Parts P m c d
  second : m ≡ d → Above P m c → Parts P m c d
  fork : {e f : ℕ} → (e ≡ f → ⊥) → P e ≡ some m → P f ≡ some m → Above P e c → Above P f d → Parts P m c d

module _ {P : Par} where
  pub meet : {c a : ℕ} (d : ℕ) → Down P c a → Above P a d → (m : ℕ) × Above P a m × Parts P m c d
  meet {c = c} d still y = (c, here, first refl y)
  meet {c = c} d (down {a} {c = k} e x) y = go (child_to y) (λ z. meet d x z)
    where
      pick : (j : ℕ) → P j ≡ some a → Above P j d → (k ≡ j) ⊎ (k ≡ j → ⊥) → (Above P k d → (m : ℕ) × Above P k m × Parts P m c d) → (m : ℕ) × Above P a m × Parts P m c d
      pick j f z (inl q) ih = let r : _ = ih (rw q z) in (r.0, trans (step e here) r.1, r.2)
      pick j f z (inr n) ih = (a, here, fork n e f (from_down x) z)

      go : (a ≡ d) ⊎ ((j : ℕ) × (P j ≡ some a) × Above P j d) → (Above P k d → (m : ℕ) × Above P k m × Parts P m c d) → (m : ℕ) × Above P a m × Parts P m c d
      go (inl q) ih = (a, here, second q (trans (step e here) (from_down x)))
      go (inr r) ih = pick r.0 r.1 r.2 (eq? k r.0) ih

module _ {P : Par} (rank : ℕ → ℕ) (ok : Ranked P rank) where
  pub rank_le : {a b : ℕ} → Above P a b → rank b ≤ rank a
  rank_le here = omega arith
  rank_le (step e x) = omega (arith, rank_le x, ok.grows e)

  -- what is above b is b or above its parent
  pub at_or_up : {a b p : ℕ} → P b ≡ some p → Above P a b → (a ≡ b) ⊎ Above P a p
  at_or_up e here = inl refl
  at_or_up e (step f x) = inr (rw (some_inj f e) at x)

  pub antisym : {a b : ℕ} → Above P a b → Above P b a → a ≡ b
  antisym here y = refl
  antisym (step e x) y = absurd (omega (arith, rank_le x, rank_le y, ok.grows e))

  -- a node on the line from s that is younger than u is at or below u's child on that line
  pub squeeze : {c u s w : ℕ} → P c ≡ some u → Above P c s → Above P w s → rank w < rank u → Above P c w
  squeeze e x y l = ⊎_elim (λ z. z) (λ z. ⊎_elim (λ q. above_eq (sym q)) (λ t. absurd (omega (arith, rank_le t))) (at_or_up e z)) (comparable x y)

  -- two children of one node above one node are the same
  pub same_child : {c d u s : ℕ} → P c ≡ some u → P d ≡ some u → Above P c s → Above P d s → c ≡ d
  same_child e f x y = antisym (squeeze e x y (ok.grows f)) (squeeze f y x (ok.grows e))
