-- How far an answer holds: as far as every position before its end says, and no further.
use Rattle.std.specs.Prelude.{◌≡◌, refl, Bool, true, false, ℕ, zero, suc, min, ◌<◌, ◌≤◌, leb}
use Rattle.std.proofs.Math.Path.{sym}
use Rattle.std.proofs.Common.{ap, ◌∙◌, eq-eqb, eqb-true, le-leb, leb-true}
use Rattle.std.proofs.Math.Bool.{not}
use Rattle.std.proofs.Math.Option.{Option, none, some}
use Rattle.std.proofs.Math.Logic.{⊎_elim}
use native.Mathlib.Omega.{arith}
use Rattle.meaning.specs.Rows.{EdgeColumns}
use Rattle.meaning.specs.Forest.{near}
use Rattle.laws.specs.Bools.{clash, truth, eq?, and_of, and_yes, not_of, not_true}
use Rattle.laws.specs.Counting.{lowest_le, before_lowest, lowest_passes, lowest_is, lowest_none}
use Rattle.bridge.specs.Parents.{parent_row}
use Rattle.bridge.specs.Rename.{near_here, near_end, near_top, near_step}
use Rattle.ancestry.specs.Stretch.{same, another, until, near_until}

-- ---- two answers

same_true : (o q : Option ℕ) → same o q ≡ true → o ≡ q
unfolding same
same_true none none h = refl
same_true none (some b) h = absurd (clash h refl)
same_true (some a) none h = absurd (clash h refl)
same_true (some a) (some b) h = ap some (eqb-true a b h)

same_self : (o : Option ℕ) → same o o ≡ true
unfolding same
same_self none = refl
same_self (some a) = eq-eqb a a refl

true_same : {o q : Option ℕ} → o ≡ q → same o q ≡ true
true_same {o} {q} e = ap (same o) (sym e) ∙ same_self o

-- ---- the first position with another answer

module _ (E : EdgeColumns) (x u : ℕ) where
  -- at y the answer is that at x
  abbrev Same : ℕ → Type 0
  Same y = parent_row E y u ≡ parent_row E x u

  abbrev differ : ℕ → Bool
  differ y = not (same (parent_row E y u) (parent_row E x u))

  another_of : (y : ℕ) → another E x u y ≡ true → (x ≤ y) × (Same y → ⊥)
  unfolding another
  another_of y h =
      let a : _ = and_of (leb x y) (differ y) h in
      (leb-true x y a.0, λ e. clash (true_same e) (not_of (same (parent_row E y u) (parent_row E x u)) a.1))

  of_another : (y : ℕ) → x ≤ y → (Same y → ⊥) → another E x u y ≡ true
  unfolding another
  of_another y l n = and_yes (le-leb x y l) (ap not (not_true (same (parent_row E y u) (parent_row E x u)) (λ e. n (same_true (parent_row E y u) (parent_row E x u) e))))

  none_other : (y : ℕ) → another E x u y ≡ false → x ≤ y → Same y
  none_other y h l = go (same (parent_row E y u) (parent_row E x u)) refl
    where
      go : (t : Bool) → same (parent_row E y u) (parent_row E x u) ≡ t → Same y
      go true e = same_true (parent_row E y u) (parent_row E x u) e
      go false e = absurd (clash (of_another y l (λ q. clash (true_same q) e)) h)

  other_none : (y : ℕ) → (x ≤ y → Same y) → another E x u y ≡ false
  other_none y h = not_true (another E x u y) (λ e. let a : _ = another_of y e in a.1 (h a.0))

  module _ (L : ℕ) where
    pub until_le : until E L x u ≤ L
    unfolding until
    until_le = lowest_le (another E x u) L

    -- the answer stays what it is
    pub until_holds : (y : ℕ) → x ≤ y → y < until E L x u → parent_row E y u ≡ parent_row E x u
    unfolding until
    until_holds y l h = none_other y (before_lowest (another E x u) L y h) l

    until_found : until E L x u < L → another E x u (until E L x u) ≡ true
    unfolding until
    until_found h = lowest_passes (another E x u) L h

    -- where it ends before L there is another, so it does not end at x
    pub until_other : until E L x u < L → parent_row E (until E L x u) u ≡ parent_row E x u → ⊥
    until_other h = (another_of (until E L x u) (until_found h)).1

    pub until_after : until E L x u < L → x < until E L x u
    until_after h = ⊎_elim
        (λ (q : x ≡ until E L x u). absurd (until_other h (ap (λ y. parent_row E y u) (sym q))))
        (λ (q : x ≡ until E L x u → ⊥). omega (arith, (another_of (until E L x u) (until_found h)).0))
        (eq? x (until E L x u))

    pub until_beyond : x < L → x < until E L x u
    until_beyond l = ⊎_elim
        (λ (q : until E L x u ≡ L). omega arith)
        (λ (q : until E L x u ≡ L → ⊥). until_after (omega (arith, until_le)))
        (eq? (until E L x u) L)

    -- an end with these two properties is the end
    pub until_is : (z : ℕ) → z ≤ L → ((y : ℕ) → x ≤ y → y < z → parent_row E y u ≡ parent_row E x u) → (z < L → (x ≤ z) × (parent_row E z u ≡ parent_row E x u → ⊥)) → until E L x u ≡ z
    unfolding until
    until_is z l h s = ⊎_elim
        (λ (q : z ≡ L). lowest_none (another E x u) L (λ j k. other_none j (λ a. h j a (omega arith))) ∙ sym q)
        (λ (q : z ≡ L → ⊥). let i : z < L = omega arith in lowest_is (another E x u) L z i (of_another z (s i).0 (s i).1) (λ j k. other_none j (λ a. h j a k)))
        (eq? z L)

-- ---- the way up to the nearest row of K

module _ (E : EdgeColumns) (L x : ℕ) (K : ℕ → Bool) where
  top_until : (k u : ℕ) → K u ≡ false → parent_row E x u ≡ none → near_until E L x K (suc k) u ≡ until E L x u
  unfolding near_until
  top_until k u e q = rw (e, q, near_until)

  step_until : (k u p : ℕ) → K u ≡ false → parent_row E x u ≡ some p → near_until E L x K (suc k) u ≡ min (until E L x u) (near_until E L x K k p)
  unfolding near_until
  step_until k u p e q = rw (e, q, near_until)

  -- up to the least end on the way the nearest row stays what it is
  pub near_holds : (y : ℕ) → x ≤ y → (k u : ℕ) → y < near_until E L x K k u → near (parent_row E y) K k u ≡ near (parent_row E x) K k u
  near_holds y l zero u h = ⊎_elim
      (λ (e : K u ≡ true). near_here (parent_row E y) K 0 u e ∙ sym (near_here (parent_row E x) K 0 u e))
      (λ (e : K u ≡ false). near_end (parent_row E y) K u e ∙ sym (near_end (parent_row E x) K u e))
      (truth (K u))
  near_holds y l (suc k) u h = go (K u) refl (parent_row E x u) refl (λ p m. near_holds y l k p m)
    where
      go : (t : Bool) → K u ≡ t → (o : Option ℕ) → parent_row E x u ≡ o → ((p : ℕ) → y < near_until E L x K k p → near (parent_row E y) K k p ≡ near (parent_row E x) K k p) → near (parent_row E y) K (suc k) u ≡ near (parent_row E x) K (suc k) u
      go true e o q ih = near_here (parent_row E y) K (suc k) u e ∙ sym (near_here (parent_row E x) K (suc k) u e)
      go false e none q ih =
          let a : y < until E L x u = omega (arith, top_until k u e q) in
          near_top (parent_row E y) K (suc k) u e (until_holds E x u L y l a ∙ q) ∙ sym (near_top (parent_row E x) K (suc k) u e q)
      go false e (some p) q ih =
          let a : y < until E L x u = omega (arith, step_until k u p e q) in
          let b : y < near_until E L x K k p = omega (arith, step_until k u p e q) in
          near_step (parent_row E y) K k u p e (until_holds E x u L y l a ∙ q) ∙ ih p b ∙ sym (near_step (parent_row E x) K k u p e q)
