-- Members of a list that pass a test: some, one, two, the first.
use Rattle.std.proofs.Math.Path.{◌≡◌, refl, sym}
use Rattle.std.proofs.Common.{◌∙◌, inl, inr, ⊎_elim, arith}
use Rattle.std.specs.Prelude.{Bool, ◌⊎◌, ℕ, suc, ◌≤◌}
use Rattle.std.proofs.Math.Bool.{true, false}
use mathlib.Core.List.{List, [], ◌∷◌}
use Rattle.std.proofs.Math.Option.{some}
use Rattle.meaning.specs.Words.{mem, any, count, first_of}
use Rattle.laws.specs.Bools.{clash, truth}
use Rattle.laws.specs.Members.{mem_here, mem_there, mem_cases}
use Rattle.laws.specs.Facts.{Distinct, cons}

module _ (f : ℕ → Bool) where
  pub any_yes : (s : ℕ) (l : List ℕ) → mem s l ≡ true → f s ≡ true → any f l ≡ true
  unfolding any mem
  any_yes s [] h e = absurd (clash h refl)
  any_yes s (b ∷ l) h e = go (f b) refl (mem_cases s b l h) (λ m. any_yes s l m e)
    where
      go : (t : Bool) → f b ≡ t → (s ≡ b) ⊎ (mem s l ≡ true) → (mem s l ≡ true → any f l ≡ true) → any f (b ∷ l) ≡ true
      go true q r ih = rw (q, any)
      go false q (inl r) ih = absurd (clash (rw r at e) q)
      go false q (inr r) ih = rw (q, any) (ih r)

  pub any_of : (l : List ℕ) → any f l ≡ true → (s : ℕ) × (mem s l ≡ true) × (f s ≡ true)
  unfolding any
  any_of [] h = absurd (clash h refl)
  any_of (b ∷ l) h = go (f b) refl (λ m. any_of l m)
    where
      go : (t : Bool) → f b ≡ t → (any f l ≡ true → (s : ℕ) × (mem s l ≡ true) × (f s ≡ true)) → (s : ℕ) × (mem s (b ∷ l) ≡ true) × (f s ≡ true)
      go true q ih = (b, mem_here b b l refl, q)
      go false q ih = let r : _ = ih (rw (q, any) at h) in (r.0, mem_there r.0 b l r.1, r.2)

  pub count_yes : (b : ℕ) (l : List ℕ) → f b ≡ true → count f (b ∷ l) ≡ suc (count f l)
  unfolding count
  count_yes b l e = rw (e, count)

  pub count_no : (b : ℕ) (l : List ℕ) → f b ≡ false → count f (b ∷ l) ≡ count f l
  unfolding count
  count_no b l e = rw (e, count)

  count_cons : (b : ℕ) (l : List ℕ) → count f l ≤ count f (b ∷ l)
  count_cons b l = ⊎_elim (λ e. omega (arith, count_yes b l e)) (λ e. omega (arith, count_no b l e)) (truth (f b))

  pub count_one : (c : ℕ) (l : List ℕ) → mem c l ≡ true → f c ≡ true → 1 ≤ count f l
  unfolding mem
  count_one c [] h e = absurd (clash h refl)
  count_one c (b ∷ l) h e = go (mem_cases c b l h) (λ m. count_one c l m e)
    where
      go : (c ≡ b) ⊎ (mem c l ≡ true) → (mem c l ≡ true → 1 ≤ count f l) → 1 ≤ count f (b ∷ l)
      go (inl q) ih = omega (arith, count_yes b l (rw q at e))
      go (inr m) ih = omega (arith, ih m, count_cons b l)

  pub count_two : (c d : ℕ) (l : List ℕ) → (c ≡ d → ⊥) → mem c l ≡ true → mem d l ≡ true → f c ≡ true → f d ≡ true → 2 ≤ count f l
  unfolding mem
  count_two c d [] n h i e g = absurd (clash h refl)
  count_two c d (b ∷ l) n h i e g = go (mem_cases c b l h) (mem_cases d b l i) (λ x y. count_two c d l n x y e g)
    where
      go : (c ≡ b) ⊎ (mem c l ≡ true) → (d ≡ b) ⊎ (mem d l ≡ true) → (mem c l ≡ true → mem d l ≡ true → 2 ≤ count f l) → 2 ≤ count f (b ∷ l)
      go (inl p) (inl q) ih = absurd (n (p ∙ sym q))
      go (inl p) (inr m) ih = omega (arith, count_yes b l (rw p at e), count_one d l m g)
      go (inr m) (inl q) ih = omega (arith, count_yes b l (rw q at g), count_one c l m e)
      go (inr m) (inr k) ih = omega (arith, ih m k, count_cons b l)

  pub one_of : (l : List ℕ) → 1 ≤ count f l → (c : ℕ) × (mem c l ≡ true) × (f c ≡ true)
  unfolding count
  one_of [] h = absurd (omega arith)
  one_of (b ∷ l) h = go (truth (f b)) (λ m. one_of l m)
    where
      go : (f b ≡ true) ⊎ (f b ≡ false) → (1 ≤ count f l → (c : ℕ) × (mem c l ≡ true) × (f c ≡ true)) → (c : ℕ) × (mem c (b ∷ l) ≡ true) × (f c ≡ true)
      go (inl e) ih = (b, mem_here b b l refl, e)
      go (inr e) ih = let r : _ = ih (omega (arith, count_no b l e)) in (r.0, mem_there r.0 b l r.1, r.2)

  pub two_of : (l : List ℕ) → Distinct l → 2 ≤ count f l → (c d : ℕ) × (c ≡ d → ⊥) × (f c ≡ true) × (f d ≡ true)
  unfolding count
  two_of [] n h = absurd (omega arith)
  two_of (b ∷ l) (cons m n) h = go (truth (f b)) (λ k. two_of l n k)
    where
      go : (f b ≡ true) ⊎ (f b ≡ false) → (2 ≤ count f l → (c d : ℕ) × (c ≡ d → ⊥) × (f c ≡ true) × (f d ≡ true)) → (c d : ℕ) × (c ≡ d → ⊥) × (f c ≡ true) × (f d ≡ true)
      go (inl e) ih = let r : _ = one_of l (omega (arith, count_yes b l e)) in (b, r.0, (λ (q : b ≡ r.0). clash r.1 (rw q at m)), e, r.2)
      go (inr e) ih = ih (omega (arith, count_no b l e))

  pub first_some : (c : ℕ) (l : List ℕ) → mem c l ≡ true → f c ≡ true → (d : ℕ) × (first_of f l ≡ some d)
  unfolding first_of mem
  first_some c [] h e = absurd (clash h refl)
  first_some c (b ∷ l) h e = go (f b) refl (mem_cases c b l h) (λ m. first_some c l m e)
    where
      go : (t : Bool) → f b ≡ t → (c ≡ b) ⊎ (mem c l ≡ true) → (mem c l ≡ true → (d : ℕ) × (first_of f l ≡ some d)) → (d : ℕ) × (first_of f (b ∷ l) ≡ some d)
      go true q r ih = (b, rw (q, first_of))
      go false q (inl r) ih = absurd (clash (rw r at e) q)
      go false q (inr m) ih = let r : _ = ih m in (r.0, rw (q, first_of) r.1)

  pub first_of-is : (c : ℕ) (l : List ℕ) → first_of f l ≡ some c → f c ≡ true
  unfolding first_of
  first_of-is c [] h = absurd (let z : ◌≡◌ {A = ℕ} 0 1 = cc in omega arith)
  first_of-is c (b ∷ l) h = go (f b) refl (λ m. first_of-is c l m)
    where
      go : (t : Bool) → f b ≡ t → (first_of f l ≡ some c → f c ≡ true) → f c ≡ true
      go true q ih = let h2 : some b ≡ some c = rw (q, first_of) at h in let e : b ≡ c = cc in rw (sym e) q
      go false q ih = ih (rw (q, first_of) at h)
