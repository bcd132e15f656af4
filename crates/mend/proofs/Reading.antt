-- What single cells say: a count above 0, a live row, a parent.
use Rattle.std.proofs.Common.{◌≡◌, ℕ, zero, suc, ◌+◌, ◌<◌, ◌≤◌, Bool, true, false, eqb, ltb, ◌⊎◌, List, length, get_or, set, sym, refl, ap, ◌∙◌, subst, ap₂, inl, inr, arith, length-set, get_or-set_other, ltb-false, ltb-true, le-ltb, lt-ltb, eq-eqb, ne_eqb, eqb-true}
use mathlib.Core.Option.{Option, none, some}
use borrow.Author.Tests.{eqb-false}
use Rattle.laws.specs.Bools.{clash, and_of, none_some, or_right}
use Rattle.forest.specs.Lines.{Ranked}
use Rattle.mend.specs.Right as right
use Rattle.mend.specs.Right.{pick, total, one, live, stands, feeds, Grows}
use Rattle.mend.specs.Line.{opt, par_of}

pub lt? : (a b : ℕ) → (a < b) ⊎ (b ≤ a)
lt? a b = go (ltb a b) refl
  where
    go : (t : Bool) → ltb a b ≡ t → (a < b) ⊎ (b ≤ a)
    go true e = inl (ltb-true a b e)
    go false e = inr (ltb-false a b e)

-- ---- counts

pub total_some : (f : ℕ → Bool) (n : ℕ) → 0 < total one f n → (d : ℕ) × (d < n) × (f d ≡ true)
unfolding total
total_some f zero h = absurd (omega arith)
total_some f (suc n) h = go (f n) refl (λ k. total_some f n k)
  where
    go : (b : Bool) → f n ≡ b → (0 < total one f n → (d : ℕ) × (d < n) × (f d ≡ true)) → (d : ℕ) × (d < suc n) × (f d ≡ true)
    go true e ih = (n, omega arith, e)
    go false e ih = let k : 0 < total one f n + 0 = rw e at h in let r : _ = ih (omega arith) in (r.0, omega (arith, r.1), r.2)

pub total_pos : (f : ℕ → Bool) (n d : ℕ) → d < n → f d ≡ true → 0 < total one f n
unfolding total
total_pos f zero d l e = absurd (omega arith)
total_pos f (suc n) d l e = go (eqb d n) refl (λ k. total_pos f n d k e)
  where
    go : (b : Bool) → eqb d n ≡ b → (d < n → 0 < total one f n) → 0 < total one f n + pick (f n) 1 0
    go true q ih = rw (sym (ap f (eqb-true d n q)) ∙ e) (omega arith)
    go false q ih = let z : _ = eqb-false d n q in omega (arith, ih (omega arith))

pub feeds_is : (P : List ℕ) (L : ℕ → Bool) (u v : ℕ) → feeds P L u v ≡ true → (get_or P v 0 ≡ u) × (L v ≡ true)
unfolding feeds
feeds_is P L u v h = let r : _ = and_of (eqb (get_or P v 0) u) (L v) h in (eqb-true _ _ r.0, r.1)

pub is_feeds : (P : List ℕ) (L : ℕ → Bool) (u v : ℕ) → get_or P v 0 ≡ u → L v ≡ true → feeds P L u v ≡ true
unfolding feeds
is_feeds P L u v e l = rw (eq-eqb (get_or P v 0) u e) l

-- ---- live and standing rows

module _ (S C : List ℕ) (u : ℕ) where
  pub live_cases : live S C u ≡ true → (0 < get_or S u 0) ⊎ (0 < get_or C u 0)
  unfolding live
  live_cases h = go (ltb 0 (get_or S u 0)) refl
    where
      go : (b : Bool) → ltb 0 (get_or S u 0) ≡ b → (0 < get_or S u 0) ⊎ (0 < get_or C u 0)
      go true e = inl (ltb-true _ _ e)
      go false e = inr (ltb-true 0 (get_or C u 0) (rw e at h))

  pub live_sample : 0 < get_or S u 0 → live S C u ≡ true
  unfolding live
  live_sample h = rw (lt-ltb 0 (get_or S u 0) h)

  pub live_no_sample : get_or S u 0 ≤ 0 → live S C u ≡ ltb 0 (get_or C u 0)
  unfolding live
  live_no_sample h = rw (le-ltb 0 (get_or S u 0) h) refl

  pub dead : live S C u ≡ false → (get_or S u 0 ≤ 0) × (get_or C u 0 ≤ 0)
  unfolding live
  dead h = go (ltb 0 (get_or S u 0)) refl
    where
      go : (b : Bool) → ltb 0 (get_or S u 0) ≡ b → (get_or S u 0 ≤ 0) × (get_or C u 0 ≤ 0)
      go true e = absurd (clash (rw e refl) h)
      go false e = (ltb-false 0 (get_or S u 0) e, ltb-false 0 (get_or C u 0) (rw e at h))

  pub stands_sample : 0 < get_or S u 0 → stands S C u ≡ true
  unfolding stands
  stands_sample h = rw (lt-ltb 0 (get_or S u 0) h) refl

  pub stands_no_sample : get_or S u 0 ≤ 0 → stands S C u ≡ ltb 1 (get_or C u 0)
  unfolding stands
  stands_no_sample h = rw (le-ltb 0 (get_or S u 0) h) refl

  pub stands_two : 1 < get_or C u 0 → stands S C u ≡ true
  unfolding stands
  stands_two h = rw (lt-ltb 1 (get_or C u 0) h) (or_right (ltb 0 (get_or S u 0)) true refl)

  -- a row that does not stand has one live child at most, and is no sample
  pub not_standing : stands S C u ≡ false → (get_or S u 0 ≤ 0) × (get_or C u 0 ≤ 1)
  unfolding stands
  not_standing h = go (ltb 0 (get_or S u 0)) refl
    where
      go : (b : Bool) → ltb 0 (get_or S u 0) ≡ b → (get_or S u 0 ≤ 0) × (get_or C u 0 ≤ 1)
      go true e = absurd (clash (rw e refl) h)
      go false e = (ltb-false 0 (get_or S u 0) e, ltb-false 1 (get_or C u 0) (rw e at h))

  pub stands_no : live S C u ≡ false → stands S C u ≡ false
  stands_no h = let k : _ = dead h in stands_no_sample k.0 ∙ le-ltb 1 (get_or C u 0) (omega (arith, k.1))

  pub stands_live : stands S C u ≡ true → live S C u ≡ true
  stands_live h = go (live S C u) refl
    where
      go : (b : Bool) → live S C u ≡ b → live S C u ≡ true
      go true e = e
      go false e = absurd (clash h (stands_no e))

-- ---- parents

pub opt_none : (r : ℕ) → r ≡ 4294967295 → opt r ≡ none
unfolding opt
opt_none r e = rw (eq-eqb r 4294967295 e, opt)

pub opt_some : (r : ℕ) → (r ≡ 4294967295 → ⊥) → opt r ≡ some r
unfolding opt
opt_some r e = rw (ne_eqb r 4294967295 e, opt)

pub opt_of : (r p : ℕ) → opt r ≡ some p → (r ≡ p) × (r ≡ 4294967295 → ⊥)
opt_of r p h = go (eqb r 4294967295) refl
  where
    go : (b : Bool) → eqb r 4294967295 ≡ b → (r ≡ p) × (r ≡ 4294967295 → ⊥)
    go true e = absurd (none_some (opt_none r (eqb-true _ _ e)) h)
    go false e = let n : _ = eqb-false _ _ e in let k : some r ≡ some p = sym (opt_some r n) ∙ h in ((cc), n)

module _ (P : List ℕ) (v : ℕ) where
  pub par_in : v < length P → par_of P v ≡ opt (get_or P v 0)
  unfolding par_of
  par_in l = rw (lt-ltb v (length P) l, par_of)

  pub par_out : length P ≤ v → par_of P v ≡ none
  unfolding par_of
  par_out l = rw (le-ltb v (length P) l, par_of)

  pub par_of-is : (p : ℕ) → par_of P v ≡ some p → (v < length P) × (get_or P v 0 ≡ p) × (get_or P v 0 ≡ right.none → ⊥)
  par_of-is p h = go (ltb v (length P)) refl
    where
      go : (b : Bool) → ltb v (length P) ≡ b → (v < length P) × (get_or P v 0 ≡ p) × (get_or P v 0 ≡ right.none → ⊥)
      go true e = let l : _ = ltb-true _ _ e in let k : _ = opt_of (get_or P v 0) p (sym (par_in l) ∙ h) in (l, k.0, k.1)
      go false e = absurd (none_some (par_out (ltb-false _ _ e)) h)

  pub of_par : v < length P → (get_or P v 0 ≡ right.none → ⊥) → par_of P v ≡ some (get_or P v 0)
  of_par l n = par_in l ∙ opt_some (get_or P v 0) n

  pub no_parent : v < length P → get_or P v 0 ≡ right.none → par_of P v ≡ none
  no_parent l e = par_in l ∙ opt_none (get_or P v 0) e

-- a store to c changes the parent of c alone
pub par_off : (P : List ℕ) (c p v : ℕ) → (v ≡ c → ⊥) → par_of (set P c p) v ≡ par_of P v
unfolding par_of
par_off P c p v n = ap₂ (λ (k x : ℕ). elim (ltb v k) as (λ b. Option ℕ) [ true ↦ opt x | false ↦ none ]) (length-set P c p) (get_or-set_other P c v p 0 n)

pub ranked : (T P : List ℕ) → Grows T P → Ranked (par_of P) (λ (v : ℕ). get_or T v 0)
ranked T P g = record { grows = λ {b} {p} e. let k : _ = par_of-is P b p e in subst (λ (x : ℕ). get_or T b 0 < get_or T x 0) k.1 (g.age b k.0 k.2) }
