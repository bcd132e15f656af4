-- Which edges the cursors say hold: those begun and not ended.
use mathlib.Core.Path.{◌≡◌, refl, sym, ap, ◌∙◌}
use mathlib.Core.Bool.{Bool, true, false}
use mathlib.Core.List.{List}
use mathlib.Core.Logic.{⊎_elim}
use Prim.Native.Nat.{ℕ, zero, suc, ◌+◌, ◌<◌, ◌≤◌}
use native.Mathlib.Omega.{arith}
use native.Mathlib.Numerals.{add-one}
use borrow.Author.Tests.{ne_eqb, eqb-true, eqb-false}
use lib.Dec.{eqb}
use lib.ListN.{length, get_or}
use Rattle.laws.specs.Bools.{clash, not_true, eq?}
use Rattle.tree.specs.Sweep.{Index, Cut, seen, acts}
use Rattle.mend.proofs.Reading.{lt?}

-- ---- one cursor

pub seen_of : (b : List ℕ) (k e : ℕ) → seen b k e ≡ true → (i : ℕ) × (i < k) × (get_or b i 0 ≡ e)
unfolding seen
seen_of b zero e h = absurd (clash h refl)
seen_of b (suc k) e h = go (eqb (get_or b k 0) e) refl (λ m. seen_of b k e m)
  where
    go : (t : Bool) → eqb (get_or b k 0) e ≡ t → (seen b k e ≡ true → (i : ℕ) × (i < k) × (get_or b i 0 ≡ e)) → (i : ℕ) × (i < suc k) × (get_or b i 0 ≡ e)
    go true q ih = (k, omega arith, eqb-true _ _ q)
    go false q ih = let r : _ = ih (rw (q, seen) at h) in (r.0, omega (arith, r.1), r.2)

pub of_seen : (b : List ℕ) (k e i : ℕ) → i < k → get_or b i 0 ≡ e → seen b k e ≡ true
unfolding seen
of_seen b zero e i l q = absurd (omega arith)
of_seen b (suc k) e i l q = go (eqb (get_or b k 0) e) refl (λ m. of_seen b k e i m q)
  where
    go : (t : Bool) → eqb (get_or b k 0) e ≡ t → (i < k → seen b k e ≡ true) → seen b (suc k) e ≡ true
    go true t ih = rw (t, seen)
    go false t ih = rw (t, seen) (ih (⊎_elim (λ (z : i ≡ k). absurd (eqb-false _ _ t (ap (λ (y : ℕ). get_or b y 0) (sym z) ∙ q))) (λ (z : i ≡ k → ⊥). omega arith) (eq? i k)))

-- the row at the cursor is not among those before it
pub not_seen : {key b : List ℕ} {m : ℕ} (k : ℕ) → Index key b m → k < length b → seen b k (get_or b k 0) ≡ false
not_seen {key} {b} k ix h = not_true (seen b k (get_or b k 0)) (λ s. let r : _ = seen_of b k (get_or b k 0) s in omega (arith, r.1, ix.once r.0 k (omega (arith, r.1)) h r.2))

module _ (b : List ℕ) (k : ℕ) where
  pub seen_here : seen b (k + 1) (get_or b k 0) ≡ true
  seen_here = of_seen b (k + 1) (get_or b k 0) k (omega arith) refl

  pub seen_other : (e : ℕ) → (e ≡ get_or b k 0 → ⊥) → seen b (k + 1) e ≡ seen b k e
  unfolding seen
  seen_other e n = rw add-one (rw (ne_eqb (get_or b k 0) e (λ z. n (sym z)), seen))

-- ---- both cursors

module _ (bl br : List ℕ) (i j e : ℕ) where
  pub acts_of : acts bl br i j e ≡ true → (seen bl i e ≡ true) × (seen br j e ≡ false)
  unfolding acts
  acts_of h = go (seen br j e) refl
    where
      go : (t : Bool) → seen br j e ≡ t → (seen bl i e ≡ true) × (seen br j e ≡ false)
      go true q = absurd (clash h (rw (q, acts)))
      go false q = (rw (q, acts) at h, q)

  pub of_acts : seen bl i e ≡ true → seen br j e ≡ false → acts bl br i j e ≡ true
  unfolding acts
  of_acts s t = rw (t, acts) s

  pub not_acts : seen br j e ≡ true → acts bl br i j e ≡ false
  unfolding acts
  not_acts t = rw (t, acts)

  pub not_begun : seen bl i e ≡ false → acts bl br i j e ≡ false
  not_begun s = not_true (acts bl br i j e) (λ h. clash (acts_of h).0 s)

module _ (bl br : List ℕ) (i j : ℕ) where
  pub acts_other : (f : ℕ) → (f ≡ get_or br j 0 → ⊥) → acts bl br i (j + 1) f ≡ acts bl br i j f
  unfolding acts
  acts_other f n = rw (seen_other br j f n, acts)

  pub acts_still : (f : ℕ) → (f ≡ get_or bl i 0 → ⊥) → acts bl br (i + 1) j f ≡ acts bl br i j f
  unfolding acts
  acts_still f n = ap (λ (s : Bool). elim (seen br j f) as (λ b. Bool) [ true ↦ false | false ↦ s ]) (seen_other bl i f n)

-- ---- where an edge that holds lies

module _ {key b : List ℕ} {m i lo hi : ℕ} (ix : Index key b m) (cut : Cut key b i lo hi) (e : ℕ) where
  pub past_seen : seen b i e ≡ true → get_or key e 0 < hi
  past_seen s = let r : _ = seen_of b i e s in omega (arith, cut.past r.0 r.1, ap (λ (y : ℕ). get_or key y 0) r.2)

  pub next_seen : e < m → seen b i e ≡ false → lo ≤ get_or key e 0
  next_seen h s = let r : _ = ix.all e h in ⊎_elim
      (λ (l : r.0 < i). absurd (clash (of_seen b i e r.0 l r.2) s))
      (λ (l : i ≤ r.0). omega (arith, cut.next r.0 l r.1, ap (λ (y : ℕ). get_or key y 0) r.2))
      (lt? r.0 i)

  pub seen_past : e < m → get_or key e 0 < lo → seen b i e ≡ true
  seen_past h l = go (seen b i e) refl
    where
      go : (t : Bool) → seen b i e ≡ t → seen b i e ≡ true
      go true q = q
      go false q = absurd (omega (arith, next_seen h q))

  pub seen_next : hi ≤ get_or key e 0 → seen b i e ≡ false
  seen_next l = not_true (seen b i e) (λ s. omega (arith, past_seen s))
