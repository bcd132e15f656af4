-- Marks, and the whole records that stand one after the other.
use Rattle.std.specs.Prelude.{◌≡◌, Bool, List, ◌∷◌, eqb, leb, length, drop}
use Rattle.std.proofs.Math.Path.{refl}
use Rattle.std.proofs.Common.{ap, ◌∙◌, zero-mul, suc-mul, add-one, arith, length-drop, drop-cons}
use Rattle.std.proofs.Math.Bool.{true, false}
use Prim.Native.Nat.{ℕ, zero, suc, ◌+◌, ◌*◌, ◌<◌, ◌≤◌}
use borrow.Author.Tests.{leb-true, eqb-true, le-leb, lt-leb, eq-eqb}
use Rattle.meaning.specs.Words.{and, at}
use Rattle.laws.specs.Bools.{and_of, and_yes}
use Rattle.meaning.specs.Stored.{is_mark, whole}
use Rattle.form.specs.Numbers.{at_front, drop_front}

-- ---- a mark

-- what a mark's presence says
pub record Marked (a b : ℕ) (s : List ℕ) (o : ℕ) : Type 0 where
  pub there : o + 2 ≤ length s
  pub fst : at s o ≡ a
  pub snd : at s (o + 1) ≡ b

pub marked : (a b : ℕ) (s : List ℕ) (o : ℕ) → is_mark a b s o ≡ true → Marked a b s o
unfolding is_mark
marked a b s o h =
    let p : _ = and_of (leb (o + 2) (length s)) (and (eqb (at s o) a) (eqb (at s (o + 1)) b)) h in
    let q : _ = and_of (eqb (at s o) a) (eqb (at s (o + 1)) b) p.1 in
    record { there = leb-true _ _ p.0; fst = eqb-true _ _ q.0; snd = eqb-true _ _ q.1 }

-- two bytes that are there
pub two_front : (s : List ℕ) (o : ℕ) → o + 2 ≤ length s → drop o s ≡ at s o ∷ at s (o + 1) ∷ drop (o + 2) s
two_front s o l =
    let q : suc (suc o) ≡ o + 2 = omega arith in
    drop-cons s o 0 (omega arith) ∙ ap (λ r. at s o ∷ r) (drop-cons s (suc o) 0 (omega arith) ∙ rw (add-one, q))

pub marked_front : (a b : ℕ) (s : List ℕ) (o : ℕ) → Marked a b s o → drop o s ≡ a ∷ b ∷ drop (o + 2) s
marked_front a b s o m = two_front s o m.there ∙ rw (m.fst, m.snd)

pub front_there : (s : List ℕ) (o : ℕ) {a b : ℕ} {t : List ℕ} → drop o s ≡ a ∷ b ∷ t → o + 2 ≤ length s
front_there s o e = omega (arith, length-drop o s, ap length e)

-- the mark that stands at the front
pub front_mark : (s : List ℕ) (o : ℕ) {a b : ℕ} {t : List ℕ} → drop o s ≡ a ∷ b ∷ t → is_mark a b s o ≡ true
unfolding is_mark
front_mark s o e = and_yes (le-leb _ _ (front_there s o e)) (and_yes (eq-eqb _ _ (at_front s o e)) (eq-eqb _ _ (ap (at s) (add-one o) ∙ at_front s (suc o) (drop_front s o e))))

-- and no other
pub other_mark : (c d : ℕ) (s : List ℕ) (o : ℕ) {a b : ℕ} {t : List ℕ} → drop o s ≡ a ∷ b ∷ t → and (eqb a c) (eqb b d) ≡ false → is_mark c d s o ≡ false
unfolding is_mark
other_mark c d s o {a} {b} e n =
    let p : at s o ≡ a = at_front s o e in
    let q : at s (o + 1) ≡ b = ap (at s) (add-one o) ∙ at_front s (suc o) (drop_front s o e) in
    rw (le-leb _ _ (front_there s o e), p, q) n

-- ---- whole records

module _ (a b z : ℕ) (s : List ℕ) where
  pub whole_more : (j o : ℕ) → is_mark a b s o ≡ true → o + z ≤ length s → whole a b z s (suc j) o ≡ suc (whole a b z s j (o + z))
  unfolding whole
  whole_more j o m l = rw (m, le-leb _ _ l, whole)

  pub whole_unmarked : (j o : ℕ) → is_mark a b s o ≡ false → whole a b z s j o ≡ 0
  unfolding whole
  whole_unmarked zero o m = refl
  whole_unmarked (suc j) o m = rw (m, whole)

  pub whole_cut : (j o : ℕ) → is_mark a b s o ≡ true → length s < o + z → whole a b z s j o ≡ 0
  unfolding whole
  whole_cut zero o m l = refl
  whole_cut (suc j) o m l = rw (m, lt-leb _ _ l, whole)

  pub whole_none : (o : ℕ) → whole a b z s 0 o ≡ 0
  unfolding whole
  whole_none o = refl

  -- one step: either a record stands there or none is counted
  whole_step : (j o : ℕ) (P : ℕ → Type 0) → (is_mark a b s o ≡ true → o + z ≤ length s → P (suc (whole a b z s j (o + z)))) → P 0 → P (whole a b z s (suc j) o)
  unfolding whole
  whole_step j o P f e = go (and (is_mark a b s o) (leb (o + z) (length s))) refl
    where
      go : (t : Bool) → and (is_mark a b s o) (leb (o + z) (length s)) ≡ t → P (whole a b z s (suc j) o)
      go true h = let p : _ = and_of (is_mark a b s o) (leb (o + z) (length s)) h in rw (h, whole) (f p.0 (leb-true _ _ p.1))
      go false h = rw (h, whole) e

  pub whole_le : (j o : ℕ) → whole a b z s j o ≤ j
  whole_le zero o = omega (arith, whole_none o)
  whole_le (suc j) o = whole_step j o (λ n. n ≤ suc j) (λ m l. omega (arith, whole_le j (o + z))) (omega arith)

  -- the records counted stand there
  pub whole_marked : (j o i : ℕ) → i < whole a b z s j o → (is_mark a b s (o + i * z) ≡ true) × (o + i * z + z ≤ length s)
  whole_marked zero o i h = absurd (omega (arith, whole_none o))
  whole_marked (suc j) o i h = whole_step j o (λ n. i < n → (is_mark a b s (o + i * z) ≡ true) × (o + i * z + z ≤ length s)) (λ m l. go i m l (whole_marked j (o + z))) (λ h. absurd (omega arith)) h
    where
      go : (i : ℕ) → is_mark a b s o ≡ true → o + z ≤ length s → ((i : ℕ) → i < whole a b z s j (o + z) → (is_mark a b s (o + z + i * z) ≡ true) × (o + z + i * z + z ≤ length s)) → i < suc (whole a b z s j (o + z)) → (is_mark a b s (o + i * z) ≡ true) × (o + i * z + z ≤ length s)
      go zero m l ih h = let q : o ≡ o + 0 * z = omega (arith, zero-mul z) in (rw q at m, omega (arith, zero-mul z))
      go (suc i) m l ih h =
          let r : _ = ih i (omega arith) in
          let q : o + z + i * z ≡ o + suc i * z = omega (arith, suc-mul i z) in
          (rw q at r.0, omega (arith, suc-mul i z, r.1))

  -- so they end within the file
  pub whole_within : (j o : ℕ) → o ≤ length s → o + whole a b z s j o * z ≤ length s
  whole_within j o l = go (whole a b z s j o) refl
    where
      go : (n : ℕ) → whole a b z s j o ≡ n → o + whole a b z s j o * z ≤ length s
      go zero e = rw e (omega (arith, zero-mul z))
      go (suc n) e = rw e (omega (arith, suc-mul n z, (whole_marked j o n (omega arith)).1))

  -- n records and then no such mark are n whole records
  pub whole_is : (n j o : ℕ) → n ≤ j → ((i : ℕ) → i < n → (is_mark a b s (o + i * z) ≡ true) × (o + i * z + z ≤ length s)) → is_mark a b s (o + n * z) ≡ false → whole a b z s j o ≡ n
  whole_is zero j o l f e = let q : o + 0 * z ≡ o = omega (arith, zero-mul z) in whole_unmarked j o (rw q at e)
  whole_is (suc n) zero o l f e = absurd (omega arith)
  whole_is (suc n) (suc j) o l f e =
      let r : _ = f 0 (omega arith) in
      let q : o + 0 * z ≡ o = omega (arith, zero-mul z) in
      let p : o + suc n * z ≡ o + z + n * z = omega (arith, suc-mul n z) in
      whole_more j o (rw q at r.0) (omega (arith, zero-mul z, r.1))
      ∙ ap suc (whole_is n j (o + z) (omega arith) (λ i h. next i (f (suc i) (omega arith))) (rw p at e))
    where
      next : (i : ℕ) → (is_mark a b s (o + suc i * z) ≡ true) × (o + suc i * z + z ≤ length s) → (is_mark a b s (o + z + i * z) ≡ true) × (o + z + i * z + z ≤ length s)
      next i r = let q : o + suc i * z ≡ o + z + i * z = omega (arith, suc-mul i z) in (rw q at r.0, omega (arith, suc-mul i z, r.1))
