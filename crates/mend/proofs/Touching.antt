-- The list of touched rows: one write, several writes, no write.
use Rattle.std.proofs.Common.{◌≡◌, ℕ, ◌+◌, ◌<◌, ◌≤◌, ltb, ◌⊎◌, List, length, get_or, set, sym, refl, ap, ◌∙◌, inl, inr, ⊎_elim, arith, length-set, get_or-set_other, get_or-set_same, le-ltb, lt-ltb}
use Rattle.meaning.specs.Words.{count}
use Rattle.laws.specs.Bools.{eq?}
use Rattle.order.specs.Counts.{bit, count_set}
use Rattle.mend.specs.Listing.{Listed, Noted, count_less, listed_same}
use Rattle.mend.proofs.Reading.{lt?}

-- where a row has no mark, there is a cell for it
pub listed_room : {n k : ℕ} {X K : List ℕ} (v : ℕ) → Listed n k X K → v < n → get_or K v 0 ≡ 0 → k < length X
listed_room {n} {k} {X} {K} v l h z = omega (arith, count_less (ltb 0) K v (omega (arith, l.marks)) (le-ltb 0 (get_or K v 0) (omega (arith, z))), l.marked, l.marks, l.room)

-- a mark more is a row more
marked_one : (K : List ℕ) (v : ℕ) → v < length K → get_or K v 0 ≡ 0 → count (ltb 0) (set K v 1) ≡ count (ltb 0) K + 1
unfolding bit
marked_one K v h z =
    let a : bit (ltb 0 (get_or K v 0)) ≡ 0 = ap bit (le-ltb 0 (get_or K v 0) (omega (arith, z))) in
    let b : bit (ltb 0 1) ≡ 1 = ap bit (lt-ltb 0 1 (omega arith)) in
    omega (arith, count_set (ltb 0) K v 1 h)

-- the row v, which has no mark, gets one and is listed
listed_one : (n k v : ℕ) (X K : List ℕ) → v < n → Listed n k X K → get_or K v 0 ≡ 0 → Listed n (k + 1) (set X k v) (set K v 1)
listed_one n k v X K h l z = record {
  room = omega (arith, length-set X k v, l.room);
  marks = length-set K v 1 ∙ l.marks;
  rows = λ i b. ⊎_elim (λ (e : i ≡ k). omega (arith, ap (λ (y : ℕ). get_or (set X k v) y 0) e, here)) (λ (m : i ≡ k → ⊥). omega (arith, get_or-set_other X k i v 0 m, l.rows i (below i b m))) (eq? i k);
  found = λ u b. ⊎_elim (λ (e : u ≡ v). inr (k, omega arith, here ∙ sym e)) (λ (m : u ≡ v → ⊥). other u m (l.found u b)) (eq? u v);
  marked = omega (arith, marked_one K v (omega (arith, l.marks)) z, l.marked);
}
  where
    here : get_or (set X k v) k 0 ≡ v
    here = get_or-set_same X k v 0 (listed_room v l h z)

    below : (i : ℕ) → i < k + 1 → (i ≡ k → ⊥) → i < k
    below i b m = ⊎_elim (λ (a : i < k). a) (λ (a : k ≤ i). absurd (m (omega arith))) (lt? i k)

    other : (u : ℕ) → (u ≡ v → ⊥) → (get_or K u 0 ≡ 0) ⊎ ((i : ℕ) × (i < k) × (get_or X i 0 ≡ u)) → (get_or (set K v 1) u 0 ≡ 0) ⊎ ((i : ℕ) × (i < k + 1) × (get_or (set X k v) i 0 ≡ u))
    other u m (inl e) = inl (get_or-set_other K v u 1 0 m ∙ e)
    other u m (inr f) = inr (f.0, omega (arith, f.1), get_or-set_other X k f.0 v 0 (λ e. omega (arith, f.1)) ∙ f.2)

-- the row v is written, and listed as it was not
pub noted_new : (U X K : List ℕ) (k v x : ℕ) → v < length U → Listed (length U) k X K → get_or K v 0 ≡ 0 → Noted (length U) U (set U v x) X K (set X k v) (set K v 1) k (k + 1)
noted_new U X K k v x h l z = record {
  more = omega arith;
  long = length-set X k v;
  old = λ i b. get_or-set_other X k i v 0 (λ e. omega arith);
  listing = listed_one (length U) k v X K h l z;
  listed = λ u n. ⊎_elim (λ (e : u ≡ v). (k, omega arith, get_or-set_same X k v 0 (listed_room v l h z) ∙ sym e)) (λ (m : u ≡ v → ⊥). absurd (n (get_or-set_other U v u x 0 m))) (eq? u v);
}

-- the row v is written, and was listed before
pub noted_old : (U X K : List ℕ) (k v x : ℕ) → v < length U → Listed (length U) k X K → 0 < get_or K v 0 → Noted (length U) U (set U v x) X K X K k k
noted_old U X K k v x h l p = record {
  more = omega arith;
  long = refl;
  old = λ i b. refl;
  listing = l;
  listed = λ u n. ⊎_elim (λ (e : u ≡ v). place u e (l.found v h)) (λ (m : u ≡ v → ⊥). absurd (n (get_or-set_other U v u x 0 m))) (eq? u v);
}
  where
    place : (u : ℕ) → u ≡ v → (get_or K v 0 ≡ 0) ⊎ ((i : ℕ) × (i < k) × (get_or X i 0 ≡ v)) → (i : ℕ) × (i < k) × (get_or X i 0 ≡ u)
    place u e (inl z) = absurd (omega (arith, z, p))
    place u e (inr f) = (f.0, f.1, f.2 ∙ sym e)

-- nothing is written
pub noted_none : {n k : ℕ} (U : List ℕ) {X K : List ℕ} → Listed n k X K → Noted n U U X K X K k k
noted_none U l = record {
  more = omega arith;
  long = refl;
  old = λ i b. refl;
  listing = l;
  listed = λ u d. absurd (d refl);
}

-- one list of writes after another
pub noted_then : {n n' : ℕ} {U U₁ U' X K X₁ K₁ X' K' : List ℕ} {k j r : ℕ} → n' ≡ n → Noted n U U₁ X K X₁ K₁ k j → Noted n' U₁ U' X₁ K₁ X' K' j r → Noted n U U' X K X' K' k r
noted_then {n} {n'} {U} {U₁} {U'} {X} {K} {X₁} {K₁} {X'} {K'} {k} {j} {r} en f g = record {
  more = omega (arith, f.more, g.more);
  long = g.long ∙ f.long;
  old = λ i l. g.old i (omega (arith, f.more)) ∙ f.old i l;
  listing = listed_same en g.listing;
  listed = λ v d. found v d (eq? (get_or U₁ v 0) (get_or U v 0));
}
  where
    found : (v : ℕ) → (get_or U' v 0 ≡ get_or U v 0 → ⊥) → (get_or U₁ v 0 ≡ get_or U v 0) ⊎ (get_or U₁ v 0 ≡ get_or U v 0 → ⊥) → (i : ℕ) × (i < r) × (get_or X' i 0 ≡ v)
    found v d (inl e) = g.listed v (λ z. d (z ∙ e))
    found v d (inr e) = let h : _ = f.listed v e in (h.0, omega (arith, h.1, g.more), g.old h.0 h.1 ∙ h.2)

-- three writes, one after the other
pub noted_three : {U U₁ U₂ U' X K X₁ K₁ X₂ K₂ X' K' : List ℕ} {k i j r : ℕ} (a b d x y z : ℕ) → (U₁ ≡ set U a x) × Noted (length U) U U₁ X K X₁ K₁ k i → (U₂ ≡ set U₁ b y) × Noted (length U₁) U₁ U₂ X₁ K₁ X₂ K₂ i j → (U' ≡ set U₂ d z) × Noted (length U₂) U₂ U' X₂ K₂ X' K' j r → (U' ≡ set (set (set U a x) b y) d z) × Noted (length U) U U' X K X' K' k r
noted_three {U} {U₁} {U₂} {U'} a b d x y z f g h =
    let e : length U₁ ≡ length U = ap length f.0 ∙ length-set U a x in
    let e' : length U₂ ≡ length U = ap length g.0 ∙ length-set U₁ b y ∙ e in (
      h.0 ∙ ap (λ (l : List ℕ). set l d z) (g.0 ∙ ap (λ (l : List ℕ). set l b y) f.0),
      noted_then e' (noted_then e f.1 g.1) h.1,
    )
