-- Numbers as bytes: either way and back is nothing lost, for every width.
use Rattle.std.specs.Prelude.{◌≡◌, refl, List, [], ◌∷◌, ◌++◌, ℕ, zero, suc, ◌+◌, ◌*◌, ◌/◌, ◌%◌, ◌^◌, ◌<◌, ◌≤◌, length, take, drop}
use Rattle.std.proofs.Common.{sym, ap, ap₂, ◌∙◌, pow-suc, add-zero, arith, drop-cons, get_or-drop}
use Rattle.meaning.specs.Words.{at}
use Rattle.meaning.specs.Stored.{number, bytes_of}

-- every cell is a byte
abbrev pub Bytes : List ℕ → Type 0
Bytes s = (i : ℕ) → at s i < 256

pub length_bytes : (w v : ℕ) → length (bytes_of w v) ≡ w
unfolding bytes_of
length_bytes zero v = refl
length_bytes (suc w) v = ap suc (length_bytes w (v / 256))

-- a number depends on what stands from its offset on
pub number_drop : (w : ℕ) (s : List ℕ) (o p : ℕ) → number w s (o + p) ≡ number w (drop o s) p
unfolding number
number_drop zero s o p = refl
number_drop (suc w) s o p =
    let q : suc (o + p) ≡ o + suc p = omega arith in
    ap₂ (λ (a b : ℕ). a + 256 * b) (sym (get_or-drop o s p 0)) (ap (number w s) q ∙ number_drop w s o (suc p))

-- w bytes hold a number below 256 ^ w
pub number_below : (w : ℕ) (s : List ℕ) (o : ℕ) → Bytes s → number w s o < 256 ^ w
unfolding number
number_below zero s o h = omega arith
number_below (suc w) s o h = omega (arith, h o, number_below w s (suc o) h, pow-suc 256 w)

-- what stands at the front of what is left from offset p on
pub at_front : (s : List ℕ) (p : ℕ) {a : ℕ} {t : List ℕ} → drop p s ≡ a ∷ t → at s p ≡ a
at_front s p e = ap (at s) (sym (add-zero p)) ∙ sym (get_or-drop p s 0 0) ∙ ap (λ l. at l 0) e

pub drop_front : (s : List ℕ) (p : ℕ) {a : ℕ} {t : List ℕ} → drop p s ≡ a ∷ t → drop (suc p) s ≡ t
drop_front s zero e = ap (drop 1) e
drop_front [] (suc p) e = ap (drop 1) e
drop_front (x ∷ s) (suc p) e = drop_front s p e

-- the number that stands at the front is the one written there
pub number_written : (w v : ℕ) (t : List ℕ) (p : ℕ) (s : List ℕ) → v < 256 ^ w → drop p s ≡ bytes_of w v ++ t → number w s p ≡ v
unfolding number bytes_of
number_written zero v t p s l e = omega arith
number_written (suc w) v t p s l e =
    let a : at s p ≡ v % 256 = at_front s p e in
    let b : number w s (suc p) ≡ v / 256 = number_written w (v / 256) t (suc p) s (omega (arith, pow-suc 256 w)) (drop_front s p e) in
    omega arith

-- the bytes of the number that stands there are the bytes that stand there
pub bytes_read : (w : ℕ) (s : List ℕ) (o : ℕ) → Bytes s → o + w ≤ length s → bytes_of w (number w s o) ≡ take w (drop o s)
unfolding number bytes_of
bytes_read zero s o h l = refl
bytes_read (suc w) s o h l =
    let a : number (suc w) s o % 256 ≡ at s o = omega (arith, h o) in
    let b : number (suc w) s o / 256 ≡ number w s (suc o) = omega (arith, h o) in
    ap₂ (λ (x : ℕ) (y : List ℕ). x ∷ y) a (ap (bytes_of w) b ∙ bytes_read w s (suc o) h (omega arith)) ∙ sym (ap (take (suc w)) (drop-cons s o 0 (omega arith)))
