-- A loop that writes a piece for each row: what it has written after i of n rows.
use mathlib.Core.Path.{◌≡◌, refl, sym, ap, ◌∙◌}
use mathlib.Core.List.{List, [], ◌∷◌, ◌++◌, append_assoc, append-nil, map}
use Prim.Native.Nat.{ℕ, zero, suc, ◌+◌, ◌*◌, ◌-◌, ◌<◌, ◌≤◌}
use native.Mathlib.Nat.{suc-mul}
use native.Mathlib.Numerals.{add-one}
use native.Mathlib.Omega.{arith}
use lib.ListN.{length, length-append}
use Rattle.meaning.specs.Printed.{decimal, rest, line, numbers, lines}
use Rattle.listing.specs.Written.{Wrote, spaced}
use Rattle.listing.proofs.Writing.{wrote_nothing, wrote_length, wrote_then, wrote_as}

lines_more : (f : ℕ → List ℕ) (n : ℕ) → lines f (suc n) ≡ lines f n ++ f n
unfolding lines
lines_more f n = refl

-- fewer rows have no more bytes
lines_grow : (f : ℕ → List ℕ) (i d : ℕ) → length (lines f i) ≤ length (lines f (d + i))
lines_grow f i zero = let q : 0 + i ≡ i = omega arith in omega (arith, ap (λ j. length (lines f j)) q)
lines_grow f i (suc d) =
    let q : suc d + i ≡ suc (d + i) = omega arith in
    omega (arith, lines_grow f i d, ap (λ j. length (lines f j)) q, ap length (lines_more f (d + i)), length-append (lines f (d + i)) (f (d + i)))

-- each of n lines has at most m bytes
pub lines_most : (f : ℕ → List ℕ) (m n : ℕ) → ((i : ℕ) → i < n → length (f i) ≤ m) → length (lines f n) ≤ n * m
unfolding lines
lines_most f m zero h = omega arith
lines_most f m (suc n) h = omega (arith, length-append (lines f n) (f n), h n (omega arith), lines_most f m n (λ i l. h i (omega arith)), suc-mul n m)

-- the first row's bytes, and those of the rows behind it
pub lines_first : (f : ℕ → List ℕ) (n : ℕ) → lines f (suc n) ≡ f 0 ++ lines (λ i. f (suc i)) n
unfolding lines
lines_first f zero = sym (append-nil (f 0))
lines_first f (suc n) = ap (λ (l : List ℕ). l ++ f (suc n)) (lines_first f n) ∙ append_assoc (f 0) (lines (λ i. f (suc i)) n) (f (suc n))

rest_spaced : (ns : List ℕ) → rest (map decimal ns) ≡ lines (spaced ns) (length ns) ++ (10 ∷ [])
unfolding rest lines
rest_spaced [] = refl
rest_spaced (n ∷ ns) =
    ap (λ (l : List ℕ). 32 ∷ (decimal n ++ l)) (rest_spaced ns)
    ∙ sym (append_assoc (32 ∷ decimal n) (lines (spaced ns) (length ns)) (10 ∷ []))
    ∙ ap (λ (l : List ℕ). l ++ (10 ∷ [])) (sym (lines_first (spaced (n ∷ ns)) (length ns)))

pub numbers_spaced : (letter : ℕ) (ns : List ℕ) → numbers letter ns ≡ (letter ∷ []) ++ (lines (spaced ns) (length ns) ++ (10 ∷ []))
unfolding numbers line
numbers_spaced letter ns = ap (λ (l : List ℕ). letter ∷ l) (rest_spaced ns)

-- i of n rows are written from offset o on, and the next goes to p
pub record Going (f : ℕ → List ℕ) (n o : ℕ) (old out : List ℕ) (p i : ℕ) : Type 0 where
  pub few : i ≤ n
  pub wrote : Wrote o (lines f i) old out p

module _ (f : ℕ → List ℕ) (n o : ℕ) (old : List ℕ) (h : o + length (lines f n) ≤ length old) where
  pub going_start : Going f n o old old o 0
  unfolding lines
  going_start = record { few = omega arith; wrote = wrote_nothing o old (omega arith) }

  module _ {out : List ℕ} {p i : ℕ} (g : Going f n o old out p i) where
    -- the next row has room
    pub going_room : i < n → p + length (f i) ≤ length out
    going_room l =
        let q : n - suc i + suc i ≡ n = omega arith in
        omega (arith, wrote_length g.wrote, g.wrote.next, lines_grow f (suc i) (n - suc i), ap (λ j. length (lines f j)) q, ap length (lines_more f i), length-append (lines f i) (f i))

    pub going_more : {next : List ℕ} {r : ℕ} → i < n → Wrote p (f i) out next r → Going f n o old next r (i + 1)
    going_more {next} {r} l w = record {
      few = omega arith;
      wrote = wrote_as (sym (lines_more f i) ∙ ap (lines f) (sym (add-one i))) (wrote_then g.wrote w);
    }

    pub going_end : n ≤ i → Wrote o (lines f n) old out p
    going_end l = let q : i ≡ n = omega (arith, g.few) in wrote_as (ap (lines f) q) g.wrote
