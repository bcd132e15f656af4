-- Laws for the second pass: a number by its bytes, a column filled turn by turn, and fields within records.
use mathlib.Core.Path.{◌≡◌, refl, sym, ap, ap₂, ◌∙◌}
use mathlib.Core.List.{List, [], ◌∷◌, ◌++◌, append_assoc}
use Prim.Native.Nat.{ℕ, zero, suc, ◌+◌, ◌*◌, ◌<◌, ◌≤◌}
use native.Mathlib.Nat.{zero-mul, suc-mul}
use native.Mathlib.Numerals.{add-one}
use native.Mathlib.Omega.{arith}
use lib.ListN.{length, drop, set, length-append, length-drop}
use lib.Seq.{drop-cons, set_at}
use Rattle.meaning.specs.Words.{at, rows, rows_from}
use Rattle.meaning.specs.Answer.{put}
use Rattle.laws.specs.Counting.{length_rows}
use Rattle.meaning.specs.Stored.{number}
use Rattle.form.specs.Posts.{Fields, Records}

-- ---- a number by its bytes

pub number_one : (s : List ℕ) (o : ℕ) → number 1 s o ≡ at s o
unfolding number
number_one s o = omega arith

pub number_two : (s : List ℕ) (o : ℕ) → number 2 s o ≡ at s o + at s (o + 1) * 256
unfolding number
number_two s o = omega (arith, ap (at s) (add-one o))

pub number_four : (s : List ℕ) (o : ℕ) → number 4 s o ≡ at s o + at s (o + 1) * 256 + at s (o + 2) * 65536 + at s (o + 3) * 16777216
unfolding number
number_four s o =
    let p : o + 2 ≡ suc (suc o) = omega arith in
    let q : o + 3 ≡ suc (suc (suc o)) = omega arith in
    omega (arith, ap (at s) (add-one o), ap (at s) p, ap (at s) q)

-- four bytes are two and two
pub number_halves : (s : List ℕ) (o : ℕ) → number 4 s o ≡ number 2 s o + number 2 s (o + 2) * 65536
unfolding number
number_halves s o =
    let p : o + 2 ≡ suc (suc o) = omega arith in
    let q : suc (o + 2) ≡ suc (suc (suc o)) = omega arith in
    omega (arith, ap (at s) p, ap (at s) q)

-- ---- a column

rows_from_more : (f : ℕ → ℕ) (i k : ℕ) → rows_from f i (suc k) ≡ rows_from f i k ++ (f (i + k) ∷ [])
unfolding rows_from
rows_from_more f i zero = let q : i ≡ i + 0 = omega arith in ap (λ j. f j ∷ []) q
rows_from_more f i (suc k) = let q : suc i + k ≡ i + suc k = omega arith in ap (λ l. f i ∷ l) (rows_from_more f (suc i) k ∙ ap (λ j. rows_from f (suc i) k ++ (f j ∷ [])) q)

rows_more : (f : ℕ → ℕ) (n : ℕ) → rows f (suc n) ≡ rows f n ++ (f n ∷ [])
unfolding rows
rows_more f n = let q : 0 + n ≡ n = omega arith in rows_from_more f 0 n ∙ ap (λ j. rows_from f 0 n ++ (f j ∷ [])) q

put_none : (f : ℕ → ℕ) (l : List ℕ) → put (rows f 0) l ≡ l
unfolding put rows rows_from
put_none f l = refl

pub length_put : (new old : List ℕ) → length new ≤ length old → length (put new old) ≡ length old
unfolding put
length_put new old h = omega (arith, length-append new (drop (length new) old), length-drop (length new) old)

put_rows : (f : ℕ → ℕ) (n : ℕ) (l : List ℕ) → put (rows f n) l ≡ rows f n ++ drop n l
unfolding put
put_rows f n l = ap (λ j. rows f n ++ drop j l) (length_rows f n)

put_more : (f : ℕ → ℕ) (n : ℕ) (l : List ℕ) → n < length l → set (put (rows f n) l) n (f n) ≡ put (rows f (suc n)) l
put_more f n l h =
    ap (λ r. set r n (f n)) (put_rows f n l ∙ ap (λ r. rows f n ++ r) (drop-cons l n 0 h))
    ∙ set_at (rows f n) (at l n) (drop (suc n) l) (f n) n (length_rows f n)
    ∙ sym (append_assoc (rows f n) (f n ∷ []) (drop (suc n) l))
    ∙ ap (λ r. r ++ drop (suc n) l) (sym (rows_more f n))
    ∙ sym (put_rows f (suc n) l)

-- the first i cells are filled, and the next field stands at p
pub record Filled (f : ℕ → ℕ) (o z n : ℕ) (old out : List ℕ) (p i : ℕ) : Type 0 where
  pub few : i ≤ n
  pub place : p ≡ o + i * z
  pub same : length out ≡ length old
  pub cells : out ≡ put (rows f i) old

module _ (f : ℕ → ℕ) (o z n : ℕ) (old : List ℕ) where
  pub fill_start : Filled f o z n old old o 0
  fill_start = record { few = omega arith; place = omega (arith, zero-mul z); same = refl; cells = sym (put_none f old) }

  pub fill_more : (out : List ℕ) (p i v : ℕ) → n ≤ length old → Filled f o z n old out p i → i < n → v ≡ f i → Filled f o z n old (set out i v) (p + z) (i + 1)
  fill_more out p i v h c l e =
      let q : i + 1 ≡ suc i = add-one i in
      let k : set out i v ≡ put (rows f (suc i)) old = ap₂ (λ (a : List ℕ) (b : ℕ). set a i b) c.cells e ∙ put_more f i old (omega arith) in
      let m : length (rows f (suc i)) ≤ length old = omega (arith, length_rows f (suc i)) in
      record {
        few = omega arith;
        place = omega (arith, c.place, suc-mul i z, ap (λ j. j * z) q);
        same = ap length k ∙ length_put (rows f (suc i)) old m;
        cells = k ∙ ap (λ j. put (rows f j) old) (sym q);
      }

  pub fill_end : (out : List ℕ) (p i : ℕ) → Filled f o z n old out p i → n ≤ i → out ≡ put (rows f n) old
  fill_end out p i c l = let q : i ≡ n = omega (arith, c.few) in c.cells ∙ ap (λ j. put (rows f j) old) q

-- where the next field is read
pub field_there : (w : ℕ) (s : List ℕ) (o z n p i : ℕ) → Fields w s o z n → p ≡ o + i * z → i < n → p + w ≤ length s
field_there w s o z n p i f e h = omega (arith, f.there i h)

-- ---- fields within records

pub fields_of : (w d z : ℕ) (s : List ℕ) (o p n : ℕ) → p ≡ o + d → d + w ≤ z → z ≤ 256 → Records z s o n → Fields w s p z n
fields_of w d z s o p n e h k r = record { near = omega (arith, r.begins); short = k; there = λ i l. omega (arith, r.there i l) }
