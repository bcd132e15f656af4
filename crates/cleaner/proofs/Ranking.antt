-- Rows in the order of their keys, and the rows kept with their places.
use mathlib.Core.Path.{◌≡◌, refl, sym, ap, ap₂, ◌∙◌}
use mathlib.Core.Bool.{Bool}
use mathlib.Core.List.{List, [], ◌∷◌, ◌++◌, map}
use mathlib.Core.Logic.{⊎_elim}
use Prim.Native.Nat.{ℕ, zero, suc, ◌+◌, ◌-◌, ◌<◌, ◌≤◌}
use native.Mathlib.Omega.{arith}
use lib.Dec.{eqb}
use lib.ListN.{length, set, take, length-append}
use lib.Seq.{ext_get_or, get_or-set_same, get_or-set_other, length-take-le, take_at, take-append-le, take-append-add}
use Rattle.meaning.specs.Words.{at, count, rows, rows_from}
use Rattle.meaning.specs.Rows.{NodeColumns}
use Rattle.meaning.specs.Answer.{put}
use Rattle.meaning.specs.Clean.{row_in}
use Rattle.laws.specs.Bools.{eq?}
use Rattle.laws.specs.Counting.{length_rows, get_rows}
use Rattle.laws.specs.Facts.{All}
use Rattle.order.specs.Order.{Inside, Permuted, SortedFrom, by_keys}
use Rattle.order.specs.Counts.{bit, count_nil, count_cons, permuted_then}
use Rattle.order.specs.Tables.{own_inside, permuted_inside}
use Rattle.byrows.specs.Rows.{all_rows}
use Rattle.keeping.specs.Fronts.{put_front, inside_of}
use Rattle.keeping.specs.Others.{OthersListed}
use Rattle.cleaner.specs.Tracing.{KeptRows}

-- ---- the rows from the last one down

module _ (f : ℕ → Bool) (g : ℕ → ℕ) where
  count_end : (i k : ℕ) → count f (rows_from g i (suc k)) ≡ count f (rows_from g i k) + bit (f (g (i + k)))
  unfolding rows_from
  count_end i zero = let q : g i ≡ g (i + 0) = (let e : i ≡ i + 0 = omega arith in ap g e) in omega (arith, count_cons f (g i) [], count_nil f, ap (λ x. bit (f x)) q)
  count_end i (suc k) = let q : g (suc i + k) ≡ g (i + suc k) = (let e : suc i + k ≡ i + suc k = omega arith in ap g e) in omega (arith, count_cons f (g i) (rows_from g (suc i) (suc k)), count_cons f (g i) (rows_from g (suc i) k), count_end (suc i) k, ap (λ x. bit (f x)) q)

-- one row more, from the last one down, is that row and then the rest
down_later : (n i k : ℕ) → rows_from (λ i. suc n - (i + 1)) (suc i) k ≡ rows_from (λ i. n - (i + 1)) i k
unfolding rows_from
down_later n i zero = refl
down_later n i (suc k) = let q : suc n - (suc i + 1) ≡ n - (i + 1) = omega arith in ap₂ ◌∷◌ q (down_later n (suc i) k)

down_first : (n : ℕ) → rows (λ i. suc n - (i + 1)) (suc n) ≡ n ∷ rows (λ i. n - (i + 1)) n
unfolding rows rows_from
down_first n = let q : suc n - (0 + 1) ≡ n = omega arith in ap₂ ◌∷◌ q (down_later n 0 n)

down_often : (v n : ℕ) → count (eqb v) (rows (λ i. n - (i + 1)) n) ≡ count (eqb v) (rows (λ i. i) n)
unfolding rows
down_often v zero = refl
down_often v (suc n) =
    let a : count (eqb v) (n ∷ rows (λ i. n - (i + 1)) n) ≡ bit (eqb v n) + count (eqb v) (rows (λ i. n - (i + 1)) n) = count_cons (eqb v) n (rows (λ i. n - (i + 1)) n) in
    let b : count (eqb v) (rows_from (λ i. i) 0 (suc n)) ≡ count (eqb v) (rows_from (λ i. i) 0 n) + bit (eqb v (0 + n)) = count_end (eqb v) (λ i. i) 0 n in
    let c : bit (eqb v (0 + n)) ≡ bit (eqb v n) = (let e : 0 + n ≡ n = omega arith in ap (λ m. bit (eqb v m)) e) in
    ap (count (eqb v)) (down_first n) ∙ omega (arith, a, down_often v n, b, c)

-- they are the rows, each once
down_permuted : (n : ℕ) → Permuted (rows (λ i. i) n) (rows (λ i. n - (i + 1)) n)
down_permuted n = record { often = λ v. down_often v n }

pub down_inside : (l : List ℕ) (m n : ℕ) → l ≡ rows (λ i. m - (i + 1)) m → m ≡ n → Inside n l
down_inside l m n e q = rw e (permuted_inside n (rows (λ i. i) m) (rows (λ i. m - (i + 1)) m) (down_permuted m) (own_inside m n (omega arith)))

pub from_down : {lt : ℕ → ℕ → Bool} (l r : List ℕ) (m n : ℕ) → l ≡ rows (λ i. m - (i + 1)) m → m ≡ n → SortedFrom lt l r → SortedFrom lt (rows (λ i. i) n) r
from_down {lt} l r m n e q s =
    let t : SortedFrom lt (rows (λ i. i) m) r = record { permuted = permuted_then (rows (λ i. i) m) (rows (λ i. m - (i + 1)) m) r (down_permuted m) (rw e at s.permuted); sorted = s.sorted } in
    rw q at t

-- the loop that fills them in
pub down_place : (l : List ℕ) (n i : ℕ) → i < length l → ((k : ℕ) → k < i → at l k ≡ n - (k + 1)) → (k : ℕ) → k < i + 1 → at (set l i (n - (i + 1))) k ≡ n - (k + 1)
down_place l n i h f k b = ⊎_elim
    (λ (q : k ≡ i). let e : n - (i + 1) ≡ n - (k + 1) = omega arith in ap (at (set l i (n - (i + 1)))) q ∙ get_or-set_same l i (n - (i + 1)) 0 h ∙ e)
    (λ (z : k ≡ i → ⊥). get_or-set_other l i k (n - (i + 1)) 0 z ∙ f k (omega arith))
    (eq? k i)

pub down_places : (l : List ℕ) (n : ℕ) → length l ≡ n → ((k : ℕ) → k < n → at l k ≡ n - (k + 1)) → l ≡ rows (λ i. n - (i + 1)) n
down_places l n e f =
    ext_get_or 0 l (rows (λ i. n - (i + 1)) n) (e ∙ sym (length_rows (λ i. n - (i + 1)) n))
    (λ k h. f k (omega arith) ∙ sym (get_rows (λ i. n - (i + 1)) 0 n k (omega arith)))

-- the first k cells of a column with at least so many
pub cut : (k : ℕ) (l : List ℕ) → k ≤ length l → k ≡ length (take k l)
cut k l h = sym (length-take-le k l h)

-- key columns that were gathered, and the order put at the front
pub ordered : (k : ℕ) (m0 m1 m2 m3 z0 z1 z2 t b c p rest : List ℕ) → k ≡ length m0 → k ≡ length m1 → k ≡ length m2 → t ≡ put m0 z0 → b ≡ put m1 z1 → c ≡ put m2 z2 → length p ≡ k → SortedFrom (by_keys (take k t) (take k b) (take k c) m3) (rows (λ i. i) (length (take k t))) p → SortedFrom (by_keys m0 m1 m2 m3) (rows (λ i. i) k) (take k (p ++ rest))
ordered k m0 m1 m2 m3 z0 z1 z2 t b c p rest e0 e1 e2 f0 f1 f2 l s =
    let s0 : SortedFrom (by_keys m0 (take k b) (take k c) m3) (rows (λ i. i) (length m0)) p = rw (put_front m0 z0 t k e0 f0) at s in
    let s1 : SortedFrom (by_keys m0 m1 (take k c) m3) (rows (λ i. i) (length m0)) p = rw (put_front m1 z1 b k e1 f1) at s0 in
    let s2 : SortedFrom (by_keys m0 m1 m2 m3) (rows (λ i. i) (length m0)) p = rw (put_front m2 z2 c k e2 f2) at s1 in
    let s3 : SortedFrom (by_keys m0 m1 m2 m3) (rows (λ i. i) k) p = rw (sym e0) at s2 in
    rw (take_at p rest k l) s3

inside_append : (n : ℕ) (a b : List ℕ) → Inside n a → Inside n b → Inside n (a ++ b)
inside_append n [] b s t = t
inside_append n (x ∷ a) b s t = record { row = go (inside_append n a b (record { row = λ i l. s.row (suc i) (omega arith) }) t) }
  where
    go : Inside n (a ++ b) → (i : ℕ) → i < length (x ∷ (a ++ b)) → at (x ∷ (a ++ b)) i < n
    go r zero l = s.row 0 (omega arith)
    go r (suc i) l = r.row i (omega arith)

module _ (ns nr : ℕ) (kept new rest : List ℕ) (h : ns ≤ length kept) (l : nr ≤ length new) where
  -- the others behind the samples' rows
  pub kept_front : take (ns + nr) (take ns kept ++ (new ++ rest)) ≡ take ns kept ++ take nr new
  kept_front =
      let q : length (take ns kept) ≡ ns = length-take-le ns kept h in
      ap (λ z. take (z + nr) (take ns kept ++ (new ++ rest))) (sym q)
      ∙ take-append-add (take ns kept) (new ++ rest) nr
      ∙ ap (λ z. take ns kept ++ z) (take-append-le nr new rest l)

  pub kept_long : ns + nr ≤ length (take ns kept ++ (new ++ rest))
  kept_long = omega (arith, length-append (take ns kept) (new ++ rest), length-append new rest, length-take-le ns kept h)

  pub kept_inside : (n : ℕ) → Inside n (take ns kept) → All (λ v. v < n) (take nr new) → Inside n (take (ns + nr) (take ns kept ++ (new ++ rest)))
  kept_inside n s a = rw kept_front (inside_append n (take ns kept) (take nr new) s (inside_of n (take nr new) a))

append_nil : (l : List ℕ) → l ++ [] ≡ l
append_nil [] = refl
append_nil (a ∷ l) = ap (λ z. a ∷ z) (append_nil l)

pub none_inside : (n : ℕ) → Inside n []
none_inside n = record { row = λ i l. absurd (omega arith) }

pub kept_rows : (N : NodeColumns) (sample stood : List ℕ) (ns nr : ℕ) (kept new rest old part tail : List ℕ) (z : ℕ) → ns ≤ length kept → nr ≤ length new → OthersListed N (take (length N.time) stood) (take (length N.time) sample) nr old new → part ≡ map (row_in (take (ns + nr) (take ns kept ++ (new ++ rest)) ++ [])) (all_rows z) → length part ≡ length N.time → z ≡ length N.time → KeptRows N sample stood ns kept (ns + nr) (take ns kept ++ (new ++ rest)) (part ++ tail)
kept_rows N sample stood ns nr kept new rest old part tail z h l o e q w = record {
  behind = omega arith;
  long = kept_long ns nr kept new rest h l;
  others = take nr new;
  front = kept_front ns nr kept new rest h l;
  count = nr;
  old = old;
  new = new;
  those = refl;
  listed = o;
  places = take_at part tail (length N.time) q ∙ e ∙ ap₂ (λ a b. map (row_in a) (all_rows b)) (append_nil (take (ns + nr) (take ns kept ++ (new ++ rest)))) w;
}
