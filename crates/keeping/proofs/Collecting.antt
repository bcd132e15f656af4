-- The other rows, collected in row order.
use mathlib.Core.Path.{◌≡◌, refl, sym, ap, ◌∙◌}
use mathlib.Core.Bool.{Bool, true, false}
use mathlib.Core.List.{List, [], ◌∷◌, ◌++◌}
use Prim.Native.Nat.{ℕ, zero, suc, ◌+◌, ◌<◌, ◌≤◌}
use native.Mathlib.Omega.{arith}
use lib.Dec.{eqb}
use lib.ListN.{length, set, length-set, length-append}
use borrow.Author.Tests.{eqb-true, eq-eqb, ne_eqb}
use Rattle.meaning.specs.Words.{at, mem, filter, index_of, rows, rows_from}
use Rattle.meaning.specs.Answer.{put}
use Rattle.laws.specs.Bools.{and_of, and_yes}
use Rattle.laws.specs.Counting.{length_rows, get_rows}
use Rattle.laws.specs.Members.{at_mem, index_at, index_below}
use Rattle.laws.specs.Facts.{Distinct}
use Rattle.history.specs.Lists.{filter_of, of_filter, filter_distinct}
use Rattle.accepted.specs.Columns.{distinct_of}
use Rattle.order.specs.Order.{Inside}
use Rattle.byrows.specs.Rows.{all_rows}
use Rattle.keeping.specs.Others.{other, other_rows}
use Rattle.keeping.specs.Fronts.{put_none, put_more}

-- ---- all rows

from_more : (i k : ℕ) → rows_from (λ j. j) i (suc k) ≡ rows_from (λ j. j) i k ++ ((i + k) ∷ [])
unfolding rows_from
from_more i zero = let q : i ≡ i + 0 = omega arith in ap (λ z. z ∷ []) q
from_more i (suc k) = let q : suc i + k ≡ i + suc k = omega arith in ap (λ l. i ∷ l) (from_more (suc i) k ∙ ap (λ z. rows_from (λ j. j) (suc i) k ++ (z ∷ [])) q)

rows_more : (n : ℕ) → all_rows (suc n) ≡ all_rows n ++ (n ∷ [])
unfolding all_rows rows
rows_more n = let q : 0 + n ≡ n = omega arith in from_more 0 n ∙ ap (λ z. rows_from (λ j. j) 0 n ++ (z ∷ [])) q

length_all : (n : ℕ) → length (all_rows n) ≡ n
unfolding all_rows
length_all n = length_rows (λ i. i) n

at_all : (n v : ℕ) → v < n → at (all_rows n) v ≡ v
unfolding all_rows
at_all n v l = get_rows (λ i. i) 0 n v l

all_listed : (n v : ℕ) → v < n → mem v (all_rows n) ≡ true
all_listed n v l = ap (λ z. mem z (all_rows n)) (sym (at_all n v l)) ∙ at_mem (all_rows n) v (omega (arith, length_all n))

listed_row : (n v : ℕ) → mem v (all_rows n) ≡ true → v < n
listed_row n v h =
    let k : index_of v (all_rows n) < n = omega (arith, index_below v (all_rows n) h, length_all n) in
    omega (arith, index_at v (all_rows n) h, at_all n (index_of v (all_rows n)) k)

all_once : (n : ℕ) → Distinct (all_rows n)
all_once n = distinct_of (all_rows n) (λ i j l k e. omega (arith, length_all n, at_all n i (omega (arith, length_all n)), at_all n j (omega (arith, length_all n))))

-- ---- those that pass

filter_append : (f : ℕ → Bool) (l : List ℕ) (a : ℕ) → filter f (l ++ (a ∷ [])) ≡ filter f l ++ filter f (a ∷ [])
unfolding filter
filter_append f [] a = refl
filter_append f (b ∷ l) a = go (f b) refl (filter_append f l a)
  where
    go : (t : Bool) → f b ≡ t → filter f (l ++ (a ∷ [])) ≡ filter f l ++ filter f (a ∷ []) → filter f (b ∷ (l ++ (a ∷ []))) ≡ filter f (b ∷ l) ++ filter f (a ∷ [])
    go true e ih = rw (e, filter) (ap (λ z. b ∷ z) ih)
    go false e ih = rw (e, filter) ih

filter_yes : (f : ℕ → Bool) (a : ℕ) → f a ≡ true → filter f (a ∷ []) ≡ a ∷ []
unfolding filter
filter_yes f a e = rw (e, filter)

filter_no : (f : ℕ → Bool) (a : ℕ) → f a ≡ false → filter f (a ∷ []) ≡ []
unfolding filter
filter_no f a e = rw (e, filter)

filter_few : (f : ℕ → Bool) (l : List ℕ) → length (filter f l) ≤ length l
unfolding filter
filter_few f [] = omega arith
filter_few f (b ∷ l) = go (f b) refl (filter_few f l)
  where
    go : (t : Bool) → f b ≡ t → length (filter f l) ≤ length l → length (filter f (b ∷ l)) ≤ length (b ∷ l)
    go true e ih = rw (e, filter) (omega arith)
    go false e ih = rw (e, filter) (omega arith)

append_nil : (l : List ℕ) → l ++ [] ≡ l
append_nil [] = refl
append_nil (a ∷ l) = ap (λ z. a ∷ z) (append_nil l)

module _ (stood sample : List ℕ) where
  -- the other rows of the first u
  unfoldable pub others_below : ℕ → List ℕ
  unfolding filter other all_rows
  others_below u = filter (other stood sample) (all_rows u)

  pub below_start : others_below 0 ≡ []
  unfolding others_below all_rows rows rows_from filter
  below_start = refl

  pub below_all : others_below (length stood) ≡ other_rows stood sample
  unfolding others_below other_rows
  below_all = refl

  below_next : (u : ℕ) → others_below (u + 1) ≡ others_below u ++ filter (other stood sample) (u ∷ [])
  unfolding others_below
  below_next u =
      let q : u + 1 ≡ suc u = omega arith in
      ap (λ k. filter (other stood sample) (all_rows k)) q
      ∙ ap (filter (other stood sample)) (rows_more u)
      ∙ filter_append (other stood sample) (all_rows u) u

  pub below_hit : (u : ℕ) → other stood sample u ≡ true → others_below (u + 1) ≡ others_below u ++ (u ∷ [])
  below_hit u e = below_next u ∙ ap (λ l. others_below u ++ l) (filter_yes (other stood sample) u e)

  pub below_miss : (u : ℕ) → other stood sample u ≡ false → others_below (u + 1) ≡ others_below u
  below_miss u e = below_next u ∙ ap (λ l. others_below u ++ l) (filter_no (other stood sample) u e) ∙ append_nil (others_below u)

  -- what the two tests say
  pub other_yes : (u : ℕ) → at stood u ≡ 1 → eqb (at sample u) 0 ≡ other stood sample u
  unfolding other
  other_yes u e = rw (eq-eqb (at stood u) 1 e)

  pub other_no : (u : ℕ) → (at stood u ≡ 1 → ⊥) → false ≡ other stood sample u
  unfolding other
  other_no u n = rw (ne_eqb (at stood u) 1 n)

  -- the k other rows of the first u stand at the front of a column that was old
  pub record Gathered (old out : List ℕ) (k u : ℕ) : Type 0 where
    pub few : k ≤ u
    pub long : length out ≡ length old
    pub counted : k ≡ length (others_below u)
    pub front : out ≡ put (others_below u) old

  pub gather_none : (old : List ℕ) → Gathered old old 0 0
  gather_none old = record { few = omega arith; long = refl; counted = ap length (sym below_start); front = put_none old ∙ ap (λ l. put l old) (sym below_start) }

  pub gather_hit : (old out out' : List ℕ) (k k' u : ℕ) → u < length old → other stood sample u ≡ true → out' ≡ set out k u → k' ≡ k + 1 → Gathered old out k u → Gathered old out' k' (u + 1)
  gather_hit old out out' k k' u l e p q g = record {
    few = omega (arith, g.few);
    long = ap length p ∙ length-set out k u ∙ g.long;
    counted = omega (arith, g.counted, ap length (below_hit u e), length-append (others_below u) (u ∷ []));
    front =
        p
        ∙ ap (λ z. set z k u) g.front
        ∙ ap (λ j. set (put (others_below u) old) j u) g.counted
        ∙ put_more (others_below u) old u (omega (arith, g.counted, g.few))
        ∙ ap (λ z. put z old) (sym (below_hit u e));
  }

  pub gather_miss : (old out out' : List ℕ) (k k' u : ℕ) → other stood sample u ≡ false → out' ≡ out → k' ≡ k → Gathered old out k u → Gathered old out' k' (u + 1)
  gather_miss old out out' k k' u e p q g = record {
    few = omega (arith, g.few);
    long = ap length p ∙ g.long;
    counted = q ∙ g.counted ∙ ap length (sym (below_miss u e));
    front = p ∙ g.front ∙ ap (λ z. put z old) (sym (below_miss u e));
  }

  pub gather_all : (old out : List ℕ) (k u : ℕ) → u ≤ length stood → length stood ≤ u → Gathered old out k u → (k ≡ length (other_rows stood sample)) × (out ≡ put (other_rows stood sample) old)
  gather_all old out k u a b g =
      let q : u ≡ length stood = omega arith in
      let r : others_below u ≡ other_rows stood sample = ap others_below q ∙ below_all in
      (g.counted ∙ ap length r, g.front ∙ ap (λ z. put z old) r)

  -- ---- the members

  pub other_of : (v : ℕ) → mem v (other_rows stood sample) ≡ true → (v < length stood) × (at stood v ≡ 1) × (at sample v ≡ 0)
  unfolding other_rows other
  other_of v h =
      let p : _ = filter_of (other stood sample) v (all_rows (length stood)) h in
      let q : _ = and_of (eqb (at stood v) 1) (eqb (at sample v) 0) p.1 in
      (listed_row (length stood) v p.0, eqb-true (at stood v) 1 q.0, eqb-true (at sample v) 0 q.1)

  pub of_other : (v : ℕ) → v < length stood → at stood v ≡ 1 → at sample v ≡ 0 → mem v (other_rows stood sample) ≡ true
  unfolding other_rows other
  of_other v l p q = of_filter (other stood sample) v (all_rows (length stood)) (all_listed (length stood) v l) (and_yes (eq-eqb (at stood v) 1 p) (eq-eqb (at sample v) 0 q))

  pub others_once : Distinct (other_rows stood sample)
  unfolding other_rows
  others_once = filter_distinct (other stood sample) (all_rows (length stood)) (all_once (length stood))

  pub others_few : length (other_rows stood sample) ≤ length stood
  unfolding other_rows
  others_few = omega (arith, filter_few (other stood sample) (all_rows (length stood)), length_all (length stood))

  pub others_inside : (n : ℕ) → n ≡ length stood → Inside n (other_rows stood sample)
  others_inside n e = record { row = λ i l. omega (arith, (other_of (at (other_rows stood sample) i) (at_mem (other_rows stood sample) i l)).0) }
