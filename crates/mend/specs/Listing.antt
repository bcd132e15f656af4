-- The list of rows whose nearest standing row above was written: each row at most once, so a cell for each row is room enough.
use Rattle.std.specs.Prelude.{◌≡◌, ℕ, zero, suc, ◌<◌, ◌≤◌, Bool, true, false, ◌⊎◌, List, [], ◌∷◌, length, ◌≢◌, nat_lt, slice_index}
use Rattle.std.proofs.Common.{ap, ◌∙◌, inl, arith, le-ltb}
use Rattle.meaning.specs.Words.{count}
use Rattle.order.specs.Counts.{bit, count_nil, count_cons}

-- the first k cells of X are rows below n; a row that has a mark in K is one of them, and as many rows have a mark
pub record Listed (n k : ℕ) (X K : List ℕ) : Type 0 where
  pub room : n ≤ length X
  pub marks : length K ≡ n
  pub rows : (i : ℕ) → i < k → slice_index X i < n
  pub found : (v : ℕ) → v < n → (slice_index K v ≡ 0) ⊎ ((i : ℕ) × (i < k) × (slice_index X i ≡ v))
  pub marked : count (nat_lt 0) K ≡ k

-- from k to r cells X lists more rows, so that every one whose cell differs between U and U' is listed
pub record Noted (n : ℕ) (U U' X K X' K' : List ℕ) (k r : ℕ) : Type 0 where
  pub more : k ≤ r
  pub long : length X' ≡ length X
  pub old : (i : ℕ) → i < k → slice_index X' i ≡ slice_index X i
  pub listing : Listed n r X' K'
  pub listed : (v : ℕ) → (slice_index U' v ≢ slice_index U v) → (i : ℕ) × (i < r) × (slice_index X' i ≡ v)

-- ---- how many cells pass a test

bit_most : (t : Bool) → bit t ≤ 1
unfolding bit
bit_most true = omega arith
bit_most false = omega arith

bit_no : (t : Bool) → t ≡ false → bit t ≡ 0
unfolding bit
bit_no t e = ap bit e

pub count_most : (f : ℕ → Bool) (l : List ℕ) → count f l ≤ length l
count_most f [] = omega (arith, count_nil f)
count_most f (a ∷ l) = omega (arith, count_cons f a l, bit_most (f a), count_most f l)

-- a cell that fails is not counted
pub count_less : (f : ℕ → Bool) (l : List ℕ) (i : ℕ) → i < length l → f (slice_index l i) ≡ false → count f l < length l
count_less f [] i h e = absurd (omega arith)
count_less f (a ∷ l) zero h e = omega (arith, count_cons f a l, bit_no (f a) e, count_most f l)
count_less f (a ∷ l) (suc i) h e = omega (arith, count_cons f a l, bit_most (f a), count_less f l i (omega arith) e)

count_none : (f : ℕ → Bool) (l : List ℕ) → ((i : ℕ) → i < length l → f (slice_index l i) ≡ false) → count f l ≡ 0
count_none f [] h = count_nil f
count_none f (a ∷ l) h = omega (arith, count_cons f a l, bit_no (f a) (h 0 (omega arith)), count_none f l (λ i b. h (suc i) (omega arith)))

-- ---- the list at the start, its length, and its number of rows told otherwise

-- where no row has a mark, nothing is listed
pub listed_start : (n : ℕ) (X K : List ℕ) → n ≤ length X → length K ≡ n → ((v : ℕ) → v < n → slice_index K v ≡ 0) → Listed n 0 X K
listed_start n X K r m z = record {
  room = r;
  marks = m;
  rows = λ i l. absurd (omega arith);
  found = λ v l. inl (z v l);
  marked = count_none (nat_lt 0) K (λ i l. le-ltb 0 (slice_index K i) (omega (arith, z i (omega arith))));
}

-- no more rows are listed than there are
pub listed_few : (n k : ℕ) (X K : List ℕ) → Listed n k X K → k ≤ n
listed_few n k X K l = omega (arith, count_most (nat_lt 0) K, l.marked, l.marks)

-- a list of rows below n is one of rows below an equal number
pub listed_same : {n n' k : ℕ} {X K : List ℕ} → n' ≡ n → Listed n' k X K → Listed n k X K
listed_same e l = record {
  room = omega (arith, l.room, e);
  marks = l.marks ∙ e;
  rows = λ i b. omega (arith, l.rows i b, e);
  found = λ v b. l.found v (omega (arith, e));
  marked = l.marked;
}
