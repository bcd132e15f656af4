-- The columns of a tree that is changed an edge at a time: each row's parent, the number of its live children, and the sum of their rows.
use Rattle.std.specs.Prelude.{◌≡◌, ℕ, zero, suc, ◌+◌, ◌-◌, ◌%◌, ◌<◌, ◌≤◌, Bool, true, false, List, length, ◌==◌, ◌≢◌, nat_lt, slice_index}
use Rattle.meaning.specs.Words.{and, or}

-- in a column of rows: no row
abbrev pub none : ℕ
none = 4294967295

-- sums of rows wrap at this number
abbrev pub W : ℕ
W = 4294967296

abbrev pub pick : Bool → ℕ → ℕ → ℕ
pick true a b = a
pick false a b = b

-- the sum of w over the rows below n that pass
unfoldable pub total : (ℕ → ℕ) → (ℕ → Bool) → ℕ → ℕ
total w f zero = 0
total w f (suc n) = total w f n + pick (f n) (w n) 0

abbrev pub one : ℕ → ℕ
one v = 1

abbrev pub row : ℕ → ℕ
row v = v

-- a sample, or a row with a live child
unfoldable pub live : List ℕ → List ℕ → ℕ → Bool
live S C u = or (nat_lt 0 (slice_index S u)) (nat_lt 0 (slice_index C u))

-- a sample, or a row with two live children
unfoldable pub stands : List ℕ → List ℕ → ℕ → Bool
stands S C u = or (nat_lt 0 (slice_index S u)) (nat_lt 1 (slice_index C u))

-- a sample, or a row with more than n live children
unfoldable pub more : List ℕ → List ℕ → ℕ → ℕ → Bool
more S C n u = or (nat_lt 0 (slice_index S u)) (nat_lt n (slice_index C u))

-- v is a child of u that is in L
unfoldable pub feeds : List ℕ → (ℕ → Bool) → ℕ → ℕ → Bool
feeds P L u v = and (slice_index P v == u) (L v)

-- each row's count and sum are those of the rows that F gives it
pub record By (n : ℕ) (F : ℕ → ℕ → Bool) (C M : List ℕ) : Type 0 where
  pub count : (u : ℕ) → u < n → slice_index C u ≡ total one (F u) n
  pub sum : (u : ℕ) → u < n → slice_index M u ≡ total row (F u) n % W

-- the same, but that q lacks d
pub record Lacks (n : ℕ) (F : ℕ → ℕ → Bool) (C M : List ℕ) (q d : ℕ) : Type 0 where
  pub count : (u : ℕ) → u < n → slice_index C u + pick (q == u) 1 0 ≡ total one (F u) n
  pub sum : (u : ℕ) → u < n → (slice_index M u + pick (q == u) d 0) % W ≡ total row (F u) n % W
  pub small : (u : ℕ) → u < n → slice_index M u < W

-- the same, but that q has d in excess
pub record Excess (n : ℕ) (F : ℕ → ℕ → Bool) (C M : List ℕ) (q d : ℕ) : Type 0 where
  pub count : (u : ℕ) → u < n → slice_index C u ≡ total one (F u) n + pick (q == u) 1 0
  pub sum : (u : ℕ) → u < n → slice_index M u ≡ (total row (F u) n + pick (q == u) d 0) % W

abbrev pub Right : List ℕ → List ℕ → List ℕ → List ℕ → Type 0
Right S P C M = By (length P) (feeds P (live S C)) C M

-- the columns are equally long
pub record Shape (T S P C M : List ℕ) : Type 0 where
  pub times : length T ≡ length P
  pub samples : length S ≡ length P
  pub counts : length C ≡ length P
  pub sums : length M ≡ length P
  pub rows : length P ≤ none

-- each parent is a row, and older
pub record Grows (T P : List ℕ) : Type 0 where
  pub inside : (u : ℕ) → u < length P → (slice_index P u ≢ none) → slice_index P u < length P
  pub age : (u : ℕ) → u < length P → (slice_index P u ≢ none) → slice_index T u < slice_index T (slice_index P u)
  pub fits : (u : ℕ) → u < length P → slice_index T u < W

-- what a climb to q has left
unfoldable pub climb : List ℕ → ℕ → ℕ
climb T q = pick (q == none) 0 (W - slice_index T q)
