-- Rows lined up by a sort, so that of the rows below any bound, related ones are found among neighbours.
use Rattle.std.specs.Prelude.{◌≡◌, Bool, true, List, ℕ, ◌<◌, ◌≤◌, eqb, length}
use Rattle.meaning.specs.Words.{at, any_below}
use Rattle.meaning.specs.Rows.{EdgeColumns}

-- row i is related with an earlier row
abbrev pub related : (ℕ → ℕ → Bool) → ℕ → Bool
related R i = any_below (λ j. R j i) i

-- the column has each of n rows once, and a row that is related with a later one is so with all in between
pub record Lined (R : ℕ → ℕ → Bool) (n : ℕ) (idx : List ℕ) : Type 0 where
  pub long : length idx ≡ n
  pub row : (p : ℕ) → p < n → at idx p < n
  pub place : (a : ℕ) → a < n → (p : ℕ) × (p < n) × (at idx p ≡ a)
  pub once : (p q : ℕ) → p < q → q < n → at idx p ≡ at idx q → ⊥
  pub between : (p q r : ℕ) → p < q → q < r → r < n → R (at idx p) (at idx r) ≡ true → R (at idx p) (at idx q) ≡ true

-- r is the first place from i on with a row below k, or the end where there is none
pub record Next (idx : List ℕ) (k i r : ℕ) : Type 0 where
  pub after : i ≤ r
  pub inside : r ≤ length idx
  pub skipped : (p : ℕ) → i ≤ p → p < r → k ≤ at idx p
  pub low : r < length idx → at idx r < k

-- rows j and i have one number
abbrev pub twins : List ℕ → ℕ → ℕ → Bool
twins l j i = eqb (at l j) (at l i)

-- every edge holds somewhere
pub record Somewhere (E : EdgeColumns) : Type 0 where
  pub held : (i : ℕ) → i < length E.left → at E.left i < at E.right i

-- the edges stand by child, and of one child by left
pub record Ascending (E : EdgeColumns) (idx : List ℕ) : Type 0 where
  pub rise : (p q : ℕ) → p < q → q < length idx → (at E.child (at idx p) ≤ at E.child (at idx q)) × (at E.child (at idx p) ≡ at E.child (at idx q) → at E.left (at idx p) ≤ at E.left (at idx q))
