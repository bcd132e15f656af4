-- The edges by child, with the end of each child's edges: what a parent is looked up in.
use Rattle.std.specs.Prelude.{List, ℕ, zero, suc, ◌<◌, ◌≤◌, length}
use Rattle.meaning.specs.Words.{at}
use Rattle.meaning.specs.Rows.{EdgeColumns}
use Rattle.rules.specs.ByChild.{ByChild}
use Rattle.meaning.specs.Even.{EvenEdges}

-- the place after the last edge of row u or of a lower row, for each row u
pub record Ends (child by ends : List ℕ) : Type 0 where
  pub inside : (u : ℕ) → u < length ends → at ends u ≤ length by
  pub within : (u p : ℕ) → u < length ends → p < at ends u → at child (at by p) ≤ u
  pub past : (u p : ℕ) → u < length ends → at ends u ≤ p → p < length by → u < at child (at by p)

-- the first place of row u's edges
unfoldable pub begins : List ℕ → ℕ → ℕ
begins ends zero = 0
begins ends (suc u) = at ends u

-- every edge holds somewhere, and not past the chromosome: part of what 5 finds
pub record Whole (E : EdgeColumns) (L : ℕ) : Type 0 where
  pub held : (e : ℕ) → e < length E.left → at E.left e < at E.right e
  pub inside : (e : ℕ) → e < length E.left → at E.right e ≤ L

-- what looking up a parent asks of the edges, their order by child and the ends
pub record Indexed (E : EdgeColumns) (L : ℕ) (by closed : List ℕ) : Type 0 where
  pub even : EvenEdges E
  pub whole : Whole E L
  pub order : ByChild E by
  pub ends : Ends E.child by closed

-- ---- while the ends are filled in

-- the places go by child, and each names a row
pub record Grouped (child by : List ℕ) : Type 0 where
  pub row : (p : ℕ) → p < length by → at by p < length child
  pub rise : (p q : ℕ) → p ≤ q → q < length by → at child (at by p) ≤ at child (at by q)

-- every edge before place i is of row u or of a lower row
pub record Passed (child by : List ℕ) (u i : ℕ) : Type 0 where
  pub inside : i ≤ length by
  pub within : (p : ℕ) → p < i → at child (at by p) ≤ u

-- and every edge from i on is of a higher row
pub record Skipped (child by : List ℕ) (u i : ℕ) : Type 0 where
  pub passed : Passed child by u i
  pub past : (p : ℕ) → i ≤ p → p < length by → u < at child (at by p)

-- the ends of the first k rows stand in their cells, and i is that of the last of them
pub record Ending (child by : List ℕ) (k i : ℕ) (closed : List ℕ) : Type 0 where
  pub inside : i ≤ length by
  pub below : (p : ℕ) → p < i → at child (at by p) < k
  pub cell : (u : ℕ) → u < k → Skipped child by u (at closed u)
