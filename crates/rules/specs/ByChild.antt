-- The order in which rule 7 looks at the edges: by child, then by left. Where 7 finds nothing, an edge ends before the next one of its child begins.
use Rattle.std.specs.Prelude.{◌≡◌, List, ◌⊎◌, ℕ, ◌<◌, ◌≤◌, length}
use Rattle.meaning.specs.Words.{at}
use Rattle.meaning.specs.Rows.{EdgeColumns}

-- the column has each edge row once, by child; of one child an edge ends before the next begins
pub record ByChild (E : EdgeColumns) (by : List ℕ) : Type 0 where
  pub long : length by ≡ length E.left
  pub row : (p : ℕ) → p < length by → at by p < length E.left
  pub place : (e : ℕ) → e < length E.left → (p : ℕ) × (p < length by) × (at by p ≡ e)
  pub order : (p q : ℕ) → p < q → q < length by → (at E.child (at by p) < at E.child (at by q)) ⊎ ((at E.child (at by p) ≡ at E.child (at by q)) × (at E.right (at by p) ≤ at E.left (at by q)))
