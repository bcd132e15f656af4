-- The edges' columns read by rows and read by births: one forest under two names, so rule 10 finds the same rows.
use Rattle.std.specs.Prelude.{◌≡◌, Bool, true, false, List, ℕ, zero, suc, ◌+◌, ◌<◌, ◌≤◌, eqb, leb, ltb, length}
use Rattle.std.proofs.Math.Path.{refl, ap}
use Rattle.std.proofs.Common.{sym, ◌∙◌, arith}
use Rattle.std.proofs.Math.Option.{none, some}
use Rattle.meaning.specs.Words.{and, at, rows_from, rows, any_below, lowest_from, lowest}
use Rattle.meaning.specs.Rows.{Edge, EdgeColumns, MutationColumns, edges_of}
use Rattle.meaning.specs.Forest.{holds, parent_in, above, ancestor, near}
use Rattle.meaning.specs.Check.{overtakes, mutation_above}
use Rattle.laws.specs.Bools.{none_some, some_inj}
use Rattle.laws.specs.Counting.{below_hit, below_miss, below_none}
use Rattle.bridge.specs.Rename.{map_option, Renamed, eqb_names}
use Rattle.bridge.specs.Rename as rename

-- no birth number stands twice: what rule 4 finds
abbrev pub Apart : List ℕ → Type 0
Apart birth = (i j : ℕ) → i < length birth → j < length birth → at birth i ≡ at birth j → i ≡ j

-- every edge names rows below n: part of what rule 5 finds
pub record Within (n : ℕ) (E : EdgeColumns) : Type 0 where
  pub parent_row : (e : ℕ) → e < length E.left → at E.parent e < n
  pub child_row-is : (e : ℕ) → e < length E.left → at E.child e < n

-- row i of the edges, where name turns what the columns hold into a node
abbrev pub edge_row : (ℕ → ℕ) → EdgeColumns → ℕ → Edge
edge_row name E i = record { left = at E.left i; right = at E.right i; parent = name (at E.parent i); child = name (at E.child i) }

-- ---- one step of the search for a parent

module _ (g : ℕ → Edge) (x u : ℕ) where
  parent_none : (i : ℕ) → parent_in (rows_from g i zero) x u ≡ none
  unfolding parent_in rows_from
  parent_none i = refl

  parent_hit : (i k : ℕ) → holds x u (g i) ≡ true → parent_in (rows_from g i (suc k)) x u ≡ some (g i).parent
  unfolding parent_in rows_from
  parent_hit i k e = rw (e, parent_in)

  parent_miss : (i k : ℕ) → holds x u (g i) ≡ false → parent_in (rows_from g i (suc k)) x u ≡ parent_in (rows_from g (suc i) k) x u
  unfolding parent_in rows_from
  parent_miss i k e = rw (e, parent_in)

-- ---- the forest at a position

module _ (birth : List ℕ) (E : EdgeColumns) (once : Apart birth) (ok : Within (length birth) E) where
  same_holds : (x u i : ℕ) → u < length birth → i < length E.left → holds x (at birth u) (edge_row (at birth) E i) ≡ holds x u (edge_row (λ r. r) E i)
  unfolding holds
  same_holds x u i l h = ap (λ b. and b (and (leb (at E.left i) x) (ltb x (at E.right i)))) (eqb_names (length birth) (at birth) once (at E.child i) u (ok.child_row-is i h) l)

  from_names : (x u : ℕ) → u < length birth → (k i : ℕ) → i + k ≤ length E.left → parent_in (rows_from (edge_row (at birth) E) i k) x (at birth u) ≡ map_option (at birth) (parent_in (rows_from (edge_row (λ r. r) E) i k) x u)
  from_names x u l zero i h = parent_none (edge_row (at birth) E) x (at birth u) i ∙ sym (ap (map_option (at birth)) (parent_none (edge_row (λ r. r) E) x u i))
  from_names x u l (suc k) i h = go (holds x u (edge_row (λ r. r) E i)) refl (from_names x u l k (suc i) (omega arith))
    where
      go : (t : Bool) → holds x u (edge_row (λ r. r) E i) ≡ t → parent_in (rows_from (edge_row (at birth) E) (suc i) k) x (at birth u) ≡ map_option (at birth) (parent_in (rows_from (edge_row (λ r. r) E) (suc i) k) x u) → parent_in (rows_from (edge_row (at birth) E) i (suc k)) x (at birth u) ≡ map_option (at birth) (parent_in (rows_from (edge_row (λ r. r) E) i (suc k)) x u)
      go true e ih = parent_hit (edge_row (at birth) E) x (at birth u) i k (same_holds x u i l (omega arith) ∙ e) ∙ sym (ap (map_option (at birth)) (parent_hit (edge_row (λ r. r) E) x u i k e))
      go false e ih = parent_miss (edge_row (at birth) E) x (at birth u) i k (same_holds x u i l (omega arith) ∙ e) ∙ ih ∙ sym (ap (map_option (at birth)) (parent_miss (edge_row (λ r. r) E) x u i k e))

  -- the parent by births is the birth of the parent by rows
  pub parent_names : (x u : ℕ) → u < length birth → parent_in (edges_of (at birth) E) x (at birth u) ≡ map_option (at birth) (parent_in (edges_of (λ r. r) E) x u)
  unfolding edges_of rows
  parent_names x u l = from_names x u l (length E.left) 0 (omega arith)

-- ---- the row that gave the parent

module _ (name : ℕ → ℕ) (E : EdgeColumns) (x u p : ℕ) where
  from_row : (k i : ℕ) → parent_in (rows_from (edge_row name E) i k) x u ≡ some p → (e : ℕ) × (e < i + k) × (holds x u (edge_row name E e) ≡ true) × (name (at E.parent e) ≡ p)
  from_row zero i h = absurd (none_some (parent_none (edge_row name E) x u i) h)
  from_row (suc k) i h = go (holds x u (edge_row name E i)) refl (λ q. from_row k (suc i) q)
    where
      go : (t : Bool) → holds x u (edge_row name E i) ≡ t → (parent_in (rows_from (edge_row name E) (suc i) k) x u ≡ some p → (e : ℕ) × (e < suc i + k) × (holds x u (edge_row name E e) ≡ true) × (name (at E.parent e) ≡ p)) → (e : ℕ) × (e < i + suc k) × (holds x u (edge_row name E e) ≡ true) × (name (at E.parent e) ≡ p)
      go true e ih = (i, omega arith, e, some_inj (parent_hit (edge_row name E) x u i k e) h)
      go false e ih = let r : _ = ih (sym (parent_miss (edge_row name E) x u i k e) ∙ h) in (r.0, omega (arith, r.1), r.2, r.3)

  -- a parent that is found stands in an edge row that holds
  pub parent_row_of : parent_in (edges_of name E) x u ≡ some p → (e : ℕ) × (e < length E.left) × (holds x u (edge_row name E e) ≡ true) × (name (at E.parent e) ≡ p)
  unfolding edges_of rows
  parent_row_of h = let r : _ = from_row (length E.left) 0 h in (r.0, omega (arith, r.1), r.2, r.3)

-- a parent row that is found exists
pub parent_inside : (n : ℕ) (E : EdgeColumns) → Within n E → (x u p : ℕ) → parent_in (edges_of (λ r. r) E) x u ≡ some p → p < n
parent_inside n E ok x u p h = let r : _ = parent_row_of (λ r. r) E x u p h in rw (sym r.3) (ok.parent_row r.0 r.1)

-- ---- what follows of the walks

module _ (birth : List ℕ) (E : EdgeColumns) (once : Apart birth) (ok : Within (length birth) E) (x : ℕ) where
  pub renamed : Renamed (length birth) (at birth) (parent_in (edges_of (λ r. r) E) x) (parent_in (edges_of (at birth) E) x)
  renamed = record {
    apart = once;
    inside = λ u p l h. parent_inside (length birth) E ok x u p h;
    parent = λ u l. parent_names birth E once ok x u l;
  }

  pub above_names : (k a b : ℕ) → a < length birth → b < length birth → above (parent_in (edges_of (at birth) E) x) k (at birth a) (at birth b) ≡ above (parent_in (edges_of (λ r. r) E) x) k a b
  above_names = rename.above_names (length birth) (at birth) (parent_in (edges_of (λ r. r) E) x) (parent_in (edges_of (at birth) E) x) renamed

  pub ancestor_names : (a b : ℕ) → a < length birth → b < length birth → ancestor (parent_in (edges_of (at birth) E) x) (at birth a) (at birth b) ≡ ancestor (parent_in (edges_of (λ r. r) E) x) a b
  ancestor_names = rename.ancestor_names (length birth) (at birth) (parent_in (edges_of (λ r. r) E) x) (parent_in (edges_of (at birth) E) x) renamed

  pub near_names : (K K' : ℕ → Bool) → ((v : ℕ) → v < length birth → K' (at birth v) ≡ K v) → (k u : ℕ) → u < length birth → near (parent_in (edges_of (at birth) E) x) K' k (at birth u) ≡ map_option (at birth) (near (parent_in (edges_of (λ r. r) E) x) K k u)
  near_names = rename.near_names (length birth) (at birth) (parent_in (edges_of (λ r. r) E) x) (parent_in (edges_of (at birth) E) x) renamed

-- ---- rule 10

-- tests that agree below n find a row below n, or none, alike
pub any_same : (f g : ℕ → Bool) (n : ℕ) → ((j : ℕ) → j < n → f j ≡ g j) → any_below f n ≡ any_below g n
any_same f g zero h = below_none f ∙ sym (below_none g)
any_same f g (suc n) h = go (g n) refl (any_same f g n (λ j l. h j (omega arith)))
  where
    go : (t : Bool) → g n ≡ t → any_below f n ≡ any_below g n → any_below f (suc n) ≡ any_below g (suc n)
    go true e ih = below_hit f n (h n (omega arith) ∙ e) ∙ sym (below_hit g n e)
    go false e ih = below_miss f n (h n (omega arith) ∙ e) ∙ ih ∙ sym (below_miss g n e)

from_same : (f g : ℕ → Bool) (k i : ℕ) → ((j : ℕ) → j < i + k → f j ≡ g j) → lowest_from f i k ≡ lowest_from g i k
unfolding lowest_from
from_same f g zero i h = refl
from_same f g (suc k) i h = go (g i) refl (from_same f g k (suc i) (λ j l. h j (omega arith)))
  where
    go : (t : Bool) → g i ≡ t → lowest_from f (suc i) k ≡ lowest_from g (suc i) k → lowest_from f i (suc k) ≡ lowest_from g i (suc k)
    go true e ih = let d : f i ≡ true = h i (omega arith) ∙ e in rw (d, lowest_from, e, lowest_from)
    go false e ih = let d : f i ≡ false = h i (omega arith) ∙ e in rw (d, lowest_from, e, lowest_from) ih

-- tests that agree below n have the same lowest row
pub lowest_same : (f g : ℕ → Bool) (n : ℕ) → ((j : ℕ) → j < n → f j ≡ g j) → lowest f n ≡ lowest g n
unfolding lowest
lowest_same f g n h = from_same f g n 0 (λ j l. h j (omega arith))

module _ (birth : List ℕ) (E : EdgeColumns) (once : Apart birth) (ok : Within (length birth) E) (position : List ℕ) (M : MutationColumns) (known : (i : ℕ) → i < length M.site → at M.node i < length birth) where
  -- a mutation breaks rule 10 by births exactly where it does by rows
  pub births_rule_10 : (i : ℕ) → i < length M.site → mutation_above (edges_of (at birth) E) position (at birth) M i ≡ mutation_above (edges_of (λ r. r) E) position (λ r. r) M i
  unfolding mutation_above overtakes
  births_rule_10 i l = any_same (overtakes (edges_of (at birth) E) position (at birth) M i) (overtakes (edges_of (λ r. r) E) position (λ r. r) M i) i (λ j h. ap (and (eqb (at M.site j) (at M.site i))) (ancestor_names birth E once ok (at position (at M.site i)) (at M.node i) (at M.node j) (known i l) (known j (omega arith))))

  pub births_lowest_10 : lowest (mutation_above (edges_of (at birth) E) position (at birth) M) (length M.site) ≡ lowest (mutation_above (edges_of (λ r. r) E) position (λ r. r) M) (length M.site)
  births_lowest_10 = lowest_same (mutation_above (edges_of (at birth) E) position (at birth) M) (mutation_above (edges_of (λ r. r) E) position (λ r. r) M) (length M.site) births_rule_10
