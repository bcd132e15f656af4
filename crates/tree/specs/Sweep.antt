-- Edges that begin and end along the chromosome: the column of parents by the edges that hold, and the cursors into the two orders of edges.
use Rattle.std.specs.Prelude.{◌≡◌, Bool, true, false, List, ◌⊎◌, ℕ, zero, suc, ◌<◌, ◌≤◌, eqb, ltb, length, get_or}
use Rattle.mend.specs.Right.{pick}
use Rattle.mend.specs.Kept.{Kept}

-- what the rules 5 and 7 of the check find of the edges' columns (left, right, parent, child), for n node rows with the times T
pub record Checked (T l r pa ch : List ℕ) (n : ℕ) : Type 0 where
  pub lefts : length l ≡ length ch
  pub rights : length r ≡ length ch
  pub parents : length pa ≡ length ch
  pub parent : (e : ℕ) → e < length ch → get_or pa e 0 < n
  pub child : (e : ℕ) → e < length ch → get_or ch e 0 < n
  pub wide : (e : ℕ) → e < length ch → get_or l e 0 < get_or r e 0
  pub older : (e : ℕ) → e < length ch → get_or T (get_or ch e 0) 0 < get_or T (get_or pa e 0) 0
  pub apart : (e f : ℕ) → e < length ch → f < length ch → (e ≡ f → ⊥) → get_or ch e 0 ≡ get_or ch f 0 → (get_or r e 0 ≤ get_or l f 0) ⊎ (get_or r f 0 ≤ get_or l e 0)

-- b has every row below m exactly once, sorted by key
pub record Index (key b : List ℕ) (m : ℕ) : Type 0 where
  pub rows : (k : ℕ) → k < length b → get_or b k 0 < m
  pub once : (j k : ℕ) → j < length b → k < length b → get_or b j 0 ≡ get_or b k 0 → j ≡ k
  pub all : (e : ℕ) → e < m → (k : ℕ) × (k < length b) × (get_or b k 0 ≡ e)
  pub sorted : (j k : ℕ) → j ≤ k → k < length b → get_or key (get_or b j 0) 0 ≤ get_or key (get_or b k 0) 0

-- the first i of b have keys below hi, and the others keys from lo on
pub record Cut (key b : List ℕ) (i lo hi : ℕ) : Type 0 where
  pub within : i ≤ length b
  pub past : (k : ℕ) → k < i → get_or key (get_or b k 0) 0 < hi
  pub next : (k : ℕ) → i ≤ k → k < length b → lo ≤ get_or key (get_or b k 0) 0

-- exactly the edges that begin below y have begun, and exactly those that end below y have ended
pub record Ahead (l r bl br : List ℕ) (i j y : ℕ) : Type 0 where
  pub begun : Cut l bl i y y
  pub ended : Cut r br j y y

-- P holds the parents by the edges A
pub record Holds (A : ℕ → Bool) (ch pa P : List ℕ) : Type 0 where
  pub yes : (e : ℕ) → e < length ch → A e ≡ true → get_or P (get_or ch e 0) 0 ≡ get_or pa e 0
  pub nay : (u : ℕ) → u < length P → ((e : ℕ) → e < length ch → A e ≡ true → get_or ch e 0 ≡ u → ⊥) → get_or P u 0 ≡ 4294967295

-- e is among the first k of b
unfoldable pub seen : List ℕ → ℕ → ℕ → Bool
seen b zero e = false
seen b (suc k) e = elim (eqb (get_or b k 0) e) [ true ↦ true | false ↦ seen b k e ]

-- begun by the first i of bl, not ended by the first j of br
unfoldable pub acts : List ℕ → List ℕ → ℕ → ℕ → ℕ → Bool
unfolding seen
acts bl br i j e = elim (seen br j e) [ true ↦ false | false ↦ seen bl i e ]

-- the edges and both orders of them
pub record Plan (T l r pa ch bl br : List ℕ) (n : ℕ) : Type 0 where
  pub checked : Checked T l r pa ch n
  pub lefts : Index l bl (length ch)
  pub rights : Index r br (length ch)

-- of the edges by left the first i have begun, of those by right the first j have ended, and P holds the parents so
pub record Between (l r pa ch bl br P : List ℕ) (i j lo hi from to : ℕ) : Type 0 where
  pub begun : Cut l bl i lo hi
  pub ended : Cut r br j from to
  pub holds : Holds (acts bl br i j) ch pa P

-- all columns are those of the edges that begin below y and do not end below y
pub record Swept (T S P C M D U l r pa ch bl br : List ℕ) (i j y : ℕ) : Type 0 where
  pub kept : Kept T S P C M D U
  pub plan : Plan T l r pa ch bl br (length P)
  pub ahead : Ahead l r bl br i j y
  pub holds : Holds (acts bl br i j) ch pa P

-- the key at the cursor i of b, if it is below most; most otherwise
unfoldable pub next_key : List ℕ → List ℕ → ℕ → ℕ → ℕ
next_key key b i most = elim (ltb i (length b)) [ true ↦ pick (ltb (get_or key (get_or b i 0) 0) most) (get_or key (get_or b i 0) 0) most | false ↦ most ]

-- the next position where an edge begins or ends, or len
unfoldable pub next_change : List ℕ → List ℕ → List ℕ → List ℕ → ℕ → ℕ → ℕ → ℕ
unfolding next_key
next_change l r bl br i j len = next_key r br j (next_key l bl i len)
