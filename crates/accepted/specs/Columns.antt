-- Columns and the rows made of them: what holds of each row holds of the list, and what a list has stands in a row.
use Rattle.std.specs.Prelude.{◌≡◌, refl, Bool, true, false, List, [], ◌∷◌, map, ◌⊎◌, eqb, length}
use Rattle.std.proofs.Common.{sym, ap, subst, ◌∙◌, inl, inr, eqb-true, eq-eqb, ne_eqb}
use Rattle.std.proofs.Math.Logic.{⊎_elim}
use Prim.Native.Nat.{ℕ, zero, suc, ◌+◌, ◌<◌, ◌≤◌}
use native.Mathlib.Omega.{arith}
use Rattle.meaning.specs.Words.{at, mem, rows, rows_from, index_of}
use Rattle.meaning.specs.Rows.{NodeColumns, SiteColumns, Node, Edge, Site, births, node_at, nodes_of, sites_of, node_of, time_of, pos_of}
use Rattle.laws.specs.Bools.{clash, not_true, eq?}
use Rattle.laws.specs.Counting.{rows_at, map_rows}
use Rattle.laws.specs.Members.{index_at, index_below}
use Rattle.laws.specs.Facts.{Distinct, Any, All, parents}
use Rattle.laws.specs.Facts.Distinct.{nil, cons}
use Rattle.laws.specs.Facts.Any.{now, later}
use Rattle.laws.specs.Facts.All.{also}
use Rattle.accepted.specs.Orders.{either_way}
use Rattle.accepted.specs.Checked.{Apart}

-- ---- lists

pub any_cases : {A : Type 0} {Q : A → Type 0} {a : A} {l : List A} → Any Q (a ∷ l) → Q a ⊎ Any Q l
any_cases (now p) = inl p
any_cases (later h) = inr h

any_long : {A : Type 0} {Q : A → Type 0} {l : List A} → Any Q l → 0 < length l
any_long (now p) = omega arith
any_long (later h) = omega arith

pub any_nil : {A : Type 0} {Q : A → Type 0} → Any Q [] → ⊥
any_nil h = omega (arith, any_long h)

-- ---- the rows made by a function

module _ {A : Type 0} (Q : A → Type 0) (f : ℕ → A) where
  all_from : (i k : ℕ) → ((j : ℕ) → j < i + k → Q (f j)) → All Q (rows_from f i k)
  unfolding rows_from
  all_from i zero h = All.done
  all_from i (suc k) h = also (h i (omega arith)) (all_from (suc i) k (λ j l. h j (omega arith)))

  pub all_rows-is : (n : ℕ) → ((j : ℕ) → j < n → Q (f j)) → All Q (rows f n)
  unfolding rows
  all_rows-is n h = all_from 0 n (λ j l. h j (omega arith))

  any_from : (i k : ℕ) → Any Q (rows_from f i k) → (j : ℕ) × (j < i + k) × Q (f j)
  unfolding rows_from
  any_from i zero h = absurd (any_nil h)
  any_from i (suc k) h = ⊎_elim (λ (p : Q (f i)). (i, omega arith, p)) (λ (r : Any Q (rows_from f (suc i) k)). let s : _ = any_from (suc i) k r in (s.0, omega (arith, s.1), s.2)) (any_cases h)

  -- some row of the list is a row below n
  pub any_row : (n : ℕ) → Any Q (rows f n) → (j : ℕ) × (j < n) × Q (f j)
  unfolding rows
  any_row n h = let s : _ = any_from 0 n h in (s.0, omega (arith, s.1), s.2)

  from_any : (i k j : ℕ) → i ≤ j → j < i + k → Q (f j) → Any Q (rows_from f i k)
  unfolding rows_from
  from_any i zero j a b q = absurd (omega arith)
  from_any i (suc k) j a b q = ⊎_elim (λ (e : i ≡ j). now (rw e q)) (λ (e : i ≡ j → ⊥). later (from_any (suc i) k j (omega arith) (omega arith) q)) (eq? i j)

  pub row_any : (n j : ℕ) → j < n → Q (f j) → Any Q (rows f n)
  unfolding rows
  row_any n j l q = from_any 0 n j (omega arith) (omega arith) q

-- ---- a column no two rows of which are equal

pub distinct_of : (l : List ℕ) → Apart l → Distinct l
distinct_of [] h = nil
distinct_of (a ∷ l) h = cons
    (not_true (mem a l) (λ m. h (suc (index_of a l)) 0 (omega arith) (omega (arith, index_below a l m)) (sym (index_at a l m))))
    (distinct_of l (λ i j p q. h (suc i) (suc j) (omega arith) (omega arith)))

-- two rows with one number are one row
pub same_row : (l : List ℕ) → Apart l → (i j : ℕ) → i < length l → j < length l → at l i ≡ at l j → i ≡ j
same_row l h i j p q e = go (either_way i j)
  where
    go : (i ≡ j) ⊎ ((i < j) ⊎ (j < i)) → i ≡ j
    go (inl r) = r
    go (inr (inl r)) = absurd (h j i r q e)
    go (inr (inr r)) = absurd (h i j r p (sym e))

-- ---- nodes

births_map : (l : List Node) → births l ≡ map (λ (n : Node). n.birth) l
unfolding births
births_map [] = refl
births_map (n ∷ l) = ap (λ k. n.birth ∷ k) (births_map l)

pub births_of : (N : NodeColumns) → length N.birth ≡ length N.time → births (nodes_of N) ≡ N.birth
unfolding nodes_of
births_of N e =
    births_map (nodes_of N)
    ∙ map_rows (λ (n : Node). n.birth) (node_at N) (length N.time)
    ∙ ap (rows (at N.birth)) (sym e)
    ∙ rows_at N.birth

-- a number of the column is a birth of the nodes, and back
pub birth_in : (N : NodeColumns) → length N.birth ≡ length N.time → (b : ℕ) → mem b N.birth ≡ true → mem b (births (nodes_of N)) ≡ true
birth_in N e b h = subst (λ (l : List ℕ). mem b l ≡ true) (sym (births_of N e)) h

pub birth_out : (N : NodeColumns) → length N.birth ≡ length N.time → (b : ℕ) → mem b (births (nodes_of N)) ≡ true → mem b N.birth ≡ true
birth_out N e b h = subst (λ (l : List ℕ). mem b l ≡ true) (births_of N e) h

pub births_once : (N : NodeColumns) → length N.birth ≡ length N.time → Apart N.birth → Distinct (births (nodes_of N))
births_once N e h = subst (λ (l : List ℕ). Distinct l) (sym (births_of N e)) (distinct_of N.birth h)

-- the first row of a list is the row of b, or the row of b is in the rest
node_hit : (n : Node) (l : List Node) (b : ℕ) → n.birth ≡ b → node_of (n ∷ l) b ≡ n
unfolding node_of
node_hit n l b e = rw (eq-eqb n.birth b e, node_of)

node_miss : (n : Node) (l : List Node) (b : ℕ) → (n.birth ≡ b → ⊥) → node_of (n ∷ l) b ≡ node_of l b
unfolding node_of
node_miss n l b e = rw (ne_eqb n.birth b e, node_of)

-- the row of b is the only row with that birth
node_from : (f : ℕ → Node) (i k r b : ℕ) → i ≤ r → r < i + k → (f r).birth ≡ b → ((j : ℕ) → j < i + k → (f j).birth ≡ b → j ≡ r) → node_of (rows_from f i k) b ≡ f r
unfolding rows_from
node_from f i zero r b p q e h = absurd (omega arith)
node_from f i (suc k) r b p q e h = ⊎_elim
    (λ (c : (f i).birth ≡ b). node_hit (f i) (rows_from f (suc i) k) b c ∙ ap f (h i (omega arith) c))
    (λ (c : (f i).birth ≡ b → ⊥). node_miss (f i) (rows_from f (suc i) k) b c ∙ node_from f (suc i) k r b (⊎_elim (λ (z : i ≡ r). absurd (c (rw z e))) (λ (z : i ≡ r → ⊥). omega arith) (eq? i r)) (omega arith) e (λ j l. h j (omega arith)))
    (eq? (f i).birth b)

-- the row of the fish of row i is row i
pub node_of-is : (N : NodeColumns) → length N.birth ≡ length N.time → Apart N.birth → (i : ℕ) → i < length N.time → node_of (nodes_of N) (at N.birth i) ≡ node_at N i
unfolding nodes_of rows
node_of-is N e h i l = node_from (node_at N) 0 (length N.time) i (at N.birth i) (omega arith) (omega arith) refl (λ j k c. same_row N.birth h j i (omega arith) (omega arith) c)

pub time_of-is : (N : NodeColumns) → length N.birth ≡ length N.time → Apart N.birth → (i : ℕ) → i < length N.time → time_of (nodes_of N) (at N.birth i) ≡ at N.time i
unfolding time_of
time_of-is N e h i l = ap (λ (n : Node). n.time) (node_of-is N e h i l)

pub time_below : (most : ℕ) (l : List Node) (b : ℕ) → 0 < most → All (λ (n : Node). n.time < most) l → time_of l b < most
unfolding time_of
time_below most [] b z All.done = z
time_below most (n ∷ l) b z (also p h) = ⊎_elim
    (λ (e : n.birth ≡ b). rw (node_hit n l b e, time_of) p)
    (λ (e : n.birth ≡ b → ⊥). rw (node_miss n l b e, time_of) (time_below most l b z h))
    (eq? n.birth b)

-- ---- sites and edges

pos_map : (l : List Site) (i : ℕ) → pos_of l i ≡ at (map (λ (s : Site). s.pos) l) i
unfolding pos_of
pos_map [] i = refl
pos_map (s ∷ l) zero = refl
pos_map (s ∷ l) (suc i) = pos_map l i

pub pos_of-is : (P : SiteColumns) (i : ℕ) → pos_of (sites_of P) i ≡ at P.position i
unfolding sites_of
pos_of-is P i = pos_map (sites_of P) i ∙ ap (λ l. at l i) (map_rows (λ (s : Site). s.pos) (λ i. record { pos = at P.position i; state = at P.ancestral i }) (length P.position) ∙ rows_at P.position)

-- what names a parent stands in a row
pub parent_any : (l : List Edge) (q : ℕ) → mem q (parents l) ≡ true → Any (λ (e : Edge). e.parent ≡ q) l
unfolding parents mem
parent_any [] q h = absurd (clash h refl)
parent_any (e ∷ l) q h = go (eqb q e.parent) refl (λ k. parent_any l q k)
  where
    go : (t : Bool) → eqb q e.parent ≡ t → (mem q (parents l) ≡ true → Any (λ (e : Edge). e.parent ≡ q) l) → Any (λ (e : Edge). e.parent ≡ q) (e ∷ l)
    go true k ih = now (sym (eqb-true q e.parent k))
    go false k ih = later (ih (rw (k, mem) at h))
