-- Columns filled in turn: cell by cell, with the members of a list at the front, and with marks on the rows of a list.
use mathlib.Core.Path.{◌≡◌, sym, ap, ◌∙◌}
use mathlib.Core.Bool.{true}
use mathlib.Core.List.{List, [], ◌∷◌, ◌++◌}
use mathlib.Core.Logic.{⊎_elim}
use Prim.Native.Nat.{ℕ, suc, ◌+◌, ◌<◌, ◌≤◌}
use native.Mathlib.Omega.{arith}
use lib.ListN.{length, take, set, replicate, length-set, length-replicate, get_or-replicate}
use lib.Seq.{ext_get_or, get_or-set_same, get_or-set_other, take-suc, take_all, length-take-le}
use Rattle.meaning.specs.Words.{at, mem, rows}
use Rattle.meaning.specs.Answer.{put}
use Rattle.laws.specs.Bools.{eq?, bool_ext}
use Rattle.laws.specs.Counting.{length_rows, get_rows}
use Rattle.laws.specs.Members.{mem_nil, mem_here, mem_cases, mem_left, mem_right, mem_split}
use Rattle.order.specs.Counts.{bit}
use Rattle.keeping.specs.Fronts.{put_more}

-- ---- cell by cell

-- one cell more holds what f says
pub next_cell : (f : ℕ → ℕ) (l : List ℕ) (i : ℕ) → i < length l → ((k : ℕ) → k < i → at l k ≡ f k) → (k : ℕ) → k < i + 1 → at (set l i (f i)) k ≡ f k
next_cell f l i h c k b =
    ⊎_elim
    (λ (q : k ≡ i). rw q (get_or-set_same l i (f i) 0 h))
    (λ (n : k ≡ i → ⊥). get_or-set_other l i k (f i) 0 n ∙ c k (omega arith))
    (eq? k i)

-- a column whose every cell holds what f says
pub cells_rows : (f : ℕ → ℕ) (l : List ℕ) (n : ℕ) → length l ≡ n → ((k : ℕ) → k < n → at l k ≡ f k) → l ≡ rows f n
cells_rows f l n e c =
    ext_get_or 0 l (rows f n) (e ∙ sym (length_rows f n))
    (λ k h. c k (omega arith) ∙ sym (get_rows f 0 n k (omega arith)))

-- a column filled with one value
pub filled_rows : {l : List ℕ} (n v : ℕ) → l ≡ replicate n v → l ≡ rows (λ u. v) n
filled_rows {l} n v e = cells_rows (λ u. v) l n (ap length e ∙ length-replicate n v) (λ k h. ap (λ z. at z k) e ∙ get_or-replicate n k v 0 h)

-- ---- the members of a list in turn

-- one more member of a list
pub take_more : (l : List ℕ) (i v : ℕ) → i < length l → at l i ≡ v → take i l ++ (v ∷ []) ≡ take (i + 1) l
take_more l i v h e =
    let q : i + 1 ≡ suc i = omega arith in
    rw q (rw (take-suc l i 0 h) (ap (λ x. take i l ++ (x ∷ [])) (sym e)))

-- a mark on each row of a list
abbrev pub Marked : List ℕ → List ℕ → Type 0
Marked marks l = (u : ℕ) → u < length marks → at marks u ≡ bit (mem u l)

pub none_marked : (marks : List ℕ) (n : ℕ) → marks ≡ rows (λ u. 0) n → Marked marks []
unfolding bit mem
none_marked marks n e u h =
    let k : u < n = omega (arith, ap length e, length_rows {A = ℕ} (λ u. 0) n) in
    ap (λ z. at z u) e ∙ get_rows (λ u. 0) 0 n u k

-- one row more is marked
pub mark_more : (marks l : List ℕ) (r : ℕ) → r < length marks → Marked marks l → Marked (set marks r 1) (l ++ (r ∷ []))
unfolding bit
mark_more marks l r h m u k =
    ⊎_elim
    (λ (q : u ≡ r). ap (at (set marks r 1)) q ∙ get_or-set_same marks r 1 0 h ∙ ap bit (sym (mem_right u l (r ∷ []) (mem_here u r [] q))))
    (λ (n : u ≡ r → ⊥). get_or-set_other marks r u 1 0 n ∙ m u (omega (arith, simp length-set at k)) ∙ ap bit (same n))
    (eq? u r)
  where
    same : (u ≡ r → ⊥) → mem u l ≡ mem u (l ++ (r ∷ []))
    same n = bool_ext (λ y. mem_left u l (r ∷ []) y)
        (λ y. ⊎_elim (λ z. z) (λ (z : mem u (r ∷ []) ≡ true). ⊎_elim (λ (q : u ≡ r). absurd (n q)) (λ (w : mem u [] ≡ true). absurd (mem_nil u w)) (mem_cases u r [] z)) (mem_split u l (r ∷ []) y))

-- one turn, and the end

pub front_more : (l old : List ℕ) (i v : ℕ) → i < length l → i < length old → at l i ≡ v → set (put (take i l) old) i v ≡ put (take (i + 1) l) old
front_more l old i v h k e =
    let q : length (take i l) ≡ i = length-take-le i l (omega arith) in
    ap (λ j. set (put (take i l) old) j v) (sym q) ∙ put_more (take i l) old v (omega arith) ∙ ap (λ z. put z old) (take_more l i v h e)

pub marks_more : (marks l : List ℕ) (i r : ℕ) → i < length l → at l i ≡ r → r < length marks → Marked marks (take i l) → Marked (set marks r 1) (take (i + 1) l)
marks_more marks l i r h e k m u b = mark_more marks (take i l) r k m u b ∙ ap (λ z. bit (mem u z)) (take_more l i r h e)

pub front_all : (l old out : List ℕ) (i : ℕ) → length l ≤ i → out ≡ put (take i l) old → out ≡ put l old
front_all l old out i h e = e ∙ ap (λ z. put z old) (take_all i l h)

pub marks_all : (l marks : List ℕ) (n i : ℕ) → length marks ≡ n → length l ≤ i → Marked marks (take i l) → marks ≡ rows (λ u. bit (mem u l)) n
marks_all l marks n i e h m = cells_rows (λ u. bit (mem u l)) marks n e (λ u b. m u (omega arith) ∙ ap (λ z. bit (mem u z)) (take_all i l h))
