-- Places given to the rows of two lists, the second first: the places in the joined list.
use mathlib.Core.Path.{◌≡◌, refl, sym, ap, ◌∙◌}
use mathlib.Core.Bool.{Bool, true, false}
use mathlib.Core.List.{List, [], ◌∷◌, ◌++◌, map}
use mathlib.Core.Logic.{⊎_elim}
use Prim.Native.Nat.{ℕ, suc, ◌+◌, ◌-◌, ◌<◌, ◌≤◌}
use native.Mathlib.Omega.{arith}
use lib.Dec.{eqb}
use lib.ListN.{length, take, drop, set}
use lib.Seq.{get_or-set_same, get_or-set_other, drop-cons, drop-length, length-take-le, get_or-take}
use borrow.Author.Tests.{eqb-false, eq-eqb, ne_eqb}
use Rattle.meaning.specs.Words.{at, mem, index_of, rows}
use Rattle.meaning.specs.Clean.{no_row, row_in}
use Rattle.laws.specs.Bools.{clash, eq?, not_true}
use Rattle.laws.specs.Counting.{length_rows, get_rows, map_rows}
use Rattle.laws.specs.Members.{mem_nil, mem_here, mem_cases, mem_left, mem_right, mem_split}
use Rattle.order.specs.Order.{Inside}
use Rattle.byrows.specs.Rows.{all_rows}
use Rattle.keeping.specs.Places.{placed}
use Rattle.keeping.proofs.Cells.{cells_rows}

-- ---- one list

module _ (old : List ℕ) (u : ℕ) where
  placed_in : (l : List ℕ) (f : ℕ) → mem u l ≡ true → placed l f old u ≡ f + index_of u l
  unfolding placed
  placed_in l f e = rw (e, placed)

  placed_out : (l : List ℕ) (f : ℕ) → mem u l ≡ false → placed l f old u ≡ at old u
  unfolding placed
  placed_out l f e = rw (e, placed)

  placed_none : (f : ℕ) → placed [] f old u ≡ at old u
  placed_none f = placed_out [] f (not_true (mem u []) (λ h. mem_nil u h))

  placed_here : (a : ℕ) (l : List ℕ) (f : ℕ) → u ≡ a → placed (a ∷ l) f old u ≡ f
  unfolding index_of
  placed_here a l f e =
      let z : index_of u (a ∷ l) ≡ 0 = rw (eq-eqb u a e, index_of) in
      let q : f + index_of u (a ∷ l) ≡ f = omega arith in
      placed_in (a ∷ l) f (mem_here u a l e) ∙ q

  placed_there : (a : ℕ) (l : List ℕ) (f : ℕ) → (u ≡ a → ⊥) → placed (a ∷ l) f old u ≡ placed l (suc f) old u
  unfolding mem index_of
  placed_there a l f n = go (mem u l) refl
    where
      same : mem u (a ∷ l) ≡ mem u l
      same = rw (ne_eqb u a n, mem)

      next : index_of u (a ∷ l) ≡ suc (index_of u l)
      next = rw (ne_eqb u a n, index_of)

      go : (t : Bool) → mem u l ≡ t → placed (a ∷ l) f old u ≡ placed l (suc f) old u
      go true e = let q : f + index_of u (a ∷ l) ≡ suc f + index_of u l = omega (arith, next) in placed_in (a ∷ l) f (same ∙ e) ∙ q ∙ sym (placed_in l (suc f) e)
      go false e = placed_out (a ∷ l) f (same ∙ e) ∙ sym (placed_out l (suc f) e)

-- each cell is as when the rows of l from i on have got their places
abbrev pub PlacedFrom : List ℕ → ℕ → List ℕ → ℕ → List ℕ → Type 0
PlacedFrom l f old i cells = (u : ℕ) → u < length old → at cells u ≡ placed (drop i l) (f + i) old u

pub from_end : (l old : List ℕ) (f i : ℕ) → length l ≡ i → PlacedFrom l f old i old
from_end l old f i e u h = sym (ap (λ k. placed k (f + i) old u) (ap (λ j. drop j l) (sym e) ∙ drop-length l) ∙ placed_none old u (f + i))

-- the row before gets its place
pub one_placed : (l old cells : List ℕ) (f i a : ℕ) → 0 < i → i ≤ length l → at l (i - 1) ≡ a → a < length cells → PlacedFrom l f old i cells → PlacedFrom l f old (i - 1) (set cells a (f + (i - 1)))
one_placed l old cells f i a z h e k p u b =
    ⊎_elim
    (λ (q : u ≡ a). ap (at (set cells a (f + (i - 1)))) q ∙ get_or-set_same cells a (f + (i - 1)) 0 k ∙ sym (ap (λ w. placed w (f + (i - 1)) old u) split ∙ placed_here old u a (drop (suc (i - 1)) l) (f + (i - 1)) q))
    (λ (n : u ≡ a → ⊥). get_or-set_other cells a u (f + (i - 1)) 0 n ∙ p u b ∙ sym (ap (λ w. placed w (f + (i - 1)) old u) split ∙ placed_there old u a (drop (suc (i - 1)) l) (f + (i - 1)) n ∙ ap (λ w. placed w (suc (f + (i - 1))) old u) rest ∙ ap (λ w. placed (drop i l) w old u) place))
    (eq? u a)
  where
    split : drop (i - 1) l ≡ a ∷ drop (suc (i - 1)) l
    split = drop-cons l (i - 1) 0 (omega arith) ∙ ap (λ w. w ∷ drop (suc (i - 1)) l) e

    rest : drop (suc (i - 1)) l ≡ drop i l
    rest = let q : suc (i - 1) ≡ i = omega arith in ap (λ j. drop j l) q

    place : suc (f + (i - 1)) ≡ f + i
    place = omega arith

-- all have got their places
pub all_placed : (l old cells : List ℕ) (f i : ℕ) → i ≤ 0 → length cells ≡ length old → PlacedFrom l f old i cells → cells ≡ rows (placed l f old) (length old)
all_placed l old cells f i z e p =
    cells_rows (placed l f old) cells (length old) e
    (λ u h. let q : i ≡ 0 = omega arith in let r : f + 0 ≡ f = omega arith in p u h ∙ ap (λ j. placed (drop j l) (f + j) old u) q ∙ ap (λ j. placed l j old u) r)

-- ---- the joined list

index_left : (u : ℕ) (l m : List ℕ) → mem u l ≡ true → index_of u (l ++ m) ≡ index_of u l
unfolding index_of
index_left u [] m h = absurd (mem_nil u h)
index_left u (a ∷ l) m h = go (eqb u a) refl (λ k. index_left u l m k)
  where
    go : (t : Bool) → eqb u a ≡ t → (mem u l ≡ true → index_of u (l ++ m) ≡ index_of u l) → index_of u (a ∷ (l ++ m)) ≡ index_of u (a ∷ l)
    go true e ih = rw (e, index_of)
    go false e ih = rw (e, index_of) (ap suc (ih (⊎_elim (λ (q : u ≡ a). absurd (eqb-false u a e q)) (λ k. k) (mem_cases u a l h))))

index_right : (u : ℕ) (l m : List ℕ) → mem u l ≡ false → index_of u (l ++ m) ≡ length l + index_of u m
unfolding index_of mem
index_right u [] m h = omega arith
index_right u (a ∷ l) m h = go (eqb u a) refl (λ k. index_right u l m k)
  where
    go : (t : Bool) → eqb u a ≡ t → (mem u l ≡ false → index_of u (l ++ m) ≡ length l + index_of u m) → index_of u (a ∷ (l ++ m)) ≡ length (a ∷ l) + index_of u m
    go true e ih = absurd (clash refl (rw (e, mem) at h))
    go false e ih = rw (e, index_of) (omega (arith, ih (rw (e, mem) at h)))

row_there : (K : List ℕ) (u : ℕ) → mem u K ≡ true → row_in K u ≡ index_of u K
unfolding row_in
row_there K u e = rw (e, row_in)

row_none : (K : List ℕ) (u : ℕ) → mem u K ≡ false → row_in K u ≡ no_row
unfolding row_in
row_none K u e = rw (e, row_in)

-- the places in the second list and then those in the first are the places in the joined list
joined : (A B none : List ℕ) (u : ℕ) (mid : List ℕ) → at mid u ≡ placed B (length A) none u → at none u ≡ no_row → placed A 0 mid u ≡ row_in (A ++ B) u
joined A B none u mid e z = go (mem u A) refl (mem u B) refl
  where
    go : (s : Bool) → mem u A ≡ s → (t : Bool) → mem u B ≡ t → placed A 0 mid u ≡ row_in (A ++ B) u
    go true p t q =
        let w : 0 + index_of u A ≡ index_of u A = omega arith in
        placed_in mid u A 0 p ∙ w ∙ sym (row_there (A ++ B) u (mem_left u A B p) ∙ index_left u A B p)
    go false p true q = placed_out mid u A 0 p ∙ e ∙ placed_in none u B (length A) q ∙ sym (row_there (A ++ B) u (mem_right u A B q) ∙ index_right u A B p)
    go false p false q = placed_out mid u A 0 p ∙ e ∙ placed_out none u B (length A) q ∙ z ∙ sym (row_none (A ++ B) u (not_true (mem u (A ++ B)) (λ m. ⊎_elim (λ (y : mem u A ≡ true). clash y p) (λ (y : mem u B ≡ true). clash y q) (mem_split u A B m))))

pub both_placed : (A B none mid cells : List ℕ) (n k : ℕ) → length A ≡ k → none ≡ rows (λ u. no_row) n → mid ≡ rows (placed B k none) (length none) → cells ≡ rows (placed A 0 mid) (length mid) → cells ≡ map (row_in (A ++ B)) (all_rows n)
unfolding all_rows
both_placed A B none mid cells n k q x y z =
    cells_rows (row_in (A ++ B)) cells n (ap length z ∙ length_rows (placed A 0 mid) (length mid) ∙ mid_long)
    (λ u h. ap (λ w. at w u) z ∙ get_rows (placed A 0 mid) 0 (length mid) u (omega (arith, mid_long)) ∙ joined A B none u mid (second u h) (ap (λ w. at w u) x ∙ get_rows (λ u. no_row) 0 n u h))
    ∙ sym (map_rows (row_in (A ++ B)) (λ i. i) n)
  where
    none_long : length none ≡ n
    none_long = ap length x ∙ length_rows (λ u. no_row) n

    mid_long : length mid ≡ n
    mid_long = ap length y ∙ length_rows (placed B k none) (length none) ∙ none_long

    second : (u : ℕ) → u < n → at mid u ≡ placed B (length A) none u
    second u h = ap (λ w. at w u) y ∙ get_rows (placed B k none) 0 (length none) u (omega (arith, none_long)) ∙ ap (λ j. placed B j none u) (sym q)

-- ---- the first n cells of a column of rows

pub front_cell : (kept : List ℕ) (n i a : ℕ) → 0 < i → i ≤ n → a ≡ at kept (i - 1) → at (take n kept) (i - 1) ≡ a
front_cell kept n i a z h e = get_or-take n kept (i - 1) 0 (omega arith) ∙ sym e

pub front_row : (kept : List ℕ) (n i a m : ℕ) → 0 < i → i ≤ n → n ≤ length kept → a ≡ at kept (i - 1) → Inside m (take n kept) → a < m
front_row kept n i a m z h k e s =
    let l : i - 1 < length (take n kept) = omega (arith, length-take-le n kept k) in
    omega (arith, s.row (i - 1) l, front_cell kept n i a z h e)

pub inside_as : (l : List ℕ) (n m : ℕ) → m ≡ n → Inside n l → Inside m l
inside_as l n m e s = record { row = λ i h. omega (arith, s.row i h) }
