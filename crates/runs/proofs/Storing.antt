-- One more finished edge is stored: its parent is marked, and its cells are written while there are any.
use mathlib.Core.Path.{◌≡◌, refl, sym, ap, ◌∙◌}
use mathlib.Core.List.{List, [], ◌∷◌, ◌++◌}
use mathlib.Core.Logic.{inl, inr, ⊎_elim}
use Prim.Native.Nat.{ℕ, suc, ◌+◌, ◌<◌, ◌≤◌}
use native.Mathlib.Omega.{arith}
use lib.ListN.{length, get_or, set, length-append, length-set, get_or-append}
use lib.Seq.{get_or-set_same, get_or-set_other, get_or_at}
use Rattle.meaning.specs.Words.{at}
use Rattle.meaning.specs.Rows.{Edge}
use Rattle.meaning.specs.Answer.{limits}
use Rattle.laws.specs.Bools.{eq?}
use Rattle.laws.specs.Facts.{now, later}
use Rattle.history.specs.Lists.{any_left, any_right, any_split}
use Rattle.runs.specs.Runs.{Store, no_edge, Room, Cell, Parent, Mark, Stored, Same, Onward}
use Rattle.runs.specs.Promises.{Pushed}

-- columns that keep their lengths keep their room
pub room_kept : (n : ℕ) (D D' : Store) → Room n D → Onward D D' → length D'.stood ≡ length D.stood → Room n D'
room_kept n D D' r o e = record {
  right_long = o.rights ∙ r.right_long ∙ sym o.lefts;
  parent_long = o.parents ∙ r.parent_long ∙ sym o.lefts;
  child_long = o.children ∙ r.child_long ∙ sym o.lefts;
  stood_long = e ∙ r.stood_long;
}

module _ (e : Edge) (D : Store) where
  -- the edge is counted
  abbrev pub written : Store
  written = record {
    left = set D.left D.count e.left;
    right = set D.right D.count e.right;
    parent = set D.parent D.count e.parent;
    child = set D.child D.count e.child;
    stood = set D.stood e.parent 1;
    count = D.count + 1;
  }

  -- one more than the limit are counted already
  abbrev pub marked : Store
  marked = record {
    left = D.left;
    right = D.right;
    parent = D.parent;
    child = D.child;
    stood = set D.stood e.parent 1;
    count = D.count;
  }

  -- only the cell at the count is written
  same_other : (i : ℕ) → (i ≡ D.count → ⊥) → Same D written i
  same_other i q = record {
    left = get_or-set_other D.left D.count i e.left 0 q;
    right = get_or-set_other D.right D.count i e.right 0 q;
    parent = get_or-set_other D.parent D.count i e.parent 0 q;
    child = get_or-set_other D.child D.count i e.child 0 q;
  }

  onward_written : Onward D written
  onward_written = record {
    more = omega arith;
    lefts = length-set D.left D.count e.left;
    rights = length-set D.right D.count e.right;
    parents = length-set D.parent D.count e.parent;
    children = length-set D.child D.count e.child;
    rest = λ i l. same_other i (λ q. omega arith);
  }

  onward_marked : Onward D marked
  onward_marked = record {
    more = omega arith;
    lefts = refl;
    rights = refl;
    parents = refl;
    children = refl;
    rest = λ i l. record { left = refl; right = refl; parent = refl; child = refl };
  }

  module _ (row : e.parent < length D.stood) (n : ℕ) (F : List Edge) (s : Stored n F D) where
    long : length (F ++ e ∷ []) ≡ suc (length F)
    long = length-append F (e ∷ []) ∙ omega arith

    marks_more : (p : ℕ) → p < n → Mark (F ++ e ∷ []) p (at (set D.stood e.parent 1) p)
    marks_more p l = ⊎_elim
        (λ (q : p ≡ e.parent). inl (ap (at (set D.stood e.parent 1)) q ∙ get_or-set_same D.stood e.parent 1 0 row, any_right F (now (sym q))))
        (λ (q : p ≡ e.parent → ⊥). other q (s.marks p l))
        (eq? p e.parent)
      where
        other : (p ≡ e.parent → ⊥) → Mark F p (at D.stood p) → Mark (F ++ e ∷ []) p (at (set D.stood e.parent 1) p)
        other q (inl m) = inl (get_or-set_other D.stood e.parent p 1 0 q ∙ m.0, any_left (e ∷ []) m.1)
        other q (inr m) = inr (get_or-set_other D.stood e.parent p 1 0 q ∙ m.0, λ a. ⊎_elim (λ (b : Parent F p). m.1 b) (λ (b : Parent (e ∷ []) p). elim b [ now r ↦ q (sym r) | later z ↦ elim z [ ] ]) (any_split F a))

    -- a cell below those counted keeps its edge
    cell_old : (D' : Store) (i : ℕ) → i < length F → Same D D' i → Cell D i (get_or F i no_edge) → Cell D' i (get_or (F ++ e ∷ []) i no_edge)
    cell_old D' i l q k = rw (get_or-append F (e ∷ []) no_edge i l) (still (get_or F i no_edge) k)
      where
        still : (d : Edge) → Cell D i d → Cell D' i d
        still d k = record {
          left = q.left ∙ k.left;
          right = q.right ∙ k.right;
          parent = q.parent ∙ k.parent;
          child = q.child ∙ k.child;
        }

    module _ (room : Room (length D.stood) D) (fits : D.count ≤ limits.edges) where
      next : D.count ≡ length F
      next = omega (arith, s.counted)

      cell_new : D.count < length D.left → Cell written D.count e
      cell_new l = record {
        left = get_or-set_same D.left D.count e.left 0 l;
        right = get_or-set_same D.right D.count e.right 0 (omega (arith, room.right_long));
        parent = get_or-set_same D.parent D.count e.parent 0 (omega (arith, room.parent_long));
        child = get_or-set_same D.child D.count e.child 0 (omega (arith, room.child_long));
      }

      cells_more : (i : ℕ) → i < D.count + 1 → i < length D.left → Cell written i (get_or (F ++ e ∷ []) i no_edge)
      cells_more i l m = ⊎_elim
          (λ (q : i ≡ D.count). rw (get_or_at F e [] no_edge i (sym (q ∙ next))) (rw q (cell_new (omega arith))))
          (λ (q : i ≡ D.count → ⊥). cell_old written i (omega (arith, next)) (same_other i q) (s.cells i (omega arith) m))
          (eq? i D.count)

      stored_written : Stored n (F ++ e ∷ []) written
      stored_written = record {
        counted = omega (arith, next, long);
        cells = λ i l m. cells_more i l (omega (arith, length-set D.left D.count e.left));
        marks = marks_more;
      }

    module _ (over : limits.edges < D.count) where
      stored_marked : Stored n (F ++ e ∷ []) marked
      stored_marked = record {
        counted = omega (arith, long, s.counted);
        cells = λ i l m. cell_old marked i (omega (arith, s.counted)) (record { left = refl; right = refl; parent = refl; child = refl }) (s.cells i l m);
        marks = marks_more;
      }

-- it is counted, and written where there is a cell
pub pushed_written : (e : Edge) (D : Store) (l r p c : List ℕ) → Room (length D.stood) D → e.parent < length D.stood → D.count ≤ limits.edges → l ≡ set D.left D.count e.left → r ≡ set D.right D.count e.right → p ≡ set D.parent D.count e.parent → c ≡ set D.child D.count e.child → Pushed e D (record { left = l; right = r; parent = p; child = c; stood = set D.stood e.parent 1; count = D.count + 1 })
pushed_written e D l r p c room row fits a b g h = rw (a, b, g, h) (record { one_more = λ n F s. stored_written e D row n F s room fits; onward = onward_written e D })

-- it is one too many again
pub pushed_over : (e : Edge) (D : Store) → e.parent < length D.stood → limits.edges < D.count → Pushed e D (marked e D)
pushed_over e D row over = record { one_more = λ n F s. stored_marked e D row n F s over; onward = onward_marked e D }
