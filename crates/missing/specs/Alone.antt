-- M-103 by rows: whether a row has a child at a position, and whether it is missing there.
use Rattle.std.specs.Prelude.{◌≡◌, refl, Bool, not, List, ℕ, ◌<◌, eqb, leb, ltb, length}
use Rattle.std.proofs.Common.{◌∙◌}
use Rattle.std.proofs.Math.Path.{ap}
use Rattle.std.proofs.Math.Option.{Option, none, some}
use Rattle.meaning.specs.Words.{and, or, at, any_below}
use Rattle.meaning.specs.Rows.{EdgeColumns, edges_of}
use Rattle.meaning.specs.Allele.{found, has_parent, under, has_child}
use Rattle.laws.specs.Counting.{any_rows}
use Rattle.bridge.specs.Parents.{parent_row}
use Rattle.bridge.specs.Rename.{map_option, eqb_names}
use Rattle.bridge.specs.Columns.{Apart, Within, edge_row, parent_names, any_same}
use Rattle.missing.specs.Marks.{marked}

-- edge row e holds at x, and u is its parent
unfoldable pub under_row : List ℕ → List ℕ → List ℕ → ℕ → ℕ → ℕ → Bool
under_row left right parent x u e = and (eqb (at parent e) u) (and (leb (at left e) x) (ltb x (at right e)))

-- row u has a child at x
unfoldable pub child_row : List ℕ → List ℕ → List ℕ → ℕ → ℕ → Bool
unfolding under_row any_below
child_row left right parent x u = any_below (under_row left right parent x u) (length left)

-- row u is missing at x, where the rows with a mutation at the site are marked
unfoldable pub missing_row : EdgeColumns → ℕ → List ℕ → ℕ → Bool
unfolding found parent_row child_row marked
missing_row E x has u = not (or (found (parent_row E x u)) (or (child_row E.left E.right E.parent x u) (marked has u)))

-- ---- the same by births

found_named : (f : ℕ → ℕ) (o : Option ℕ) → found (map_option f o) ≡ found o
unfolding found
found_named f none = refl
found_named f (some p) = refl

module _ (birth : List ℕ) (E : EdgeColumns) (once : Apart birth) (ok : Within (length birth) E) (x u : ℕ) (l : u < length birth) where
  pub parent_there : has_parent (edges_of (at birth) E) x (at birth u) ≡ found (parent_row E x u)
  unfolding has_parent parent_row
  parent_there = ap found (parent_names birth E once ok x u l) ∙ found_named (at birth) (parent_row E x u)

  under_named : (e : ℕ) → e < length E.left → under x (at birth u) (edge_row (at birth) E e) ≡ under_row E.left E.right E.parent x u e
  unfolding under under_row
  under_named e h = ap (λ t. and t (and (leb (at E.left e) x) (ltb x (at E.right e)))) (eqb_names (length birth) (at birth) once (at E.parent e) u (ok.parent_row e h) l)

  pub child_there : has_child (edges_of (at birth) E) x (at birth u) ≡ child_row E.left E.right E.parent x u
  unfolding has_child edges_of child_row
  child_there =
      any_rows (under x (at birth u)) (edge_row (at birth) E) (length E.left)
      ∙ any_same (λ e. under x (at birth u) (edge_row (at birth) E e)) (under_row E.left E.right E.parent x u) (length E.left) under_named
