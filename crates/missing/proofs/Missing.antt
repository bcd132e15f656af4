-- What the code that tells a missing row finds, branch by branch.
use mathlib.Core.Path.{◌≡◌, refl, sym, ap, ◌∙◌}
use mathlib.Core.Bool.{Bool, true, false, not}
use mathlib.Core.List.{List}
use mathlib.Core.Option.{Option, none, some}
use Prim.Native.Nat.{ℕ, ◌+◌, ◌<◌, ◌≤◌}
use native.Mathlib.Numerals.{add-one}
use native.Mathlib.Omega.{arith}
use lib.Dec.{eqb}
use lib.ListN.{length}
use borrow.Author.Tests.{eq-eqb, ne_eqb}
use Rattle.meaning.specs.Words.{or, at, any_below}
use Rattle.meaning.specs.Rows.{EdgeColumns}
use Rattle.meaning.specs.Allele.{found}
use Rattle.laws.specs.Bools.{or_right}
use Rattle.laws.specs.Counting.{below_none, below_miss, of_below}
use Rattle.bridge.specs.Parents.{no_row, code, parent_row}
use Rattle.ancestry.specs.declared.Stretch.{Stretch}
use Rattle.ancestry.specs.Rises.{parent_rises}
use Rattle.ancestry.specs.Stretch.{stretch_at}
use Rattle.missing.specs.Marks.{marked}
use Rattle.missing.specs.Climbable.{Climbable}
use Rattle.missing.specs.Alone.{under_row, child_row, missing_row}

-- ---- all edges

module _ (left right parent : List ℕ) (x u : ℕ) where
  -- none of the first e edges hangs a child below u
  abbrev pub NoneYet : ℕ → Type 0
  NoneYet e = any_below (under_row left right parent x u) e ≡ false

  pub none_at_first : NoneYet 0
  none_at_first = below_none (under_row left right parent x u)

  pub none_still : (e : ℕ) → false ≡ under_row left right parent x u e → NoneYet e → NoneYet (e + 1)
  none_still e q h = rw (add-one e) (below_miss (under_row left right parent x u) e (sym q) ∙ h)

  pub one_found : (e : ℕ) → e < length left → true ≡ under_row left right parent x u e → true ≡ child_row left right parent x u
  unfolding child_row
  one_found e l q = sym (of_below (under_row left right parent x u) (length left) e l (sym q))

  pub none_found : (e : ℕ) → e ≤ length left → length left ≤ e → NoneYet e → false ≡ child_row left right parent x u
  unfolding child_row
  none_found e a b h = let q : length left ≡ e = omega arith in sym (ap (any_below (under_row left right parent x u)) q ∙ h)

-- ---- one row

module _ {time : List ℕ} {E : EdgeColumns} {ends has : List ℕ} {u : ℕ} (ok : Climbable time E ends has u) (L x : ℕ) where
  abbrev below : Bool
  below = child_row E.left E.right E.parent x u

  -- a mutation of its own
  pub by_mutation : at has u ≡ 1 → false ≡ missing_row E x has u
  unfolding missing_row marked
  by_mutation e = sym (ap not (or_right (found (parent_row E x u)) (or below (eqb (at has u) 1)) (or_right below (eqb (at has u) 1) (eq-eqb (at has u) 1 e))))

  module _ (s : Stretch) (q : s ≡ stretch_at E L x u) where
    cell : s.parent ≡ code (parent_row E x u)
    cell = ap (λ (s : Stretch). s.parent) q

    -- a parent
    pub by_parent : (s.parent ≡ no_row → ⊥) → false ≡ missing_row E x has u
    unfolding missing_row code found
    by_parent z = go (parent_row E x u) refl
      where
        go : (o : Option ℕ) → parent_row E x u ≡ o → false ≡ missing_row E x has u
        go none h = absurd (z (cell ∙ ap code h))
        go (some p) h = sym (ap (λ (o : Option ℕ). not (or (found o) (or below (marked has u)))) h)

    -- neither: a child decides
    pub by_child : (at has u ≡ 1 → ⊥) → s.parent ≡ no_row → (c : Bool) → c ≡ below → not c ≡ missing_row E x has u
    unfolding missing_row code found marked
    by_child n z c d = go (parent_row E x u) refl
      where
        plain : (t : Bool) → not t ≡ not (or t false)
        plain true = refl
        plain false = refl

        go : (o : Option ℕ) → parent_row E x u ≡ o → not c ≡ missing_row E x has u
        go none h =
            ap not d
            ∙ plain below
            ∙ ap (λ t. not (or below t)) (sym (ne_eqb (at has u) 1 n))
            ∙ ap (λ (o : Option ℕ). not (or (found o) (or below (marked has u)))) (sym h)
        go (some p) h = absurd (omega (arith, (parent_rises time E ok.rising x u p h).1, ok.few, z, cell, ap code h))
