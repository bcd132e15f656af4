-- Nothing changes between two neighbouring ends of edges: the forest is the same, and with it all that is said of it.
use Rattle.std.specs.Prelude.{◌≡◌, Bool, ℕ, suc, ◌<◌, ◌≤◌, eqb, leb, ltb}
use Rattle.std.proofs.Math.Path.{refl, fun_ext}
use Rattle.std.proofs.Common.{sym, ap, ◌∙◌, arith}
use Rattle.std.proofs.Math.Bool.{true, false}
use mathlib.Core.List.{List, [], ◌∷◌}
use Rattle.std.proofs.Math.Option.{Option, none, some}
use borrow.Author.Tests.{eqb-true, eq-eqb, lt-ltb, le-leb, ltb-true, ltb-false, leb-true}
use Rattle.meaning.specs.Words.{and}
use Rattle.meaning.specs.Rows.{Edge}
use Rattle.meaning.specs.Forest.{Par, holds, parent_in}
use Rattle.laws.specs.Bools.{and_of, and_yes, bool_ext}
use Rattle.laws.specs.Facts.{All, done, also}

-- the edge neither begins nor ends after x and up to y
pub record Still (x y : ℕ) (e : Edge) : Type 0 where
  pub begins : x < e.left → y < e.left
  pub ends : x < e.right → y < e.right

-- an edge that has begun by y, and does not begin after x and up to y, has begun by x
not_later : (l x y : ℕ) → l ≤ y → (x < l → y < l) → l ≤ x
not_later l x y h s = go (ltb x l) refl
  where
    go : (t : Bool) → ltb x l ≡ t → l ≤ x
    go true e = absurd (omega (arith, s (ltb-true x l e)))
    go false e = omega (arith, ltb-false x l e)

module _ (x y : ℕ) (le : x ≤ y) where
  holds_still : (b : ℕ) (e : Edge) → Still x y e → holds x b e ≡ holds y b e
  unfolding holds
  holds_still b e s = bool_ext
      (λ h.
      let p : _ = and_of (eqb e.child b) (and (leb e.left x) (ltb x e.right)) h in
      let q : _ = and_of (leb e.left x) (ltb x e.right) p.1 in
      and_yes p.0 (and_yes (le-leb e.left y (omega (arith, leb-true e.left x q.0))) (lt-ltb y e.right (s.ends (ltb-true x e.right q.1)))))
      (λ h.
      let p : _ = and_of (eqb e.child b) (and (leb e.left y) (ltb y e.right)) h in
      let q : _ = and_of (leb e.left y) (ltb y e.right) p.1 in
      and_yes p.0 (and_yes (le-leb e.left x (begun (leb-true e.left y q.0))) (lt-ltb x e.right (omega (arith, ltb-true y e.right q.1)))))
    where
      begun : e.left ≤ y → e.left ≤ x
      begun l = not_later e.left x y l s.begins

  parent_still : (l : List Edge) → All (Still x y) l → (b : ℕ) → parent_in l x b ≡ parent_in l y b
  unfolding parent_in
  parent_still [] done b = refl
  parent_still (e ∷ l) (also s a) b = go (holds y b e) refl (parent_still l a b)
    where
      go : (t : Bool) → holds y b e ≡ t → parent_in l x b ≡ parent_in l y b → parent_in (e ∷ l) x b ≡ parent_in (e ∷ l) y b
      go true f ih = rw (holds_still b e s ∙ f, parent_in) (rw (f, parent_in))
      go false f ih = rw (holds_still b e s ∙ f, parent_in) (rw (f, parent_in) ih)

  -- "nothing changes": the forest at x is the forest at y
  pub forest_still : (l : List Edge) → All (Still x y) l → parent_in l x ≡ parent_in l y
  forest_still l a = fun_ext (parent_still l a)
