-- What looking up a parent asks of its columns is a fact that holds in one way only, so that a struct can keep it.
use Rattle.std.specs.Prelude.{◌≡◌, List, ◌⊎◌, ℕ, ◌<◌, ◌≤◌, length}
use mathlib.Core.HLevel.{Σ_prop_path}
use Rattle.std.proofs.Math.Path.{ap}
use Rattle.std.proofs.Common.{inl, inr, ⊎_elim, sym, ◌∙◌}
use native.Mathlib.Omega.{arith}
use denote.Struct.Props.{props}
use Rattle.order.specs.Lex.{trichotomy}
use Rattle.meaning.specs.Words.{at}
use Rattle.meaning.specs.Rows.{EdgeColumns}
use Rattle.meaning.specs.Even.{EvenEdges}
use Rattle.rules.specs.ByChild.{ByChild}
use Rattle.ancestry.specs.Index.{Whole, Ends, Indexed}

-- one of two that exclude each other
either : {A B : Type 0} → IsProp A → IsProp B → (A → B → ⊥) → IsProp (A ⊎ B)
either a b n (inl x) (inl y) = ap inl (a x y)
either a b n (inl x) (inr y) = absurd (n x y)
either a b n (inr x) (inl y) = absurd (n y x)
either a b n (inr x) (inr y) = ap inr (b x y)

module _ (E : EdgeColumns) (by : List ℕ) (held : (e : ℕ) → e < length E.left → at E.left e < at E.right e) where
  -- an edge stands at one place
  once : ByChild E by → (p q : ℕ) → p < q → q < length by → at by p ≡ at by q → ⊥
  once b p q l h e = ⊎_elim
      (λ (m : at E.child (at by p) < at E.child (at by q)). omega (arith, ap (at E.child) e))
      (λ (m : (at E.child (at by p) ≡ at E.child (at by q)) × (at E.right (at by p) ≤ at E.left (at by q))). omega (arith, m.1, ap (at E.right) e, held (at by q) (b.row q h)))
      (b.order p q l h)

  place_once : ByChild E by → (e : ℕ) → IsProp ((p : ℕ) × (p < length by) × (at by p ≡ e))
  place_once b e s t = ap flat (Σ_prop_path fact {u = (s.0, (s.1, s.2))} {v = (t.0, (t.1, t.2))} (⊎_elim
      (λ (m : s.0 < t.0). absurd (once b s.0 t.0 m t.1 (s.2 ∙ sym t.2)))
      (λ r. ⊎_elim (λ (m : s.0 ≡ t.0). m) (λ (m : t.0 < s.0). absurd (once b t.0 s.0 m s.1 (t.2 ∙ sym s.2))) r)
      (trichotomy s.0 t.0)))
    where
      fact : (p : ℕ) → IsProp ((p < length by) × (at by p ≡ e))
      fact p = Prim.hlevel props

      flat : (p : ℕ) × ((p < length by) × (at by p ≡ e)) → (p : ℕ) × (p < length by) × (at by p ≡ e)
      flat w = (w.0, w.1.0, w.1.1)

  order_once : (p q : ℕ) → IsProp ((at E.child (at by p) < at E.child (at by q)) ⊎ ((at E.child (at by p) ≡ at E.child (at by q)) × (at E.right (at by p) ≤ at E.left (at by q))))
  order_once p q = either (Prim.hlevel props) (Prim.hlevel props) (λ l m. omega (arith, m.0))

  by_child_once : IsProp (ByChild E by)
  by_child_once x y =
      let long_once : IsProp (length by ≡ length E.left) = Prim.hlevel props in
      let row_once : IsProp ((p : ℕ) → p < length by → at by p < length E.left) = Prim.hlevel props in
      λ i. record {
        long = long_once x.long y.long i;
        row = row_once x.row y.row i;
        place = λ e l. place_once x e (x.place e l) (y.place e l) i;
        order = λ p q l h. order_once p q (x.order p q l h) (y.order p q l h) i;
      }

even_once : (E : EdgeColumns) → IsProp (EvenEdges E)
even_once E = Prim.hlevel props

whole_once : (E : EdgeColumns) (L : ℕ) → IsProp (Whole E L)
whole_once E L = Prim.hlevel props

ends_once : (child by closed : List ℕ) → IsProp (Ends child by closed)
ends_once child by closed = Prim.hlevel props

pub indexed_once : (E : EdgeColumns) (L : ℕ) (by closed : List ℕ) → IsProp (Indexed E L by closed)
indexed_once E L by closed x y = λ i. record {
  even = even_once E x.even y.even i;
  whole = whole_once E L x.whole y.whole i;
  order = by_child_once E by x.whole.held x.order y.order i;
  ends = ends_once E.child by closed x.ends y.ends i;
}
