-- Whether a row has a child, edge by edge, and what is kept of it.
use mathlib.Core.Path.{◌≡◌, refl, sym, ap, ◌∙◌}
use mathlib.Core.Bool.{Bool, true, false}
use mathlib.Core.List.{List}
use mathlib.Core.Logic.{◌⊎◌, inl, inr, ⊎_elim}
use mir.Val.{bool_byte}
use Prim.Native.Nat.{ℕ, ◌+◌, ◌<◌, ◌≤◌, min}
use native.Mathlib.Omega.{arith}
use lib.Dec.{eqb, leb, ltb}
use lib.ListN.{length, set, length-set}
use lib.Seq.{get_or-set_same, get_or-set_other}
use borrow.Author.Tests.{eqb-true, leb-true, leb-false, ltb-true, le-leb, lt-ltb, eq-eqb}
use Rattle.meaning.specs.Rows.{EdgeColumns}
use Rattle.meaning.specs.Words.{and, at, any_below}
use Rattle.laws.specs.Bools.{clash, eq?, and_of, and_yes, not_true}
use Rattle.laws.specs.Counting.{below_of, of_below}
use Rattle.missing.specs.Alone.{under_row, child_row}
use Rattle.carrying.specs.Spans.{InSpan}
use Rattle.carrying.specs.Kids.{KidsKnown}
use Rattle.carrying.specs.Children.{Sooner, ChildHolds}

module _ (left right parent : List ℕ) (y u e : ℕ) where
  -- an edge under u at y, by its cells
  pub under_of : under_row left right parent y u e ≡ true → (at parent e ≡ u) × (at left e ≤ y) × (y < at right e)
  unfolding under_row
  under_of h =
      let a : _ = and_of (eqb (at parent e) u) (and (leb (at left e) y) (ltb y (at right e))) h in
      let b : _ = and_of (leb (at left e) y) (ltb y (at right e)) a.1 in
      (eqb-true (at parent e) u a.0, leb-true (at left e) y b.0, ltb-true y (at right e) b.1)

  pub of_under : at parent e ≡ u → at left e ≤ y → y < at right e → under_row left right parent y u e ≡ true
  unfolding under_row
  of_under p l r = and_yes (eq-eqb (at parent e) u p) (and_yes (le-leb (at left e) y l) (lt-ltb y (at right e) r))

pub le_or_lt : (a b : ℕ) → (a ≤ b) ⊎ (b < a)
le_or_lt a b = go (leb a b) refl
  where
    go : (t : Bool) → leb a b ≡ t → (a ≤ b) ⊎ (b < a)
    go true e = inl (leb-true a b e)
    go false e = inr (leb-false a b e)

-- no edge row below e hangs a child below u at x, nor from x on before the end
pub record NoneYet (left right parent : List ℕ) (x u e end : ℕ) : Type 0 where
  pub none : (j y : ℕ) → j < length left → j < e → x ≤ y → (y ≡ x) ⊎ (y < end) → under_row left right parent y u j ≡ true → ⊥

module _ {left right parent : List ℕ} {x u from to : ℕ} (even : length parent ≡ length left) (span : InSpan parent u from to) where
  -- the rows before the span are not edges of u
  pub none_at_first : (end : ℕ) → NoneYet left right parent x u from end
  none_at_first end = record { none = λ j y l m h c q. absurd (omega (arith, (span.row j (omega arith) (under_of left right parent y u j q).0).0)) }

  -- nor are those after it
  module _ {e end : ℕ} (past : to ≤ e) (k : NoneYet left right parent x u e end) where
    no_child : (y : ℕ) → x ≤ y → (y ≡ x) ⊎ (y < end) → child_row left right parent y u ≡ false
    unfolding child_row
    no_child y h c = not_true (any_below (under_row left right parent y u) (length left)) (λ q. let r : _ = below_of (under_row left right parent y u) (length left) q in go r.0 r.1 r.2)
      where
        go : (j : ℕ) → j < length left → under_row left right parent y u j ≡ true → ⊥
        go j l q = k.none j y l (omega (arith, (span.row j (omega arith) (under_of left right parent y u j q).0).1)) h c q

    pub none_holds : ChildHolds left right parent x u false end
    none_holds = record { here = sym (no_child x (omega arith) (inl refl)); further = λ y h l. sym (no_child y h (inr l)) }

module _ {left right parent : List ℕ} {x u e : ℕ} where
  -- one edge row more, which does not hold at x, and an end that is not past its begin
  pub none_still : {end : ℕ} → NoneYet left right parent x u e end → false ≡ under_row left right parent x u e → (r : ℕ) → Sooner left parent x u e end r → NoneYet left right parent x u (e + 1) r
  none_still {end} k f r s = record { none = λ j y l m h c q. go j y l m h c q (eq? j e) }
    where
      sooner : (y : ℕ) → (y ≡ x) ⊎ (y < r) → (y ≡ x) ⊎ (y < end)
      sooner y (inl z) = inl z
      sooner y (inr z) = inr (omega (arith, s.before))

      here : (y : ℕ) → x ≤ y → (y ≡ x) ⊎ (y < r) → under_row left right parent y u e ≡ true → ⊥
      here y h (inl z) q = clash (ap (λ (p : ℕ). under_row left right parent p u e) (sym z) ∙ q) (sym f)
      here y h (inr z) q =
          let b : _ = under_of left right parent y u e q in
          let n : x < at left e → ⊥ = λ l. omega (arith, s.begin b.0 l, b.1) in
          ⊎_elim (λ (l : at left e ≤ x). clash (of_under left right parent x u e b.0 l (omega (arith, b.2))) (sym f)) (λ (l : x < at left e). n l) (le_or_lt (at left e) x)

      go : (j y : ℕ) → j < length left → j < e + 1 → x ≤ y → (y ≡ x) ⊎ (y < r) → under_row left right parent y u j ≡ true → (j ≡ e) ⊎ (j ≡ e → ⊥) → ⊥
      go j y l m h c q (inl z) = here y h c (ap (under_row left right parent y u) (sym z) ∙ q)
      go j y l m h c q (inr n) = k.none j y l (omega arith) h (sooner y c) q

  -- an edge that holds at x holds up to its end
  pub one_holds : e < length left → true ≡ under_row left right parent x u e → ChildHolds left right parent x u true (at right e)
  unfolding child_row
  one_holds l q =
      let b : _ = under_of left right parent x u e (sym q) in
      record {
        here = sym (of_below (under_row left right parent x u) (length left) e l (sym q));
        further = λ y h m. sym (of_below (under_row left right parent y u) (length left) e l (of_under left right parent y u e b.0 (omega (arith, b.1)) m));
      }

-- ---- the end after one edge

module _ {left parent : List ℕ} {x u e end : ℕ} where
  pub other_edge : (at parent e ≡ u → ⊥) → Sooner left parent x u e end end
  other_edge n = record { before = omega arith; begin = λ q l. absurd (n q) }

  pub begun_edge : at left e ≤ x → Sooner left parent x u e end end
  begun_edge h = record { before = omega arith; begin = λ q l. omega arith }

  pub begin_first : {r : ℕ} → r ≡ min end (at left e) → Sooner left parent x u e end r
  begin_first e = record { before = omega (arith, e); begin = λ q l. omega (arith, e) }

-- ---- what is kept

-- nothing is known at first
pub none_known : {E : EdgeColumns} {x : ℕ} {kid ends : List ℕ} → ((u : ℕ) → at ends u ≡ 0) → KidsKnown E x kid ends
none_known z = record { cell = λ u y l h k. absurd (omega (arith, z u)) }

-- what is known stays so further on
pub known_on : {E : EdgeColumns} {x : ℕ} {kid ends : List ℕ} (y : ℕ) → x ≤ y → KidsKnown E x kid ends → KidsKnown E y kid ends
known_on y h k = record { cell = λ u z l m. k.cell u z l (omega arith) }

-- the byte that is kept
pub byte_is : (b : Bool) → eqb (bool_byte b) 1 ≡ b
byte_is true = refl
byte_is false = refl

-- an answer and its end, put at their row
pub known_set : {E : EdgeColumns} {x : ℕ} {kid ends : List ℕ} (u b : ℕ) {has : Bool} {end : ℕ} → KidsKnown E x kid ends → length ends ≡ length kid → u < length kid → eqb b 1 ≡ has → ChildHolds E.left E.right E.parent x u has end → KidsKnown E x (set kid u b) (set ends u end)
known_set {E} {x} {kid} {ends} u b {has} {end} k long row q holds = record { cell = λ v y l h m. go v y (omega (arith, length-set kid u b)) h m (eq? v u) }
  where
    go : (v y : ℕ) → v < length kid → x ≤ y → y < at (set ends u end) v → (v ≡ u) ⊎ (v ≡ u → ⊥) → eqb (at (set kid u b) v) 1 ≡ child_row E.left E.right E.parent y v
    go v y l h m (inl z) =
        let a : at (set kid u b) v ≡ b = ap (at (set kid u b)) z ∙ get_or-set_same kid u b 0 row in
        let d : at (set ends u end) v ≡ end = ap (at (set ends u end)) z ∙ get_or-set_same ends u end 0 (omega arith) in
        ap (λ n. eqb n 1) a ∙ q ∙ holds.further y h (omega arith) ∙ sym (ap (child_row E.left E.right E.parent y) z)
    go v y l h m (inr n) =
        let d : at (set ends u end) v ≡ at ends v = get_or-set_other ends u v end 0 n in
        ap (λ c. eqb c 1) (get_or-set_other kid u v b 0 n) ∙ k.cell v y l h (omega arith)
