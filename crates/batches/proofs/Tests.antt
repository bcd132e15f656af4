-- What the test of a batch row comes to, one law for each way out of the code that tests it.
use mathlib.Core.Path.{◌≡◌, refl, sym, ap, ◌∙◌}
use mathlib.Core.Bool.{Bool, true, false, not}
use mathlib.Core.List.{List}
use Prim.Native.Nat.{ℕ, ◌+◌, ◌-◌, ◌<◌, ◌≤◌}
use native.Mathlib.Omega.{arith}
use lib.Dec.{leb, ltb}
use borrow.Author.Tests.{lt-ltb, le-ltb, le-leb, lt-leb, ltb-true, ltb-false}
use Rattle.std.specs.Prelude.{Some, None, min}
use Rattle.meaning.specs.Words.{or, at, mem, lowest, lowest_row, row_below}
use Rattle.meaning.specs.Rows.{NodeColumns, EdgeColumns, MutationColumns}
use Rattle.meaning.specs.Join.{batch_edge, batch_mutation, time_in}
use Rattle.std.proofs.Math.Nat.{min-eq_left, min-eq_right}
use Rattle.laws.specs.Bools.{or_left, or_right}
use Rattle.laws.specs.Counting.{lowest_le, before_lowest, lowest_passes, lowest_none, lowest_is, row_some, lowest_row-some, lowest_row-none}

-- ---- two tests together

module _ (f g : ℕ → Bool) (n : ℕ) where
  -- the lower of two lowest rows
  abbrev pub either : ℕ → Bool
  either i = or (f i) (g i)

  neither : (j : ℕ) → j < lowest f n → j < lowest g n → either j ≡ false
  neither j a b = simp (before_lowest f n j a, before_lowest g n j b)

  pub lowest_first : lowest f n < lowest g n → lowest f n ≡ lowest either n
  lowest_first h = sym (lowest_is either n (lowest f n) (omega (arith, lowest_le g n)) (or_left (g (lowest f n)) (lowest_passes f n (omega (arith, lowest_le g n)))) (λ j k. neither j k (omega arith)))

  pub lowest_second : lowest g n ≤ lowest f n → lowest g n ≡ lowest either n
  lowest_second h = go (ltb (lowest g n) n) refl
    where
      go : (t : Bool) → ltb (lowest g n) n ≡ t → lowest g n ≡ lowest either n
      go true e = let l : lowest g n < n = ltb-true _ _ e in sym (lowest_is either n (lowest g n) l (or_right (f (lowest g n)) (g (lowest g n)) (lowest_passes g n l)) (λ j k. neither j (omega arith) k))
      go false e =
          let l : n ≤ lowest g n = ltb-false _ _ e in
          let q : lowest g n ≡ n = omega (arith, lowest_le g n) in
          q ∙ sym (lowest_none either n (λ j k. neither j (omega arith) (omega arith)))

-- 22 by two searches: for a row whose birth the base has, and for one that an earlier row has
module _ (f g : ℕ → Bool) (n : ℕ) where
  pub either_second : None ≡ lowest_row f n → lowest_row g n ≡ lowest_row (either f g n) n
  either_second e =
      let w : lowest f n ≡ n = lowest_row-none f n e in
      ap (row_below n) (lowest_second f g n (omega (arith, lowest_le g n, w)))

  pub either_first : None ≡ lowest_row g n → lowest_row f n ≡ lowest_row (either f g n) n
  either_first e =
      let w : lowest g n ≡ n = lowest_row-none g n e in
      go (ltb (lowest f n) n) refl w
    where
      go : (t : Bool) → ltb (lowest f n) n ≡ t → lowest g n ≡ n → lowest_row f n ≡ lowest_row (either f g n) n
      go true q w = let l : lowest f n < n = ltb-true _ _ q in ap (row_below n) (lowest_first f g n (omega (arith, w)))
      go false q w =
          let l : n ≤ lowest f n = ltb-false _ _ q in
          let k : lowest f n ≡ lowest g n = omega (arith, w, lowest_le f n) in
          ap (row_below n) (k ∙ lowest_second f g n (omega (arith, k)))

  pub either_lower : (a b : ℕ) → Some a ≡ lowest_row f n → Some b ≡ lowest_row g n → Some (min a b) ≡ lowest_row (either f g n) n
  either_lower a b p q =
      let v : (a < n) × (f a ≡ true) × (a ≡ lowest f n) = lowest_row-some f n a p in
      let w : (b < n) × (g b ≡ true) × (b ≡ lowest g n) = lowest_row-some g n b q in
      go (ltb a b) refl v.0 v.2 w.0 w.2
    where
      some_lowest : (i : ℕ) → i ≡ lowest (either f g n) n → i < n → Some i ≡ lowest_row (either f g n) n
      some_lowest i e l = let k : lowest (either f g n) n < n = omega (arith, e) in ap (λ (x : ℕ). Some x) e ∙ sym (row_some k)

      go : (t : Bool) → ltb a b ≡ t → a < n → a ≡ lowest f n → b < n → b ≡ lowest g n → Some (min a b) ≡ lowest_row (either f g n) n
      go true e h v k w =
          let l : a ≤ b = omega (arith, ltb-true a b e) in
          let m : min a b ≡ lowest (either f g n) n = min-eq_left l ∙ v ∙ lowest_first f g n (omega (arith, ltb-true a b e, v, w)) in
          let z : min a b ≡ a = min-eq_left l in some_lowest (min a b) m (omega (arith, z))
      go false e h v k w =
          let l : b ≤ a = ltb-false a b e in
          let m : min a b ≡ lowest (either f g n) n = min-eq_right l ∙ w ∙ lowest_second f g n (omega (arith, l, v, w)) in
          let z : min a b ≡ b = min-eq_right l in some_lowest (min a b) m (omega (arith, z))

-- ---- rule 21

pub sum_passes : (most a b : ℕ) → most < a → true ≡ ltb most (a + b)
sum_passes most a b h = sym (lt-ltb most (a + b) (omega arith))

pub sum_differs : (most a b : ℕ) → a ≤ most → ltb (most - a) b ≡ ltb most (a + b)
sum_differs most a b h = go (ltb (most - a) b) refl
  where
    go : (t : Bool) → ltb (most - a) b ≡ t → t ≡ ltb most (a + b)
    go true e = sym (lt-ltb most (a + b) (omega (arith, ltb-true (most - a) b e)))
    go false e = sym (le-ltb most (a + b) (omega (arith, ltb-false (most - a) b e)))

-- ---- rule 23

module _ (base birth : List ℕ) (b : ℕ) where
  pub in_base : mem b base ≡ true → false ≡ not (or (mem b base) (mem b birth))
  in_base h = simp h

  pub not_in_base : mem b base ≡ false → not (mem b birth) ≡ not (or (mem b base) (mem b birth))
  not_in_base h = simp h

module _ (L : ℕ) (base N : NodeColumns) (E : EdgeColumns) (i : ℕ) where
  pub child_unborn : not (mem (at E.child i) N.birth) ≡ true → batch_edge L base N E i ≡ true
  unfolding batch_edge
  child_unborn a = simp a

  module _ (a : not (mem (at E.child i) N.birth) ≡ false) where
    pub parent_nowhere : not (or (mem (at E.parent i) base.birth) (mem (at E.parent i) N.birth)) ≡ true → batch_edge L base N E i ≡ true
    unfolding batch_edge
    parent_nowhere b = simp (a, b)

    module _ (b : not (or (mem (at E.parent i) base.birth) (mem (at E.parent i) N.birth)) ≡ false) where
      pub batch_empty : at E.right i ≤ at E.left i → batch_edge L base N E i ≡ true
      unfolding batch_edge
      batch_empty c = simp (a, b, le-leb _ _ c)

      module _ (c : at E.left i < at E.right i) where
        pub batch_past : L < at E.right i → batch_edge L base N E i ≡ true
        unfolding batch_edge
        batch_past d = simp (a, b, lt-leb _ _ c, lt-ltb _ _ d)

        pub batch_ages : at E.right i ≤ L → batch_edge L base N E i ≡ leb (time_in base N (at E.parent i)) (time_in base N (at E.child i))
        unfolding batch_edge
        batch_ages d = simp (a, b, lt-leb _ _ c, le-ltb _ _ d)

-- ---- rule 25

module _ (sites : ℕ) (birth : List ℕ) (M : MutationColumns) (i : ℕ) where
  pub batch_no_site : sites ≤ at M.site i → batch_mutation sites birth M i ≡ true
  unfolding batch_mutation
  batch_no_site a = simp (le-leb _ _ a)

  pub batch_node : at M.site i < sites → batch_mutation sites birth M i ≡ not (mem (at M.node i) birth)
  unfolding batch_mutation
  batch_node a = simp (lt-leb _ _ a)
