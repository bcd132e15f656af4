-- What a sweep asks of the edges: found by the rules 5 and 7 of the check, and by a sort of the edge rows.
use mathlib.Core.Path.{◌≡◌, refl, sym, ap, subst, ◌∙◌}
use mathlib.Core.Bool.{Bool, true, false}
use mathlib.Core.List.{List, [], ◌∷◌}
use mathlib.Core.Logic.{◌⊎◌, inl, inr, ⊎_elim}
use Prim.Native.Nat.{ℕ, zero, suc, ◌<◌, ◌≤◌}
use native.Mathlib.Omega.{arith}
use borrow.Author.Tests.{eq-eqb, eqb-true, leb-false, lt-ltb}
use lib.Dec.{eqb, leb, ltb}
use lib.ListN.{length, get_or}
use Rattle.meaning.specs.Words.{or, at, mem, count, index_of}
use Rattle.meaning.specs.Rows.{EdgeColumns}
use Rattle.meaning.specs.Check.{edge_broken, share, edge_shared}
use Rattle.laws.specs.Bools.{clash, or_no, and_yes, eq?}
use Rattle.laws.specs.Counting.{of_below}
use Rattle.laws.specs.Members.{at_mem, index_at, index_below}
use Rattle.laws.specs.Facts.{Distinct, nil, cons}
use Rattle.forest.specs.Passing.{count_yes, count_no, count_one, one_of}
use Rattle.tree.specs.Sweep.{Checked, Index}
use Rattle.tree.specs.TreeAt.{node_rows}
use Rattle.mend.proofs.Reading.{lt?}
use Rattle.tree.proofs.Lowering.{rows_once, row_mem, mem_row}

-- ---- the rules 5 and 7

module _ (L : ℕ) (time : List ℕ) (E : EdgeColumns) (i : ℕ) where
  -- an edge row that rule 5 does not refuse
  pub record Sound : Type 0 where
    pub parent : get_or E.parent i 0 < length time
    pub child : get_or E.child i 0 < length time
    pub wide : get_or E.left i 0 < get_or E.right i 0
    pub older : get_or time (get_or E.child i 0) 0 < get_or time (get_or E.parent i 0) 0

  pub sound : edge_broken L time E i ≡ false → Sound
  unfolding edge_broken
  sound h =
      let p : Bool = leb (length time) (at E.parent i) in
      let c : Bool = leb (length time) (at E.child i) in
      let w : Bool = leb (at E.right i) (at E.left i) in
      let t : Bool = ltb L (at E.right i) in
      let o : Bool = leb (at time (at E.parent i)) (at time (at E.child i)) in
      let x : _ = or_no p (or c (or w (or t o))) h in
      let y : _ = or_no c (or w (or t o)) x.1 in
      let z : _ = or_no w (or t o) y.1 in
      record { parent = leb-false _ _ x.0; child = leb-false _ _ y.0; wide = leb-false _ _ z.0; older = leb-false _ _ (or_no t o z.1).1 }

-- two edges of one child that rule 7 does not refuse
pub not_shared : (E : EdgeColumns) (e f : ℕ) → e < f → edge_shared E f ≡ false → get_or E.child e 0 ≡ get_or E.child f 0 → (get_or E.right e 0 ≤ get_or E.left f 0) ⊎ (get_or E.right f 0 ≤ get_or E.left e 0)
unfolding edge_shared share
not_shared E e f l h c = go (lt? (get_or E.left e 0) (get_or E.right f 0)) (lt? (get_or E.left f 0) (get_or E.right e 0))
  where
    go : (get_or E.left e 0 < get_or E.right f 0) ⊎ (get_or E.right f 0 ≤ get_or E.left e 0) → (get_or E.left f 0 < get_or E.right e 0) ⊎ (get_or E.right e 0 ≤ get_or E.left f 0) → (get_or E.right e 0 ≤ get_or E.left f 0) ⊎ (get_or E.right f 0 ≤ get_or E.left e 0)
    go (inr a) b = inr a
    go (inl a) (inr b) = inl b
    go (inl a) (inl b) = absurd (clash (of_below (λ j. share E j f) f e l (and_yes (eq-eqb _ _ c) (and_yes (lt-ltb _ _ a) (lt-ltb _ _ b)))) h)

-- edges that rules 1, 5 and 7 do not refuse
pub checked : (L : ℕ) (time : List ℕ) (E : EdgeColumns) → length E.left ≡ length E.child → length E.right ≡ length E.child → length E.parent ≡ length E.child → ((e : ℕ) → e < length E.child → edge_broken L time E e ≡ false) → ((e : ℕ) → e < length E.child → edge_shared E e ≡ false) → Checked time E.left E.right E.parent E.child (length time)
checked L time E el er ep five seven = record {
  lefts = el;
  rights = er;
  parents = ep;
  parent = λ e h. (sound L time E e (five e h)).parent;
  child = λ e h. (sound L time E e (five e h)).child;
  wide = λ e h. (sound L time E e (five e h)).wide;
  older = λ e h. (sound L time E e (five e h)).older;
  apart = λ e f he hf n c. ⊎_elim
      (λ (l : e < f). not_shared E e f l (seven f hf) c)
      (λ (l : f ≤ e). ⊎_elim (λ a. inr a) (λ a. inl a) (not_shared E f e (below e f l n) (seven e he) (sym c)))
      (lt? e f);
}
  where
    below : (e f : ℕ) → f ≤ e → (e ≡ f → ⊥) → f < e
    below e f l n = ⊎_elim (λ (q : e ≡ f). absurd (n q)) (λ m. omega arith) (eq? e f)

-- ---- a sorted permutation of the rows

-- a number that stands at two places is counted twice
count_twice : (b : List ℕ) (j k : ℕ) → j < k → k < length b → get_or b j 0 ≡ get_or b k 0 → 2 ≤ count (eqb (get_or b k 0)) b
count_twice [] j k l h e = absurd (omega arith)
count_twice (a ∷ b) zero zero l h e = absurd (omega arith)
count_twice (a ∷ b) zero (suc k) l h e = let q : eqb (get_or b k 0) a ≡ true = eq-eqb _ _ (sym e) in omega (arith, count_yes (eqb (get_or b k 0)) a b q, count_one (eqb (get_or b k 0)) (get_or b k 0) b (at_mem b k (omega arith)) (eq-eqb (get_or b k 0) (get_or b k 0) refl))
count_twice (a ∷ b) (suc j) zero l h e = absurd (omega arith)
count_twice (a ∷ b) (suc j) (suc k) l h e = go (eqb (get_or b k 0) a) refl (count_twice b j k (omega arith) (omega arith) e)
  where
    go : (t : Bool) → eqb (get_or b k 0) a ≡ t → 2 ≤ count (eqb (get_or b k 0)) b → 2 ≤ count (eqb (get_or b k 0)) (a ∷ b)
    go true q ih = omega (arith, count_yes (eqb (get_or b k 0)) a b q)
    go false q ih = omega (arith, count_no (eqb (get_or b k 0)) a b q)

-- in a list without repeats no number is counted twice
count_once : (v : ℕ) (l : List ℕ) → Distinct l → count (eqb v) l ≤ 1
unfolding count
count_once v [] nil = omega arith
count_once v (a ∷ l) (cons m d) = go (eqb v a) refl (count_once v l d)
  where
    none : v ≡ a → (t : ℕ) → count (eqb v) l ≡ t → count (eqb v) l ≤ 0
    none e t q = ⊎_elim (λ (p : 0 < count (eqb v) l). let r : _ = one_of (eqb v) l (omega arith) in absurd (clash (subst (λ (y : ℕ). mem y l ≡ true) (sym (eqb-true v r.0 r.2) ∙ e) r.1) m)) (λ p. p) (lt? 0 (count (eqb v) l))

    go : (t : Bool) → eqb v a ≡ t → count (eqb v) l ≤ 1 → count (eqb v) (a ∷ l) ≤ 1
    go true q ih = omega (arith, count_yes (eqb v) a l q, none (eqb-true v a q) (count (eqb v) l) refl)
    go false q ih = omega (arith, count_no (eqb v) a l q)

-- a list with the counts of the rows below m, sorted by key, is an order of them
pub index : (key b : List ℕ) (m : ℕ) → ((v : ℕ) → count (eqb v) b ≡ count (eqb v) (node_rows m)) → ((j k : ℕ) → j < k → k < length b → get_or key (get_or b j 0) 0 ≤ get_or key (get_or b k 0) 0) → Index key b m
index key b m same up = record {
  rows = λ k h. row_mem (get_or b k 0) m (has (get_or b k 0) (node_rows m) (omega (arith, same (get_or b k 0), count_one (eqb (get_or b k 0)) (get_or b k 0) b (at_mem b k h) (eq-eqb (get_or b k 0) (get_or b k 0) refl))));
  once = λ j k hj hk e. ⊎_elim
      (λ (l : j < k). absurd (twice j k l hk e))
      (λ (l : k ≤ j). ⊎_elim (λ (q : j ≡ k). q) (λ (n : j ≡ k → ⊥). absurd (twice k j (omega arith) hj (sym e))) (eq? j k))
      (lt? j k);
  all = λ e h. let i : mem e b ≡ true = has e b (omega (arith, same e, count_one (eqb e) e (node_rows m) (mem_row e m h) (eq-eqb e e refl))) in (index_of e b, index_below e b i, index_at e b i);
  sorted = λ j k l h. ⊎_elim (λ (q : j ≡ k). omega (arith, ap (λ (y : ℕ). get_or key (get_or b y 0) 0) q)) (λ (n : j ≡ k → ⊥). up j k (omega arith) h) (eq? j k);
}
  where
    has : (v : ℕ) (l : List ℕ) → 1 ≤ count (eqb v) l → mem v l ≡ true
    has v l h = let r : _ = one_of (eqb v) l h in subst (λ (y : ℕ). mem y l ≡ true) (sym (eqb-true v r.0 r.2)) r.1

    twice : (j k : ℕ) → j < k → k < length b → get_or b j 0 ≡ get_or b k 0 → ⊥
    twice j k l h e = omega (arith, count_twice b j k l h e, same (get_or b k 0), count_once (get_or b k 0) (node_rows m) (rows_once m))
