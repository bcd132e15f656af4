-- Rule 10 row by row: where a site ends, and which rows are above the mutations gone over.
use mathlib.Core.Path.{◌≡◌, refl, sym, ap, ◌∙◌}
use mathlib.Core.Bool.{Bool, true, false, not}
use mathlib.Core.List.{List}
use mathlib.Core.Logic.{⊎_elim}
use Prim.Native.Nat.{ℕ, zero, suc, ◌+◌, ◌<◌, ◌≤◌}
use native.Mathlib.Omega.{arith}
use lib.Dec.{eqb, leb}
use lib.ListN.{length}
use borrow.Author.Tests.{eq-eqb, eqb-true, eqb-false, le-leb, lt-leb, leb-false}
use Rattle.meaning.specs.Words.{and, or, at, any_below}
use Rattle.meaning.specs.Rows.{EdgeColumns}
use Rattle.meaning.specs.Forest.{ancestor}
use Rattle.laws.specs.Bools.{eq?, and_of, or_no, or_right, not_of, not_no, not_true}
use Rattle.laws.specs.Counting.{below_hit, below_miss, below_of}
use Rattle.bridge.specs.Parents.{parent_row}
use Rattle.overtaking.specs.Sites.{ends_site}
use Rattle.overtaking.specs.Overtaken.{over, Lined}

-- ---- where a site ends

module _ (site : List ℕ) where
  pub last_ends : (i : ℕ) → i + 1 ≡ length site → eqb (i + 1) (length site) ≡ ends_site site i
  unfolding ends_site
  last_ends i h = rw (le-leb (length site) (suc i) (omega arith)) (eq-eqb (i + 1) (length site) h)

  pub inner_ends : (i : ℕ) → i < length site → (i + 1 ≡ length site → ⊥) → not (eqb (at site i) (at site (i + 1))) ≡ ends_site site i
  unfolding ends_site
  inner_ends i l n =
      let q : i + 1 ≡ suc i = omega arith in
      rw (lt-leb (length site) (suc i) (omega arith)) (ap (λ j. not (eqb (at site i) (at site j))) q)

  -- a row that does not end its site has the site of the next row
  pub goes_on : (i : ℕ) → ends_site site i ≡ false → (suc i < length site) × (at site i ≡ at site (suc i))
  unfolding ends_site
  goes_on i h =
      let r : _ = or_no (leb (length site) (suc i)) (not (eqb (at site i) (at site (suc i)))) h in
      (leb-false (length site) (suc i) r.0, eqb-true (at site i) (at site (suc i)) (not_no (eqb (at site i) (at site (suc i))) r.1))

  -- a row that has the site of the next row does not end its site
  pub stays_in : (i : ℕ) → suc i < length site → at site i ≡ at site (suc i) → ends_site site i ≡ false
  unfolding ends_site
  stays_in i l e = rw (lt-leb (length site) (suc i) l) (rw (eq-eqb (at site i) (at site (suc i)) e))

  pub ends_of : (i : ℕ) → ends_site site i ≡ true → suc i < length site → at site i ≡ at site (suc i) → ⊥
  unfolding ends_site
  ends_of i h l = eqb-false (at site i) (at site (suc i)) (not_of (eqb (at site i) (at site (suc i))) (rw (lt-leb (length site) (suc i) l) at h))

  module _ (sites nodes : ℕ) (node : List ℕ) (ok : Lined sites nodes site node) where
    pub not_falling : (j i : ℕ) → j ≤ i → i < length site → at site j ≤ at site i
    not_falling j zero h l = let q : j ≡ 0 = omega arith in omega (arith, ap (at site) q)
    not_falling j (suc i) h l = ⊎_elim
        (λ (q : j ≡ suc i). omega (arith, ap (at site) q))
        (λ (q : j ≡ suc i → ⊥). omega (arith, not_falling j i (omega arith) (omega arith), ok.rise i l))
        (eq? j (suc i))

    -- after a row that ends its site, all rows before have lower sites
    pub lower_before : (i : ℕ) → ends_site site i ≡ true → suc i < length site → (j : ℕ) → j < suc i → at site j < at site (suc i)
    lower_before i h l j k = omega (arith, ends_of i h l, not_falling j i (omega arith) (omega arith), ok.rise i l)

-- ---- the rows above the mutations gone over

module _ (E : EdgeColumns) (position site node : List ℕ) where
  -- one more mutation of the site
  pub over_next : (s i v : ℕ) → at site i ≡ s → over E position site node s (suc i) v ≡ or (over E position site node s i v) (ancestor (parent_row E (at position s)) v (at node i))
  unfolding over
  over_next s i v e = go (ancestor (parent_row E (at position s)) v (at node i)) refl
    where
      f : ℕ → Bool
      f j = and (eqb (at site j) s) (ancestor (parent_row E (at position s)) v (at node j))

      go : (t : Bool) → ancestor (parent_row E (at position s)) v (at node i) ≡ t → any_below f (suc i) ≡ or (any_below f i) t
      go true a = below_hit f i (rw (eq-eqb (at site i) s e) a) ∙ sym (or_right (any_below f i) true refl)
      go false a = below_miss f i (rw (eq-eqb (at site i) s e) a) ∙ or_false (any_below f i)
        where
          or_false : (b : Bool) → b ≡ or b false
          or_false true = refl
          or_false false = refl

  -- none where all rows before have lower sites
  pub over_none : (s i v : ℕ) → ((j : ℕ) → j < i → at site j < s) → over E position site node s i v ≡ false
  unfolding over
  over_none s i v h =
      not_true (any_below f i) (λ g.
      let r : _ = below_of f i g in
      let q : at site r.0 ≡ s = eqb-true (at site r.0) s (and_of _ _ r.2).0 in
      absurd (omega (arith, h r.0 r.1)))
    where
      f : ℕ → Bool
      f j = and (eqb (at site j) s) (ancestor (parent_row E (at position s)) v (at node j))
