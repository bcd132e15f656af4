-- Where each site's mutations stand older first, none is above an earlier one: an ancestor is older.
use mathlib.Core.Path.{◌≡◌, refl, sym, ap}
use mathlib.Core.Bool.{Bool, true, false, not}
use mathlib.Core.List.{List}
use mathlib.Core.Logic.{⊎_elim}
use Prim.Native.Nat.{ℕ, zero, suc, ◌+◌, ◌<◌, ◌≤◌}
use native.Mathlib.Omega.{arith}
use lib.Dec.{eqb, ltb}
use lib.ListN.{length}
use borrow.Author.Tests.{eqb-true, ltb-false}
use Rattle.std.specs.Prelude.{None}
use Rattle.std.specs.List.{list_any, range_with_len}
use Rattle.meaning.specs.Words.{and, at, any_below, lowest_row}
use Rattle.meaning.specs.Rows.{EdgeColumns}
use Rattle.meaning.specs.Forest.{Ages, ancestor}
use Rattle.laws.specs.Bools.{bool_ext, clash, eq?, and_of, not_true}
use Rattle.laws.specs.Counting.{below_of, of_below, lowest_found}
use Rattle.bridge.specs.Parents.{parent_row}
use Rattle.ancestry.specs.Column.{Rising}
use Rattle.overtaking.specs.Sites.{ends_site, younger_first, some_younger_first}
use Rattle.overtaking.specs.Overtaken.{over, overtaken, overtaken_row, Lined}
use Rattle.overtaking.proofs.Overtaking.{stays_in, not_falling}
use Rattle.overtaking.proofs.Stamping.{ancestor_older}

-- ---- one row, and row after row

module _ (time site node : List ℕ) where
  pub last_older : (i : ℕ) (e : Bool) → e ≡ ends_site site i → e ≡ true → not e ≡ younger_first time site node i
  unfolding younger_first
  last_older i e h q = rw (sym h) (rw q refl)

  pub inner_older : (i : ℕ) (e : Bool) → e ≡ ends_site site i → e ≡ false → ltb (at time (at node i)) (at time (at node (i + 1))) ≡ younger_first time site node i
  unfolding younger_first
  inner_older i e h q = let p : i + 1 ≡ suc i = omega arith in rw (sym h) (rw q (ap (λ j. ltb (at time (at node i)) (at time (at node j))) p))

module _ (f : ℕ → Bool) where
  hit_of : (n a : ℕ) → list_any f (range_with_len a n) ≡ true → (j : ℕ) × (j < a + n) × (f j ≡ true)
  hit_of zero a h = absurd (clash h refl)
  hit_of (suc n) a h = go (f a) refl (λ q. hit_of n (a + 1) q)
    where
      go : (t : Bool) → f a ≡ t → (list_any f (range_with_len (a + 1) n) ≡ true → (j : ℕ) × (j < a + 1 + n) × (f j ≡ true)) → (j : ℕ) × (j < a + suc n) × (f j ≡ true)
      go true e ih = (a, omega arith, e)
      go false e ih = let r : _ = ih (rw e at h) in (r.0, omega (arith, r.1), r.2)

  of_hit : (n a j : ℕ) → a ≤ j → j < a + n → f j ≡ true → list_any f (range_with_len a n) ≡ true
  of_hit zero a j k l h = absurd (omega arith)
  of_hit (suc n) a j k l h = go (f a) refl (λ p q. of_hit n (a + 1) j p q h)
    where
      go : (t : Bool) → f a ≡ t → (a + 1 ≤ j → j < a + 1 + n → list_any f (range_with_len (a + 1) n) ≡ true) → list_any f (range_with_len a (suc n)) ≡ true
      go true e ih = rw e refl
      go false e ih = rw e (⊎_elim (λ (q : a ≡ j). absurd (clash (rw (sym q) at h) e)) (λ (q : a ≡ j → ⊥). ih (omega arith) (omega arith)) (eq? a j))

-- the rows gone over are all
pub some_in_range : (time site node : List ℕ) → list_any (younger_first time site node) (range_with_len 0 (length site)) ≡ some_younger_first time site node
unfolding some_younger_first
some_in_range time site node = bool_ext
    (λ h. let r : _ = hit_of (younger_first time site node) (length site) 0 h in of_below (younger_first time site node) (length site) r.0 (omega (arith, r.1)) r.2)
    (λ h. let r : _ = below_of (younger_first time site node) (length site) h in of_hit (younger_first time site node) (length site) 0 r.0 (omega arith) (omega (arith, r.1)) r.2)

-- ---- none is above an earlier one

module _ (time : List ℕ) {site node : List ℕ} {sites nodes : ℕ} (ok : Lined sites nodes site node) (h : some_younger_first time site node ≡ false) where
  -- the next row of the site is not older
  next_older : (i : ℕ) → suc i < length site → at site i ≡ at site (suc i) → at time (at node (suc i)) ≤ at time (at node i)
  unfolding some_younger_first younger_first
  next_older i l e =
      let y : younger_first time site node i ≡ false = not_true (younger_first time site node i) (λ z. clash (of_below (younger_first time site node) (length site) i (omega arith) z) h) in
      ltb-false (at time (at node i)) (at time (at node (suc i))) (rw (stays_in site i l e) at y)

  all_older : (j i : ℕ) → j ≤ i → i < length site → at site j ≡ at site i → at time (at node i) ≤ at time (at node j)
  all_older j zero k l e = let q : j ≡ 0 = omega arith in omega (arith, ap (λ j. at time (at node j)) q)
  all_older j (suc i) k l e = ⊎_elim
      (λ (q : j ≡ suc i). omega (arith, ap (λ j. at time (at node j)) q))
      (λ (q : j ≡ suc i → ⊥).
      let a : at site j ≤ at site i = not_falling site sites nodes node ok j i (omega arith) (omega arith) in
      let b : at site i ≤ at site (suc i) = ok.rise i l in
      omega (arith, next_older i l (omega arith), all_older j i (omega arith) (omega arith) (omega arith)))
      (eq? j (suc i))

  module _ {E : EdgeColumns} (position : List ℕ) (up : Rising time E) (young : (i : ℕ) → at time i < Ages) where
    free : (i : ℕ) → i < length site → overtaken E position site node i ≡ false
    unfolding overtaken over
    free i l = not_true (any_below f i) (λ g.
        let r : _ = below_of f i g in
        let s : _ = and_of (eqb (at site r.0) (at site i)) (ancestor (parent_row E (at position (at site i))) (at node i) (at node r.0)) r.2 in
        let q : at site r.0 ≡ at site i = eqb-true (at site r.0) (at site i) s.0 in
        absurd (omega (arith, all_older r.0 i (omega (arith, r.1)) l q, ancestor_older up (at position (at site i)) young (at node i) (at node r.0) s.1)))
      where
        f : ℕ → Bool
        f j = and (eqb (at site j) (at site i)) (ancestor (parent_row E (at position (at site i))) (at node i) (at node j))

    -- no mutation is above an earlier one
    pub none_overtaken : None ≡ lowest_row (overtaken E position site node) (length site)
    none_overtaken = lowest_found (overtaken E position site node) (length site) None free

    -- and so is no row that stands beside one
    pub no_row_overtaken : (row : List ℕ) → None ≡ lowest_row (overtaken_row E position site node row) (length site)
    unfolding overtaken_row
    no_row_overtaken row = lowest_found (overtaken_row E position site node row) (length site) None (λ k l. not_true _ (λ g. let r : _ = below_of (λ i. and (eqb (at row i) k) (overtaken E position site node i)) (length site) g in clash (and_of (eqb (at row r.0) k) (overtaken E position site node r.0) r.2).1 (free r.0 r.1)))
