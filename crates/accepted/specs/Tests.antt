-- The rules' tests of one row as facts: a row that is not broken, and back.
use Rattle.std.specs.Prelude.{◌≡◌, Bool, not, List, eqb, ltb, length}
use Rattle.std.proofs.Math.Path.{refl}
use Rattle.std.proofs.Common.{ap, arith}
use Rattle.std.proofs.Math.Bool.{true, false}
use Prim.Native.Nat.{ℕ, zero, suc, ◌<◌, ◌≤◌}
use Rattle.std.proofs.Math.Dec.{leb}
use borrow.Author.Tests.{eqb-true, eqb-false, eq-eqb, ne_eqb, ltb-true, ltb-false, lt-ltb, le-ltb, leb-true, leb-false, lt-leb}
use Rattle.meaning.specs.Words.{or, at, mem, any_below, lex}
use Rattle.meaning.specs.Rows.{NodeColumns, EdgeColumns, MutationColumns, Edge}
use Rattle.meaning.specs.Forest.{parent_in, ancestor}
use Rattle.meaning.specs.Answer.{longest}
use Rattle.meaning.specs.Check.{repeated, edge_broken, key_of, edge_unordered, share, edge_shared, not_above, site_broken, falls, mutation_broken, overtakes, mutation_above, sample_unknown, length_broken}
use Rattle.laws.specs.Bools.{clash, and_of, and_yes, or_no, not_no, not_true}
use Rattle.laws.specs.Counting.{below_of, of_below}

pub no_or : {a b : Bool} → a ≡ false → b ≡ false → or a b ≡ false
no_or e f = rw e f

-- some row below n passes: none does where the answer is no, and back
pub below_no : (f : ℕ → Bool) (n : ℕ) → any_below f n ≡ false → (j : ℕ) → j < n → f j ≡ false
below_no f n h j l = not_true (f j) (λ e. clash (of_below f n j l e) h)

pub no_below : (f : ℕ → Bool) (n : ℕ) → ((j : ℕ) → j < n → f j ≡ false) → any_below f n ≡ false
no_below f n h = not_true (any_below f n) (λ e. let r : _ = below_of f n e in clash r.2 (h r.0 r.1))

-- ---- 3

pub record LengthRight (L : ℕ) : Type 0 where
  pub some_length : 0 < L
  pub not_over : L ≤ longest

pub length_right : (L : ℕ) → length_broken L ≡ false → LengthRight L
unfolding length_broken
length_right L h =
    let p : _ = or_no (eqb L 0) (ltb longest L) h in
    let z : L ≡ 0 → ⊥ = eqb-false L 0 p.0 in
    record { some_length = omega arith; not_over = ltb-false longest L p.1 }

pub of_length : (L : ℕ) → LengthRight L → length_broken L ≡ false
unfolding length_broken
of_length L h = no_or (ne_eqb L 0 (λ e. omega (arith, h.some_length))) (le-ltb longest L h.not_over)

-- ---- 4 and 12

pub not_repeated : (l : List ℕ) (i : ℕ) → repeated l i ≡ false → (j : ℕ) → j < i → at l j ≡ at l i → ⊥
unfolding repeated
not_repeated l i h j k e = eqb-false (at l j) (at l i) (below_no (λ j. eqb (at l j) (at l i)) i h j k) e

pub of_not_repeated : (l : List ℕ) (i : ℕ) → ((j : ℕ) → j < i → at l j ≡ at l i → ⊥) → repeated l i ≡ false
unfolding repeated
of_not_repeated l i h = no_below (λ j. eqb (at l j) (at l i)) i (λ j k. ne_eqb (at l j) (at l i) (h j k))

-- ---- 5

pub record EdgeRight (L : ℕ) (time : List ℕ) (E : EdgeColumns) (i : ℕ) : Type 0 where
  pub parent_row : at E.parent i < length time
  pub child_row-is : at E.child i < length time
  pub some_position : at E.left i < at E.right i
  pub within : at E.right i ≤ L
  pub older : at time (at E.child i) < at time (at E.parent i)

module _ (L : ℕ) (time : List ℕ) (E : EdgeColumns) (i : ℕ) where
  pub edge_right : edge_broken L time E i ≡ false → EdgeRight L time E i
  unfolding edge_broken
  edge_right h =
      let a : _ = or_no _ _ h in
      let b : _ = or_no _ _ a.1 in
      let c : _ = or_no _ _ b.1 in
      let d : _ = or_no _ _ c.1 in
      record {
        parent_row = leb-false (length time) (at E.parent i) a.0;
        child_row-is = leb-false (length time) (at E.child i) b.0;
        some_position = leb-false (at E.right i) (at E.left i) c.0;
        within = ltb-false L (at E.right i) d.0;
        older = leb-false (at time (at E.parent i)) (at time (at E.child i)) d.1;
      }

  pub of_edge : EdgeRight L time E i → edge_broken L time E i ≡ false
  unfolding edge_broken
  of_edge h =
      no_or (lt-leb (length time) (at E.parent i) h.parent_row)
      (no_or (lt-leb (length time) (at E.child i) h.child_row-is)
      (no_or (lt-leb (at E.right i) (at E.left i) h.some_position)
      (no_or (le-ltb L (at E.right i) h.within)
      (lt-leb (at time (at E.parent i)) (at time (at E.child i)) h.older))))

-- ---- 6

pub in_order : (N : NodeColumns) (E : EdgeColumns) (i : ℕ) → edge_unordered N E (suc i) ≡ false → lex (key_of N E i) (key_of N E (suc i)) ≡ true
unfolding edge_unordered
in_order N E i h = not_no (lex (key_of N E i) (key_of N E (suc i))) h

pub of_order : (N : NodeColumns) (E : EdgeColumns) (i : ℕ) → ((j : ℕ) → j < i → lex (key_of N E j) (key_of N E i) ≡ true) → edge_unordered N E i ≡ false
unfolding edge_unordered
of_order N E zero h = refl
of_order N E (suc i) h = ap not (h i (omega arith))

-- ---- 7

-- row i of the edges holds at x
pub record Holds (E : EdgeColumns) (i x : ℕ) : Type 0 where
  pub begun : at E.left i ≤ x
  pub not_over : x < at E.right i

module _ (E : EdgeColumns) (i : ℕ) where
  pub not_shared : edge_shared E i ≡ false → (j x : ℕ) → j < i → at E.child j ≡ at E.child i → Holds E j x → Holds E i x → ⊥
  unfolding edge_shared share
  not_shared h j x l e p q = clash
      (and_yes (eq-eqb (at E.child j) (at E.child i) e)
      (and_yes (lt-ltb (at E.left j) (at E.right i) (omega arith)) (lt-ltb (at E.left i) (at E.right j) (omega arith))))
      (below_no (λ j. share E j i) i h j l)

  -- two stretches that each begin before the other ends meet where the later one begins
  pub of_not_shared : at E.left i < at E.right i → ((j : ℕ) → j < i → at E.left j < at E.right j) → ((j x : ℕ) → j < i → at E.child j ≡ at E.child i → Holds E j x → Holds E i x → ⊥) → edge_shared E i ≡ false
  unfolding edge_shared share
  of_not_shared a b h = no_below (λ j. share E j i) i (λ j l. not_true (share E j i) (λ e. meet j l e))
    where
      at_later : (j : ℕ) → j < i → at E.child j ≡ at E.child i → at E.left j < at E.right i → at E.left i < at E.right j → (t : Bool) → leb (at E.left i) (at E.left j) ≡ t → ⊥
      at_later j l k p q true z = h j (at E.left j) l k (record { begun = omega arith; not_over = b j l }) (record { begun = leb-true (at E.left i) (at E.left j) z; not_over = p })
      at_later j l k p q false z = h j (at E.left i) l k (record { begun = omega (arith, leb-false (at E.left i) (at E.left j) z); not_over = q }) (record { begun = omega arith; not_over = a })

      meet : (j : ℕ) → j < i → share E j i ≡ true → ⊥
      meet j l e =
          let c : _ = and_of (eqb (at E.child j) (at E.child i)) _ e in
          let d : _ = and_of (ltb (at E.left j) (at E.right i)) _ c.1 in
          at_later j l (eqb-true (at E.child j) (at E.child i) c.0) (ltb-true (at E.left j) (at E.right i) d.0) (ltb-true (at E.left i) (at E.right j) d.1) (leb (at E.left i) (at E.left j)) refl

-- ---- 8

module _ (L : ℕ) (position : List ℕ) where
  pub site_inside : (i : ℕ) → site_broken L position i ≡ false → at position i < L
  unfolding site_broken
  site_inside i h = leb-false L (at position i) (or_no (leb L (at position i)) (not_above position i) h).0

  pub site_above : (i : ℕ) → site_broken L position (suc i) ≡ false → at position i < at position (suc i)
  unfolding site_broken not_above
  site_above i h = leb-false (at position (suc i)) (at position i) (or_no (leb L (at position (suc i))) (not_above position (suc i)) h).1

  pub of_site : (i : ℕ) → at position i < L → ((j : ℕ) → j < i → at position j < at position i) → site_broken L position i ≡ false
  unfolding site_broken not_above
  of_site zero l h = no_or (lt-leb L (at position 0) l) refl
  of_site (suc i) l h = no_or (lt-leb L (at position (suc i)) l) (lt-leb (at position (suc i)) (at position i) (h i (omega arith)))

-- ---- 9

module _ (sites nodes : ℕ) (M : MutationColumns) where
  pub site_row : (i : ℕ) → mutation_broken sites nodes M i ≡ false → at M.site i < sites
  unfolding mutation_broken
  site_row i h = leb-false sites (at M.site i) (or_no (leb sites (at M.site i)) _ h).0

  pub node_row : (i : ℕ) → mutation_broken sites nodes M i ≡ false → at M.node i < nodes
  unfolding mutation_broken
  node_row i h = leb-false nodes (at M.node i) (or_no (leb nodes (at M.node i)) _ (or_no (leb sites (at M.site i)) _ h).1).0

  pub not_falling : (i : ℕ) → mutation_broken sites nodes M (suc i) ≡ false → at M.site i ≤ at M.site (suc i)
  unfolding mutation_broken falls
  not_falling i h = ltb-false (at M.site (suc i)) (at M.site i) (or_no (leb nodes (at M.node (suc i))) _ (or_no (leb sites (at M.site (suc i))) _ h).1).1

  pub of_mutation : (i : ℕ) → at M.site i < sites → at M.node i < nodes → ((j : ℕ) → j < i → at M.site j ≤ at M.site i) → mutation_broken sites nodes M i ≡ false
  unfolding mutation_broken falls
  of_mutation zero s n h = no_or (lt-leb sites (at M.site 0) s) (no_or (lt-leb nodes (at M.node 0) n) refl)
  of_mutation (suc i) s n h = no_or (lt-leb sites (at M.site (suc i)) s) (no_or (lt-leb nodes (at M.node (suc i)) n) (le-ltb (at M.site (suc i)) (at M.site i) (h i (omega arith))))

-- ---- 10 and 26

-- mutation i's node is no proper ancestor, at their site's position, of mutation j's
abbrev pub NotOver : List Edge → List ℕ → (ℕ → ℕ) → MutationColumns → ℕ → ℕ → Type 0
NotOver edges position name M i j = at M.site j ≡ at M.site i → ancestor (parent_in edges (at position (at M.site i))) (name (at M.node i)) (name (at M.node j)) ≡ false

module _ (edges : List Edge) (position : List ℕ) (name : ℕ → ℕ) (M : MutationColumns) (i : ℕ) where
  pub not_over : mutation_above edges position name M i ≡ false → (j : ℕ) → j < i → NotOver edges position name M i j
  unfolding mutation_above overtakes
  not_over h j l e = not_true (ancestor (parent_in edges (at position (at M.site i))) (name (at M.node i)) (name (at M.node j))) (λ a. clash (and_yes (eq-eqb (at M.site j) (at M.site i) e) a) (below_no (λ j. overtakes edges position name M i j) i h j l))

  pub of_not_over : ((j : ℕ) → j < i → NotOver edges position name M i j) → mutation_above edges position name M i ≡ false
  unfolding mutation_above overtakes
  of_not_over h = no_below (λ j. overtakes edges position name M i j) i (λ j l. not_true (overtakes edges position name M i j) (λ e. let p : _ = and_of (eqb (at M.site j) (at M.site i)) _ e in clash p.1 (h j l (eqb-true (at M.site j) (at M.site i) p.0))))

-- ---- 11

pub sample_known : (birth S : List ℕ) (i : ℕ) → sample_unknown birth S i ≡ false → mem (at S i) birth ≡ true
unfolding sample_unknown
sample_known birth S i h = not_no (mem (at S i) birth) h

pub of_known : (birth S : List ℕ) (i : ℕ) → mem (at S i) birth ≡ true → sample_unknown birth S i ≡ false
unfolding sample_unknown
of_known birth S i h = ap not h
