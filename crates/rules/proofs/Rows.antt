-- What the test of a row comes to, one law for each way out of the code that tests it.
use mathlib.Core.Path.{◌≡◌, sym, ap, ◌∙◌}
use mathlib.Core.Bool.{true, false, not}
use mathlib.Core.List.{List}
use Prim.Native.Nat.{ℕ, suc, ◌-◌, ◌<◌, ◌≤◌}
use native.Mathlib.Omega.{arith}
use lib.Dec.{ltb, leb}
use lib.ListN.{length}
use borrow.Author.Tests.{lt-ltb, le-ltb, le-leb, lt-leb, eq-eqb, ne_eqb}
use Rattle.meaning.specs.Words.{at, lex}
use Rattle.meaning.specs.Rows.{NodeColumns, EdgeColumns, MutationColumns}
use Rattle.meaning.specs.Check.{edge_broken, key_of, edge_unordered, share, not_above, site_broken, falls, mutation_broken}

-- a row that is not the first follows one
after : (i : ℕ) → (i ≡ 0 → ⊥) → i ≡ suc (i - 1)
after i n = omega arith

-- ---- rule 5

module _ (L : ℕ) (time : List ℕ) (E : EdgeColumns) (i : ℕ) where
  pub no_parent_row : length time ≤ at E.parent i → edge_broken L time E i ≡ true
  unfolding edge_broken
  no_parent_row a = simp (le-leb _ _ a)

  module _ (a : at E.parent i < length time) where
    pub no_child_row : length time ≤ at E.child i → edge_broken L time E i ≡ true
    unfolding edge_broken
    no_child_row b = simp (lt-leb _ _ a, le-leb _ _ b)

    module _ (b : at E.child i < length time) where
      pub empty_edge : at E.right i ≤ at E.left i → edge_broken L time E i ≡ true
      unfolding edge_broken
      empty_edge c = simp (lt-leb _ _ a, lt-leb _ _ b, le-leb _ _ c)

      module _ (c : at E.left i < at E.right i) where
        pub edge_past : L < at E.right i → edge_broken L time E i ≡ true
        unfolding edge_broken
        edge_past d = simp (lt-leb _ _ a, lt-leb _ _ b, lt-leb _ _ c, lt-ltb _ _ d)

        pub edge_ages : at E.right i ≤ L → edge_broken L time E i ≡ leb (at time (at E.parent i)) (at time (at E.child i))
        unfolding edge_broken
        edge_ages d = simp (lt-leb _ _ a, lt-leb _ _ b, lt-leb _ _ c, le-ltb _ _ d)

-- ---- rule 6

module _ (N : NodeColumns) (E : EdgeColumns) (i : ℕ) where
  pub edge_first : i ≡ 0 → edge_unordered N E i ≡ false
  unfolding edge_unordered
  edge_first e = ap (edge_unordered N E) e

  pub edge_later : (i ≡ 0 → ⊥) → edge_unordered N E i ≡ not (lex (key_of N E (i - 1)) (key_of N E i))
  unfolding edge_unordered
  edge_later n = ap (edge_unordered N E) (after i n) ∙ ap (λ k. not (lex (key_of N E (i - 1)) (key_of N E k))) (sym (after i n))

-- ---- rule 7

module _ (E : EdgeColumns) (j i : ℕ) where
  pub other_child : (at E.child j ≡ at E.child i → ⊥) → share E j i ≡ false
  unfolding share
  other_child a = simp (ne_eqb _ _ a)

  module _ (a : at E.child j ≡ at E.child i) where
    pub begins_after : at E.right i ≤ at E.left j → share E j i ≡ false
    unfolding share
    begins_after b = simp (eq-eqb _ _ a, le-ltb _ _ b)

    module _ (b : at E.left j < at E.right i) where
      -- the last test decides
      pub share_ends : share E j i ≡ ltb (at E.left i) (at E.right j)
      unfolding share
      share_ends = simp (eq-eqb _ _ a, lt-ltb _ _ b)

-- ---- rule 8

module _ (L : ℕ) (position : List ℕ) (i : ℕ) where
  pub site_past : L ≤ at position i → site_broken L position i ≡ true
  unfolding site_broken
  site_past a = simp (le-leb _ _ a)

  module _ (a : at position i < L) where
    pub site_first : i ≡ 0 → site_broken L position i ≡ false
    unfolding site_broken not_above
    site_first b = let q : not_above position i ≡ false = ap (not_above position) b in simp (lt-leb _ _ a, q)

    pub site_later : (i ≡ 0 → ⊥) → site_broken L position i ≡ leb (at position i) (at position (i - 1))
    unfolding site_broken not_above
    site_later n =
        let q : not_above position i ≡ leb (at position i) (at position (i - 1)) = ap (not_above position) (after i n) ∙ ap (λ k. leb (at position k) (at position (i - 1))) (sym (after i n)) in
        simp (lt-leb _ _ a, q)

-- ---- rule 9

module _ (sites nodes : ℕ) (M : MutationColumns) (i : ℕ) where
  pub no_site_row : sites ≤ at M.site i → mutation_broken sites nodes M i ≡ true
  unfolding mutation_broken
  no_site_row a = simp (le-leb _ _ a)

  module _ (a : at M.site i < sites) where
    pub no_node_row : nodes ≤ at M.node i → mutation_broken sites nodes M i ≡ true
    unfolding mutation_broken
    no_node_row b = simp (lt-leb _ _ a, le-leb _ _ b)

    module _ (b : at M.node i < nodes) where
      pub mutation_first : i ≡ 0 → mutation_broken sites nodes M i ≡ false
      unfolding mutation_broken falls
      mutation_first n = let q : falls M.site i ≡ false = ap (falls M.site) n in simp (lt-leb _ _ a, lt-leb _ _ b, q)

      pub mutation_later : (i ≡ 0 → ⊥) → mutation_broken sites nodes M i ≡ ltb (at M.site i) (at M.site (i - 1))
      unfolding mutation_broken falls
      mutation_later n =
          let q : falls M.site i ≡ ltb (at M.site i) (at M.site (i - 1)) = ap (falls M.site) (after i n) ∙ ap (λ k. ltb (at M.site k) (at M.site (i - 1))) (sym (after i n)) in
          simp (lt-leb _ _ a, lt-leb _ _ b, q)
