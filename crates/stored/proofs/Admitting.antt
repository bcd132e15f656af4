-- Laws for what writing tests: columns of one length, limits, and rows that a file has fields for.
use mathlib.Core.Path.{◌≡◌, refl, sym, ap, ◌∙◌}
use mathlib.Core.Bool.{true, false, not}
use mathlib.Core.List.{List, [], ◌∷◌}
use Prim.Native.Nat.{ℕ, ◌<◌, ◌≤◌}
use native.Mathlib.Omega.{arith}
use borrow.Author.Tests.{le-leb, lt-leb, lt-ltb, le-ltb, eq-eqb, ne_eqb}
use lib.Dec.{leb}
use lib.ListN.{length}
use Rattle.meaning.specs.Words.{at, any}
use Rattle.meaning.specs.Rows.{Tables}
use Rattle.meaning.specs.Answer.{Answer, answer, stored_limits, ragged}
use Rattle.meaning.specs.Check.{shapes, sizes, too_many}
use Rattle.laws.specs.Bools.{or_left, or_right}
use Rattle.meaning.specs.Files.{too_wide, populated}
use Rattle.form.specs.Refusals.{refuse_no, refuse_yes}
use Rattle.stored.specs.Admitted.{Shaped, Within}
use Rattle.stored.specs.Answers.{Long, Counted, Ample, Lowest, at_nodes, at_edges, at_sites, at_muts, at_samples, most_rows}
use Rattle.stored.specs.declared.Lengths.{Lengths}
use Rattle.stored.specs.declared.Rows.{Rows}

-- ---- columns of one length

ragged_first : (a b : List ℕ) (cs : List (List ℕ)) → (length b ≡ length a → ⊥) → ragged (a ∷ b ∷ cs) ≡ true
unfolding ragged any
ragged_first a b cs n = rw (ne_eqb (length b) (length a) n, any)

ragged_later : (a b : List ℕ) (cs : List (List ℕ)) → length b ≡ length a → ragged (a ∷ b ∷ cs) ≡ ragged (a ∷ cs)
unfolding ragged any
ragged_later a b cs e = rw (eq-eqb (length b) (length a) e, any)

ragged_one : (a : List ℕ) → ragged (a ∷ []) ≡ false
unfolding ragged any
ragged_one a = refl

module _ (n : Lengths) (T : Tables) (l : Long n T) where
  nodes_even : n.birth ≡ n.time → n.population ≡ n.time → ragged (T.nodes.time ∷ T.nodes.birth ∷ T.nodes.population ∷ []) ≡ false
  nodes_even a p =
      ragged_later T.nodes.time T.nodes.birth (T.nodes.population ∷ []) (l.birth ∙ a ∙ sym l.time)
      ∙ ragged_later T.nodes.time T.nodes.population [] (l.population ∙ p ∙ sym l.time)
      ∙ ragged_one T.nodes.time

  edges_even : n.right ≡ n.left → n.parent ≡ n.left → n.child ≡ n.left → ragged (T.edges.left ∷ T.edges.right ∷ T.edges.parent ∷ T.edges.child ∷ []) ≡ false
  edges_even b c d =
      ragged_later T.edges.left T.edges.right (T.edges.parent ∷ T.edges.child ∷ []) (l.right ∙ b ∙ sym l.left)
      ∙ ragged_later T.edges.left T.edges.parent (T.edges.child ∷ []) (l.parent ∙ c ∙ sym l.left)
      ∙ ragged_later T.edges.left T.edges.child [] (l.child ∙ d ∙ sym l.left)
      ∙ ragged_one T.edges.left

  sites_even : n.ancestral ≡ n.position → ragged (T.sites.position ∷ T.sites.ancestral ∷ []) ≡ false
  sites_even a = ragged_later T.sites.position T.sites.ancestral [] (l.ancestral ∙ a ∙ sym l.position) ∙ ragged_one T.sites.position

  muts_even : n.node ≡ n.site → n.derived ≡ n.site → ragged (T.muts.site ∷ T.muts.node ∷ T.muts.derived ∷ []) ≡ false
  muts_even a b =
      ragged_later T.muts.site T.muts.node (T.muts.derived ∷ []) (l.node ∙ a ∙ sym l.site)
      ∙ ragged_later T.muts.site T.muts.derived [] (l.derived ∙ b ∙ sym l.site)
      ∙ ragged_one T.muts.site

  pub all_even : n.birth ≡ n.time → n.population ≡ n.time → n.right ≡ n.left → n.parent ≡ n.left → n.child ≡ n.left → n.ancestral ≡ n.position → n.node ≡ n.site → n.derived ≡ n.site → Shaped T
  all_even a p b c d e f g = record { nodes = nodes_even a p; edges = edges_even b c d; sites = sites_even e; muts = muts_even f g }

  module _ (rest : Answer) where
    pub time_uneven : (n.birth ≡ n.time → ⊥) → shapes T rest ≡ answer 1 1
    unfolding shapes
    time_uneven h = refuse_yes 1 1 _ (ragged_first T.nodes.time T.nodes.birth (T.nodes.population ∷ []) (λ e. h (sym l.birth ∙ e ∙ l.time)))

    pub population_uneven : n.birth ≡ n.time → (n.population ≡ n.time → ⊥) → shapes T rest ≡ answer 1 1
    unfolding shapes
    population_uneven a h = refuse_yes 1 1 _ (
        ragged_later T.nodes.time T.nodes.birth (T.nodes.population ∷ []) (l.birth ∙ a ∙ sym l.time)
        ∙ ragged_first T.nodes.time T.nodes.population [] (λ e. h (sym l.population ∙ e ∙ l.time)))

    edges_uneven : n.birth ≡ n.time → n.population ≡ n.time → ragged (T.edges.left ∷ T.edges.right ∷ T.edges.parent ∷ T.edges.child ∷ []) ≡ true → shapes T rest ≡ answer 1 2
    unfolding shapes
    edges_uneven a p h = refuse_no 1 1 _ (nodes_even a p) ∙ refuse_yes 1 2 _ h

    pub right_uneven : n.birth ≡ n.time → n.population ≡ n.time → (n.right ≡ n.left → ⊥) → shapes T rest ≡ answer 1 2
    right_uneven a p h = edges_uneven a p (ragged_first T.edges.left T.edges.right (T.edges.parent ∷ T.edges.child ∷ []) (λ e. h (sym l.right ∙ e ∙ l.left)))

    pub parent_uneven : n.birth ≡ n.time → n.population ≡ n.time → n.right ≡ n.left → (n.parent ≡ n.left → ⊥) → shapes T rest ≡ answer 1 2
    parent_uneven a p b h = edges_uneven a p (
        ragged_later T.edges.left T.edges.right (T.edges.parent ∷ T.edges.child ∷ []) (l.right ∙ b ∙ sym l.left)
        ∙ ragged_first T.edges.left T.edges.parent (T.edges.child ∷ []) (λ e. h (sym l.parent ∙ e ∙ l.left)))

    pub child_uneven : n.birth ≡ n.time → n.population ≡ n.time → n.right ≡ n.left → n.parent ≡ n.left → (n.child ≡ n.left → ⊥) → shapes T rest ≡ answer 1 2
    child_uneven a p b c h = edges_uneven a p (
        ragged_later T.edges.left T.edges.right (T.edges.parent ∷ T.edges.child ∷ []) (l.right ∙ b ∙ sym l.left)
        ∙ ragged_later T.edges.left T.edges.parent (T.edges.child ∷ []) (l.parent ∙ c ∙ sym l.left)
        ∙ ragged_first T.edges.left T.edges.child [] (λ e. h (sym l.child ∙ e ∙ l.left)))

    pub sites_uneven : n.birth ≡ n.time → n.population ≡ n.time → n.right ≡ n.left → n.parent ≡ n.left → n.child ≡ n.left → (n.ancestral ≡ n.position → ⊥) → shapes T rest ≡ answer 1 3
    unfolding shapes
    sites_uneven a p b c d h = refuse_no 1 1 _ (nodes_even a p) ∙ refuse_no 1 2 _ (edges_even b c d) ∙ refuse_yes 1 3 _ (ragged_first T.sites.position T.sites.ancestral [] (λ e. h (sym l.ancestral ∙ e ∙ l.position)))

    muts_uneven : n.birth ≡ n.time → n.population ≡ n.time → n.right ≡ n.left → n.parent ≡ n.left → n.child ≡ n.left → n.ancestral ≡ n.position → ragged (T.muts.site ∷ T.muts.node ∷ T.muts.derived ∷ []) ≡ true → shapes T rest ≡ answer 1 4
    unfolding shapes
    muts_uneven a p b c d e h = refuse_no 1 1 _ (nodes_even a p) ∙ refuse_no 1 2 _ (edges_even b c d) ∙ refuse_no 1 3 _ (sites_even e) ∙ refuse_yes 1 4 _ h

    pub node_uneven : n.birth ≡ n.time → n.population ≡ n.time → n.right ≡ n.left → n.parent ≡ n.left → n.child ≡ n.left → n.ancestral ≡ n.position → (n.node ≡ n.site → ⊥) → shapes T rest ≡ answer 1 4
    node_uneven a p b c d e h = muts_uneven a p b c d e (ragged_first T.muts.site T.muts.node (T.muts.derived ∷ []) (λ q. h (sym l.node ∙ q ∙ l.site)))

    pub derived_uneven : n.birth ≡ n.time → n.population ≡ n.time → n.right ≡ n.left → n.parent ≡ n.left → n.child ≡ n.left → n.ancestral ≡ n.position → n.node ≡ n.site → (n.derived ≡ n.site → ⊥) → shapes T rest ≡ answer 1 4
    derived_uneven a p b c d e f h = muts_uneven a p b c d e (
        ragged_later T.muts.site T.muts.node (T.muts.derived ∷ []) (l.node ∙ f ∙ sym l.site)
        ∙ ragged_first T.muts.site T.muts.derived [] (λ q. h (sym l.derived ∙ q ∙ l.site)))

-- ---- limits

module _ (n : Rows) (T : Tables) (S : List ℕ) (c : Counted n T S) where
  -- 2 with the lowest table that has too many rows
  pub sizes_over : (rest : Answer) (t : ℕ) → Lowest n most_rows t → sizes stored_limits T (too_many 5 stored_limits.samples S rest) ≡ answer 2 t
  unfolding sizes
  sizes_over rest t (at_nodes h) = refuse_yes 2 1 _ (lt-ltb stored_limits.nodes (length T.nodes.time) (omega (arith, c.nodes)))
  sizes_over rest t (at_edges a h) = refuse_no 2 1 _ (le-ltb stored_limits.nodes (length T.nodes.time) (omega (arith, c.nodes))) ∙ refuse_yes 2 2 _ (lt-ltb stored_limits.edges (length T.edges.left) (omega (arith, c.edges)))
  sizes_over rest t (at_sites a b h) = refuse_no 2 1 _ (le-ltb stored_limits.nodes (length T.nodes.time) (omega (arith, c.nodes))) ∙ refuse_no 2 2 _ (le-ltb stored_limits.edges (length T.edges.left) (omega (arith, c.edges))) ∙ refuse_yes 2 3 _ (lt-ltb stored_limits.sites (length T.sites.position) (omega (arith, c.sites)))
  sizes_over rest t (at_muts a b d h) = refuse_no 2 1 _ (le-ltb stored_limits.nodes (length T.nodes.time) (omega (arith, c.nodes))) ∙ refuse_no 2 2 _ (le-ltb stored_limits.edges (length T.edges.left) (omega (arith, c.edges))) ∙ refuse_no 2 3 _ (le-ltb stored_limits.sites (length T.sites.position) (omega (arith, c.sites))) ∙ refuse_yes 2 4 _ (lt-ltb stored_limits.mutations (length T.muts.site) (omega (arith, c.muts)))
  sizes_over rest t (at_samples a b d e h) = refuse_no 2 1 _ (le-ltb stored_limits.nodes (length T.nodes.time) (omega (arith, c.nodes))) ∙ refuse_no 2 2 _ (le-ltb stored_limits.edges (length T.edges.left) (omega (arith, c.edges))) ∙ refuse_no 2 3 _ (le-ltb stored_limits.sites (length T.sites.position) (omega (arith, c.sites))) ∙ refuse_no 2 4 _ (le-ltb stored_limits.mutations (length T.muts.site) (omega (arith, c.muts))) ∙ refuse_yes 2 5 rest (lt-ltb stored_limits.samples (length S) (omega (arith, c.samples)))

  pub all_within : Ample n most_rows → Within stored_limits T S
  all_within a = record { nodes = omega (arith, c.nodes, a.nodes); edges = omega (arith, c.edges, a.edges); sites = omega (arith, c.sites, a.sites); muts = omega (arith, c.muts, a.muts); samples = omega (arith, c.samples, a.samples) }

-- ---- rows that a file has fields for

module _ (c : List ℕ) (i : ℕ) where
  pub populated_yes : (at c i ≡ 0 → ⊥) → populated c i ≡ true
  unfolding populated
  populated_yes h = ap not (ne_eqb (at c i) 0 h)

  pub populated_no : at c i ≡ 0 → populated c i ≡ false
  unfolding populated
  populated_no h = ap not (eq-eqb (at c i) 0 h)

module _ (a b : List ℕ) (i : ℕ) where
  pub wide_left : 65535 < at a i → too_wide 2 a b i ≡ true
  unfolding too_wide
  wide_left h = or_left (leb 65536 (at b i)) (le-leb 65536 (at a i) (omega arith))

  pub wide_right : 65535 < at b i → too_wide 2 a b i ≡ true
  unfolding too_wide
  wide_right h = or_right (leb 65536 (at a i)) (leb 65536 (at b i)) (le-leb 65536 (at b i) (omega arith))

  pub wide_neither : at a i ≤ 65535 → at b i ≤ 65535 → too_wide 2 a b i ≡ false
  unfolding too_wide
  wide_neither h k = rw (lt-leb 65536 (at a i) (omega arith), lt-leb 65536 (at b i) (omega arith))
