-- What the checks 1 to 12 find: facts by rows that an answer 0 tells, and that leave only what comes after the checks.
use Rattle.std.specs.Prelude.{◌≡◌, true, List, [], ◌∷◌, ℕ, suc, ◌<◌, ◌≤◌, length}
use Rattle.std.proofs.Common.{◌∙◌, arith}
use Rattle.meaning.specs.Words.{at, mem, lex}
use Rattle.meaning.specs.Rows.{NodeColumns, EdgeColumns, Tables, edges_of}
use Rattle.meaning.specs.Answer.{Answer, Limits}
use Rattle.meaning.specs.Check.{repeated, edge_broken, key_of, edge_unordered, edge_shared, site_broken, mutation_broken, mutation_above, sample_unknown, length_broken, shapes, sizes, tree_rules, site_rules, rules, check_then, sample_rules, check_all_then}
use Rattle.laws.specs.Facts.{All}
use Rattle.laws.specs.Facts.All.{also}
use Rattle.accepted.specs.Refusals.{Accepted, passed, pass, passed_rows, pass_rows, passed_even, pass_even, passed_few, pass_few, first_of-is, rest_of}
use Rattle.accepted.specs.Orders.{chain, lex_trans}
use Rattle.accepted.specs.Tests.{LengthRight, length_right, of_length, not_repeated, of_not_repeated, EdgeRight, edge_right, of_edge, in_order, of_order, Holds, not_shared, of_not_shared, site_inside, site_above, of_site, site_row, node_row, not_falling, of_mutation, NotOver, not_over, of_not_over, sample_known, of_known}

-- ---- the facts

-- 1: the columns of each table are as long as its first
pub record Shaped (T : Tables) : Type 0 where
  pub births : length T.nodes.birth ≡ length T.nodes.time
  pub populations : length T.nodes.population ≡ length T.nodes.time
  pub rights : length T.edges.right ≡ length T.edges.left
  pub parents : length T.edges.parent ≡ length T.edges.left
  pub children : length T.edges.child ≡ length T.edges.left
  pub states : length T.sites.ancestral ≡ length T.sites.position
  pub mutated : length T.muts.node ≡ length T.muts.site
  pub derived : length T.muts.derived ≡ length T.muts.site

-- 2: the rows keep to the limits
pub record Sized (m : Limits) (T : Tables) : Type 0 where
  pub nodes : length T.nodes.time ≤ m.nodes
  pub edges : length T.edges.left ≤ m.edges
  pub sites : length T.sites.position ≤ m.sites
  pub muts : length T.muts.site ≤ m.mutations

-- no two rows of a column are equal
abbrev pub Apart : List ℕ → Type 0
Apart l = (i j : ℕ) → j < i → i < length l → at l j ≡ at l i → ⊥

-- 4 to 7
pub record TreeSound (L : ℕ) (N : NodeColumns) (E : EdgeColumns) : Type 0 where
  pub once : Apart N.birth
  pub edge : (i : ℕ) → i < length E.left → EdgeRight L N.time E i
  pub ordered : (i j : ℕ) → j < i → i < length E.left → lex (key_of N E j) (key_of N E i) ≡ true
  pub single : (i j x : ℕ) → j < i → i < length E.left → at E.child j ≡ at E.child i → Holds E j x → Holds E i x → ⊥

-- 8 to 10
pub record SitesSound (L : ℕ) (T : Tables) : Type 0 where
  pub inside : (i : ℕ) → i < length T.sites.position → at T.sites.position i < L
  pub ascending : (i j : ℕ) → j < i → i < length T.sites.position → at T.sites.position j < at T.sites.position i
  pub site_row : (i : ℕ) → i < length T.muts.site → at T.muts.site i < length T.sites.position
  pub node_row : (i : ℕ) → i < length T.muts.site → at T.muts.node i < length T.nodes.time
  pub rising : (i j : ℕ) → j < i → i < length T.muts.site → at T.muts.site j ≤ at T.muts.site i
  pub downwards : (i j : ℕ) → j < i → i < length T.muts.site → NotOver (edges_of (at T.nodes.birth) T.edges) T.sites.position (at T.nodes.birth) T.muts i j

-- 1 to 10
pub record Sound (m : Limits) (L : ℕ) (T : Tables) : Type 0 where
  pub shape : Shaped T
  pub size : Sized m T
  pub len : LengthRight L
  pub tree : TreeSound L T.nodes T.edges
  pub sites : SitesSound L T

-- 2 for the samples, 11 and 12
pub record Listed (m : Limits) (birth S : List ℕ) : Type 0 where
  pub few : length S ≤ m.samples
  pub known : (i : ℕ) → i < length S → mem (at S i) birth ≡ true
  pub once : Apart S

-- ---- 1 and 2

module _ (T : Tables) (rest : Answer) where
  shaped : Accepted (shapes T rest) → Shaped T × Accepted rest
  unfolding shapes
  shaped h =
      let n : _ = passed_even T.nodes.time (T.nodes.birth ∷ T.nodes.population ∷ []) 1 1 _ (omega arith) h in
      let e : _ = passed_even T.edges.left (T.edges.right ∷ T.edges.parent ∷ T.edges.child ∷ []) 1 2 _ (omega arith) n.1 in
      let s : _ = passed_even T.sites.position (T.sites.ancestral ∷ []) 1 3 _ (omega arith) e.1 in
      let m : _ = passed_even T.muts.site (T.muts.node ∷ T.muts.derived ∷ []) 1 4 rest (omega arith) s.1 in (
        record {
          births = first_of-is n.0;
          populations = first_of-is (rest_of n.0);
          rights = first_of-is e.0;
          parents = first_of-is (rest_of e.0);
          children = first_of-is (rest_of (rest_of e.0));
          states = first_of-is s.0;
          mutated = first_of-is m.0;
          derived = first_of-is (rest_of m.0);
        },
        m.1,
      )

  of_shaped : Shaped T → shapes T rest ≡ rest
  unfolding shapes
  of_shaped h =
      pass_even T.nodes.time (T.nodes.birth ∷ T.nodes.population ∷ []) 1 1 _ (also h.births (also h.populations All.done))
      ∙ pass_even T.edges.left (T.edges.right ∷ T.edges.parent ∷ T.edges.child ∷ []) 1 2 _ (also h.rights (also h.parents (also h.children All.done)))
      ∙ pass_even T.sites.position (T.sites.ancestral ∷ []) 1 3 _ (also h.states All.done)
      ∙ pass_even T.muts.site (T.muts.node ∷ T.muts.derived ∷ []) 1 4 rest (also h.mutated (also h.derived All.done))

module _ (m : Limits) (T : Tables) (rest : Answer) where
  sized : Accepted (sizes m T rest) → Sized m T × Accepted rest
  unfolding sizes
  sized h =
      let n : _ = passed_few m.nodes (length T.nodes.time) 2 1 _ (omega arith) h in
      let e : _ = passed_few m.edges (length T.edges.left) 2 2 _ (omega arith) n.1 in
      let s : _ = passed_few m.sites (length T.sites.position) 2 3 _ (omega arith) e.1 in
      let u : _ = passed_few m.mutations (length T.muts.site) 2 4 rest (omega arith) s.1 in
      (record { nodes = n.0; edges = e.0; sites = s.0; muts = u.0 }, u.1)

  of_sized : Sized m T → sizes m T rest ≡ rest
  unfolding sizes
  of_sized h =
      pass_few m.nodes (length T.nodes.time) 2 1 _ h.nodes
      ∙ pass_few m.edges (length T.edges.left) 2 2 _ h.edges
      ∙ pass_few m.sites (length T.sites.position) 2 3 _ h.sites
      ∙ pass_few m.mutations (length T.muts.site) 2 4 rest h.muts

-- ---- 4 to 7

module _ (L : ℕ) (N : NodeColumns) (E : EdgeColumns) (rest : Answer) where
  tree_sound : Accepted (tree_rules L N E rest) → TreeSound L N E × Accepted rest
  unfolding tree_rules
  tree_sound h =
      let a : _ = passed_rows 4 (repeated N.birth) (length N.birth) _ (omega arith) h in
      let b : _ = passed_rows 5 (edge_broken L N.time E) (length E.left) _ (omega arith) a.1 in
      let c : _ = passed_rows 6 (edge_unordered N E) (length E.left) _ (omega arith) b.1 in
      let d : _ = passed_rows 7 (edge_shared E) (length E.left) rest (omega arith) c.1 in (
        record {
          once = λ i j l k. not_repeated N.birth i (a.0 i k) j l;
          edge = λ i k. edge_right L N.time E i (b.0 i k);
          ordered = chain (λ j i. lex (key_of N E j) (key_of N E i) ≡ true) (λ i j k. lex_trans (key_of N E i) (key_of N E j) (key_of N E k)) (length E.left) (λ i k. in_order N E i (c.0 (suc i) k));
          single = λ i j x l k. not_shared E i (d.0 i k) j x l;
        },
        d.1,
      )

  of_tree : TreeSound L N E → tree_rules L N E rest ≡ rest
  unfolding tree_rules
  of_tree h =
      pass_rows 4 (repeated N.birth) (length N.birth) _ (λ i k. of_not_repeated N.birth i (λ j l. h.once i j l k))
      ∙ pass_rows 5 (edge_broken L N.time E) (length E.left) _ (λ i k. of_edge L N.time E i (h.edge i k))
      ∙ pass_rows 6 (edge_unordered N E) (length E.left) _ (λ i k. of_order N E i (λ j l. h.ordered i j l k))
      ∙ pass_rows 7 (edge_shared E) (length E.left) rest (λ i k. of_not_shared E i (h.edge i k).some_position (λ j l. (h.edge j (omega arith)).some_position) (λ j x l. h.single i j x l k))

-- ---- 8 to 10

module _ (L : ℕ) (T : Tables) (rest : Answer) where
  sites_sound : Accepted (site_rules L T rest) → SitesSound L T × Accepted rest
  unfolding site_rules
  sites_sound h =
      let a : _ = passed_rows 8 (site_broken L T.sites.position) (length T.sites.position) _ (omega arith) h in
      let b : _ = passed_rows 9 (mutation_broken (length T.sites.position) (length T.nodes.time) T.muts) (length T.muts.site) _ (omega arith) a.1 in
      let c : _ = passed_rows 10 (mutation_above (edges_of (at T.nodes.birth) T.edges) T.sites.position (at T.nodes.birth) T.muts) (length T.muts.site) rest (omega arith) b.1 in (
        record {
          inside = λ i k. site_inside L T.sites.position i (a.0 i k);
          ascending = chain (λ j i. at T.sites.position j < at T.sites.position i) (λ i j k p q. omega arith) (length T.sites.position) (λ i k. site_above L T.sites.position i (a.0 (suc i) k));
          site_row = λ i k. site_row (length T.sites.position) (length T.nodes.time) T.muts i (b.0 i k);
          node_row = λ i k. node_row (length T.sites.position) (length T.nodes.time) T.muts i (b.0 i k);
          rising = chain (λ j i. at T.muts.site j ≤ at T.muts.site i) (λ i j k p q. omega arith) (length T.muts.site) (λ i k. not_falling (length T.sites.position) (length T.nodes.time) T.muts i (b.0 (suc i) k));
          downwards = λ i j l k. not_over (edges_of (at T.nodes.birth) T.edges) T.sites.position (at T.nodes.birth) T.muts i (c.0 i k) j l;
        },
        c.1,
      )

  of_sites : SitesSound L T → site_rules L T rest ≡ rest
  unfolding site_rules
  of_sites h =
      pass_rows 8 (site_broken L T.sites.position) (length T.sites.position) _ (λ i k. of_site L T.sites.position i (h.inside i k) (λ j l. h.ascending i j l k))
      ∙ pass_rows 9 (mutation_broken (length T.sites.position) (length T.nodes.time) T.muts) (length T.muts.site) _ (λ i k. of_mutation (length T.sites.position) (length T.nodes.time) T.muts i (h.site_row i k) (h.node_row i k) (λ j l. h.rising i j l k))
      ∙ pass_rows 10 (mutation_above (edges_of (at T.nodes.birth) T.edges) T.sites.position (at T.nodes.birth) T.muts) (length T.muts.site) rest (λ i k. of_not_over (edges_of (at T.nodes.birth) T.edges) T.sites.position (at T.nodes.birth) T.muts i (λ j l. h.downwards i j l k))

-- ---- 3 to 10

-- L and what the rules 4 to 10 find
record Ruled (L : ℕ) (T : Tables) : Type 0 where
  len : LengthRight L
  tree : TreeSound L T.nodes T.edges
  sites : SitesSound L T

module _ (L : ℕ) (T : Tables) (rest : Answer) where
  ruled : Accepted (rules L T rest) → Ruled L T × Accepted rest
  unfolding rules
  ruled h =
      let a : _ = passed (length_broken L) 3 0 _ (omega arith) h in
      let b : _ = tree_sound L T.nodes T.edges _ a.1 in
      let c : _ = sites_sound L T rest b.1 in
      (record { len = length_right L a.0; tree = b.0; sites = c.0 }, c.1)

  of_ruled : Ruled L T → rules L T rest ≡ rest
  unfolding rules
  of_ruled h = pass (length_broken L) 3 0 _ (of_length L h.len) ∙ of_tree L T.nodes T.edges _ h.tree ∙ of_sites L T rest h.sites

-- ---- 1 to 10, and then what comes after

module _ (m : Limits) (L : ℕ) (T : Tables) (rest : Answer) where
  pub sound_of : Accepted (check_then m L T rest) → Sound m L T × Accepted rest
  unfolding check_then
  sound_of h =
      let a : _ = shaped T _ h in
      let b : _ = sized m T _ a.1 in
      let c : _ = ruled L T rest b.1 in
      (record { shape = a.0; size = b.0; len = c.0.len; tree = c.0.tree; sites = c.0.sites }, c.1)

  pub of_sound : Sound m L T → check_then m L T rest ≡ rest
  unfolding check_then
  of_sound h = of_shaped T _ h.shape ∙ of_sized m T _ h.size ∙ of_ruled L T rest (record { len = h.len; tree = h.tree; sites = h.sites })

-- ---- 1 to 12, and then what comes after

module _ (birth S : List ℕ) (rest : Answer) where
  listed : Accepted (sample_rules birth S rest) → ((i : ℕ) → i < length S → mem (at S i) birth ≡ true) × Apart S × Accepted rest
  unfolding sample_rules
  listed h =
      let a : _ = passed_rows 11 (sample_unknown birth S) (length S) _ (omega arith) h in
      let b : _ = passed_rows 12 (repeated S) (length S) rest (omega arith) a.1 in
      (λ i k. sample_known birth S i (a.0 i k), λ i j l k. not_repeated S i (b.0 i k) j l, b.1)

  of_listed : ((i : ℕ) → i < length S → mem (at S i) birth ≡ true) → Apart S → sample_rules birth S rest ≡ rest
  unfolding sample_rules
  of_listed g h =
      pass_rows 11 (sample_unknown birth S) (length S) _ (λ i k. of_known birth S i (g i k))
      ∙ pass_rows 12 (repeated S) (length S) rest (λ i k. of_not_repeated S i (λ j l. h i j l k))

module _ (m : Limits) (L : ℕ) (T : Tables) (S : List ℕ) (rest : Answer) where
  pub all_sound_of : Accepted (check_all_then m L T S rest) → Sound m L T × Listed m T.nodes.birth S × Accepted rest
  unfolding check_all_then
  all_sound_of h =
      let a : _ = shaped T _ h in
      let b : _ = sized m T _ a.1 in
      let f : _ = passed_few m.samples (length S) 2 5 _ (omega arith) b.1 in
      let c : _ = ruled L T _ f.1 in
      let d : _ = listed T.nodes.birth S rest c.1 in
      (record { shape = a.0; size = b.0; len = c.0.len; tree = c.0.tree; sites = c.0.sites }, record { few = f.0; known = d.0; once = d.1 }, d.2)

  pub of_all_sound : Sound m L T → Listed m T.nodes.birth S → check_all_then m L T S rest ≡ rest
  unfolding check_all_then
  of_all_sound h s =
      of_shaped T _ h.shape
      ∙ of_sized m T _ h.size
      ∙ pass_few m.samples (length S) 2 5 _ s.few
      ∙ of_ruled L T _ (record { len = h.len; tree = h.tree; sites = h.sites })
      ∙ of_listed T.nodes.birth S rest s.known s.once
