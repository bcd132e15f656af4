-- The columns of a record of which the facts of the checks 3 to 10 hold pass those checks.
use Rattle.std.specs.Prelude.{◌≡◌, refl, Bool, true, false, ℕ, zero, suc, ◌<◌, eqb, get_or}
use Rattle.std.proofs.Common.{sym, ◌∙◌, ⊎_elim, arith, eqb-true, eq-eqb, ne_eqb}
use Rattle.std.proofs.Math.Path.{ap}
use mathlib.Core.List.{List, [], ◌∷◌, map}
use Rattle.std.proofs.Math.ListN.{length, length-map}
use Rattle.std.proofs.lemmas.Bool.{eqb-false}
use Rattle.meaning.specs.Words.{at, mem, index_of, lex}
use Rattle.meaning.specs.Rows.{Tables, Node, Edge, Site, Mutation, Record, births, record_of, tables_of, node_of, time_of, pos_of, edges_of, edge_key}
use Rattle.meaning.specs.Forest.{parent_in, ancestor}
use Rattle.meaning.specs.Answer.{Limits}
use Rattle.meaning.specs.Check.{key_of}
use Rattle.meaning.specs.Join.{keyed}
use Rattle.laws.specs.Bools.{clash}
use Rattle.laws.specs.Members.{mem_nil, mem_cases, at_mem, index_at, index_below}
use Rattle.laws.specs.Facts.{Distinct, nil, cons}
use Rattle.history.specs.RowForm.{there_back}
use Rattle.accepted.specs.Tests.{LengthRight, EdgeRight, Holds, NotOver}
use Rattle.accepted.specs.Checked.{Sound, Shaped, Sized, TreeSound, SitesSound, Apart}
use Rattle.results.specs.Pairwise.{all_get, pairwise_get, at_map, of_pairs}
use Rattle.results.specs.Facts.{Right, RecordSound}

-- ---- a list with no number twice, and the rows of its numbers

pub apart_of : (l : List ℕ) → Distinct l → Apart l
apart_of [] nil i j k h e = absurd (omega arith)
apart_of (a ∷ l) (cons n d) zero j k h e = absurd (omega arith)
apart_of (a ∷ l) (cons n d) (suc i) zero k h e = clash (rw (sym e) at (at_mem l i (omega arith))) n
apart_of (a ∷ l) (cons n d) (suc i) (suc j) k h e = apart_of l d i j (omega arith) (omega arith) e

-- one row, one number
same_index : (l : List ℕ) (a b : ℕ) → mem a l ≡ true → mem b l ≡ true → index_of a l ≡ index_of b l → a ≡ b
same_index l a b p q e = sym (index_at a l p) ∙ ap (at l) e ∙ index_at b l q

births_long : (l : List Node) → length (births l) ≡ length l
unfolding births
births_long [] = refl
births_long (n ∷ l) = ap suc (births_long l)

-- the time in the row of the fish b is the time of b
time_at : (l : List Node) (b : ℕ) → mem b (births l) ≡ true → at (map (λ (n : Node). n.time) l) (index_of b (births l)) ≡ time_of l b
unfolding births index_of time_of node_of
time_at [] b h = absurd (mem_nil b h)
time_at (n ∷ l) b h = go (eqb b n.birth) refl (λ k. time_at l b k)
  where
    go : (t : Bool) → eqb b n.birth ≡ t → (mem b (births l) ≡ true → at (map (λ (n : Node). n.time) l) (index_of b (births l)) ≡ time_of l b) → at (map (λ (n : Node). n.time) (n ∷ l)) (index_of b (births (n ∷ l))) ≡ time_of (n ∷ l) b
    go true e ih = let q : n.birth ≡ b = sym (eqb-true b n.birth e) in rw (e, index_of) (rw (eq-eqb n.birth b q, time_of, node_of))
    go false e ih =
        let q : n.birth ≡ b → ⊥ = λ z. eqb-false b n.birth e (sym z) in
        rw (e, index_of) (rw (ne_eqb n.birth b q, time_of, node_of) (ih (⊎_elim (λ (z : b ≡ n.birth). absurd (q (sym z))) (λ k. k) (mem_cases b n.birth (births l) h))))

position_at : (l : List Site) (i : ℕ) → at (map (λ (s : Site). s.pos) l) i ≡ pos_of l i
unfolding pos_of
position_at [] i = refl
position_at (s ∷ l) zero = refl
position_at (s ∷ l) (suc i) = position_at l i

-- tables made of a record have columns of one length
pub tables_even : (R : Record) → Shaped (tables_of R)
unfolding tables_of
tables_even R = record {
  births = births_long R.nodes ∙ sym (length-map R.nodes (λ (n : Node). n.time));
  populations = length-map R.nodes (λ (n : Node). n.population) ∙ sym (length-map R.nodes (λ (n : Node). n.time));
  rights = length-map R.edges (λ (e : Edge). e.right) ∙ sym (length-map R.edges (λ (e : Edge). e.left));
  parents = length-map R.edges (λ (e : Edge). index_of e.parent (births R.nodes)) ∙ sym (length-map R.edges (λ (e : Edge). e.left));
  children = length-map R.edges (λ (e : Edge). index_of e.child (births R.nodes)) ∙ sym (length-map R.edges (λ (e : Edge). e.left));
  states = length-map R.sites (λ (s : Site). s.state) ∙ sym (length-map R.sites (λ (s : Site). s.pos));
  mutated = length-map R.muts (λ (m : Mutation). index_of m.node (births R.nodes)) ∙ sym (length-map R.muts (λ (m : Mutation). m.site));
  derived = length-map R.muts (λ (m : Mutation). m.derived) ∙ sym (length-map R.muts (λ (m : Mutation). m.site));
}

-- ---- the columns

module _ (L : ℕ) (R : Record) (s : RecordSound L R) where
  abbrev N : List ℕ
  N = births R.nodes

  abbrev C : Tables
  C = tables_of R

  -- what a place outside the list is read as
  abbrev no_edge : Edge
  no_edge = record { left = 0; right = 0; parent = 0; child = 0 }

  abbrev no_mutation : Mutation
  no_mutation = record { site = 0; node = 0; derived = 0 }

  abbrev edge : ℕ → Edge
  edge i = get_or R.edges i no_edge

  abbrev mutation : ℕ → Mutation
  mutation i = get_or R.muts i no_mutation

  shaped : Shaped C
  shaped = tables_even R

  -- ---- edges

  -- the cells of row i
  record EdgeCells (i : ℕ) : Type 0 where
    left : at C.edges.left i ≡ (edge i).left
    right : at C.edges.right i ≡ (edge i).right
    parent : at C.edges.parent i ≡ index_of (edge i).parent N
    child : at C.edges.child i ≡ index_of (edge i).child N
    parent_in-is : mem (edge i).parent N ≡ true
    child_in : mem (edge i).child N ≡ true

  edges_long : length C.edges.left ≡ length R.edges
  unfolding tables_of
  edges_long = length-map R.edges (λ (e : Edge). e.left)

  edge_cells : (i : ℕ) → i < length R.edges → EdgeCells i
  unfolding tables_of
  edge_cells i l = record {
    left = at_map (λ (e : Edge). e.left) no_edge R.edges i l;
    right = at_map (λ (e : Edge). e.right) no_edge R.edges i l;
    parent = at_map (λ (e : Edge). index_of e.parent N) no_edge R.edges i l;
    child = at_map (λ (e : Edge). index_of e.child N) no_edge R.edges i l;
    parent_in-is = (all_get no_edge R.edges s.closed.edges_in i l).0;
    child_in = (all_get no_edge R.edges s.closed.edges_in i l).1;
  }

  -- the time and the birth in the row of the fish b
  row_time : (b : ℕ) → mem b N ≡ true → at C.nodes.time (index_of b N) ≡ time_of R.nodes b
  unfolding tables_of
  row_time b h = time_at R.nodes b h

  row_birth : (b : ℕ) → mem b N ≡ true → at C.nodes.birth (index_of b N) ≡ b
  unfolding tables_of
  row_birth b h = index_at b N h

  row_below : (b : ℕ) → mem b N ≡ true → index_of b N < length C.nodes.time
  unfolding tables_of
  row_below b h = omega (arith, index_below b N h, births_long R.nodes, length-map R.nodes (λ (n : Node). n.time))

  edge_row : (i : ℕ) → i < length R.edges → EdgeRight L C.nodes.time C.edges i
  edge_row i l =
      let c : EdgeCells i = edge_cells i l in
      let r : Right L (time_of R.nodes) (edge i) = all_get no_edge R.edges s.edge i l in
      record {
        parent_row = omega (arith, c.parent, row_below (edge i).parent c.parent_in-is);
        child_row-is = omega (arith, c.child, row_below (edge i).child c.child_in);
        some_position = omega (arith, c.left, c.right, r.wide);
        within = omega (arith, c.right, r.within);
        older = omega (arith, r.older, ap (at C.nodes.time) c.child ∙ row_time (edge i).child c.child_in, ap (at C.nodes.time) c.parent ∙ row_time (edge i).parent c.parent_in-is);
      }

  key_row : (i : ℕ) → i < length R.edges → key_of C.nodes C.edges i ≡ edge_key (time_of R.nodes) (edge i)
  unfolding key_of edge_key
  key_row i l =
      let c : EdgeCells i = edge_cells i l in
      let t : at C.nodes.time (at C.edges.parent i) ≡ time_of R.nodes (edge i).parent = ap (at C.nodes.time) c.parent ∙ row_time (edge i).parent c.parent_in-is in
      let p : at C.nodes.birth (at C.edges.parent i) ≡ (edge i).parent = ap (at C.nodes.birth) c.parent ∙ row_birth (edge i).parent c.parent_in-is in
      let q : at C.nodes.birth (at C.edges.child i) ≡ (edge i).child = ap (at C.nodes.birth) c.child ∙ row_birth (edge i).child c.child_in in
      λ k. t k ∷ p k ∷ q k ∷ c.left k ∷ []

  keys_rise : (i j : ℕ) → j < i → i < length R.edges → lex (edge_key (time_of R.nodes) (edge j)) (edge_key (time_of R.nodes) (edge i)) ≡ true
  keys_rise i j k l = unfold keyed in pairwise_get no_edge R.edges s.ordered i j k l

  tree : TreeSound L C.nodes C.edges
  tree = record {
    once = unfold tables_of in apart_of N s.once;
    edge = λ i l. edge_row i (omega (arith, edges_long));
    ordered = λ i j k l.
        (λ q. lex (key_row j (omega (arith, edges_long)) q) (key_row i (omega (arith, edges_long)) q)) ∙ keys_rise i j k (omega (arith, edges_long));
    single = λ i j x k l e a b. apart i j x k (omega (arith, edges_long)) e a b;
  }
    where
      apart : (i j x : ℕ) → j < i → i < length R.edges → at C.edges.child j ≡ at C.edges.child i → Holds C.edges j x → Holds C.edges i x → ⊥
      apart i j x k l e a b =
          let c : EdgeCells i = edge_cells i l in
          let d : EdgeCells j = edge_cells j (omega arith) in
          pairwise_get no_edge R.edges s.parted i j k l x
          (same_index N (edge j).child (edge i).child d.child_in c.child_in (sym d.child ∙ e ∙ c.child))
          (omega (arith, d.left, a.begun)) (omega (arith, d.right, a.not_over)) (omega (arith, c.left, b.begun)) (omega (arith, c.right, b.not_over))

  -- ---- sites and mutations

  record MutationCells (i : ℕ) : Type 0 where
    site : at C.muts.site i ≡ (mutation i).site
    node : at C.muts.node i ≡ index_of (mutation i).node N
    node_in : mem (mutation i).node N ≡ true

  muts_long : length C.muts.site ≡ length R.muts
  unfolding tables_of
  muts_long = length-map R.muts (λ (m : Mutation). m.site)

  sites_long : length C.sites.position ≡ length R.sites
  unfolding tables_of
  sites_long = length-map R.sites (λ (s : Site). s.pos)

  position : (i : ℕ) → at C.sites.position i ≡ pos_of R.sites i
  unfolding tables_of
  position i = position_at R.sites i

  mutation_cells : (i : ℕ) → i < length R.muts → MutationCells i
  unfolding tables_of
  mutation_cells i l = record {
    site = at_map (λ (m : Mutation). m.site) no_mutation R.muts i l;
    node = at_map (λ (m : Mutation). index_of m.node N) no_mutation R.muts i l;
    node_in = all_get no_mutation R.muts s.closed.muts_in i l;
  }

  -- the edges by birth are the record's
  edges_are : edges_of (at C.nodes.birth) C.edges ≡ R.edges
  edges_are = unfold record_of in ap (λ (Z : Record). Z.edges) (there_back L R s.len s.closed)

  not_over : (i j : ℕ) → j < i → i < length R.muts → NotOver (edges_of (at C.nodes.birth) C.edges) C.sites.position (at C.nodes.birth) C.muts i j
  not_over i j k l e =
      let c : MutationCells i = mutation_cells i l in
      let d : MutationCells j = mutation_cells j (omega arith) in
      let q : (mutation j).site ≡ (mutation i).site = sym d.site ∙ e ∙ c.site in
      let x : at C.sites.position (at C.muts.site i) ≡ pos_of R.sites (mutation j).site = ap (at C.sites.position) (c.site ∙ sym q) ∙ position (mutation j).site in
      let a : at C.nodes.birth (at C.muts.node i) ≡ (mutation i).node = ap (at C.nodes.birth) c.node ∙ row_birth (mutation i).node c.node_in in
      let b : at C.nodes.birth (at C.muts.node j) ≡ (mutation j).node = ap (at C.nodes.birth) d.node ∙ row_birth (mutation j).node d.node_in in
      (λ z. ancestor (parent_in (edges_are z) (x z)) (a z) (b z)) ∙ pairwise_get no_mutation R.muts (of_pairs s.settled.order) i j k l q

  sites : SitesSound L C
  sites = record {
    inside = λ i l. omega (arith, position i, s.inside i (omega (arith, sites_long)));
    ascending = λ i j k l. omega (arith, position i, position j, s.ascending i j k (omega (arith, sites_long)));
    site_row = λ i l. omega (arith, sites_long, (mutation_cells i (omega (arith, muts_long))).site, all_get no_mutation R.muts s.site_row i (omega (arith, muts_long)));
    node_row = λ i l. let c : MutationCells i = mutation_cells i (omega (arith, muts_long)) in omega (arith, c.node, row_below (mutation i).node c.node_in);
    rising = λ i j k l. omega (arith, (mutation_cells i (omega (arith, muts_long))).site, (mutation_cells j (omega (arith, muts_long))).site, pairwise_get no_mutation R.muts (of_pairs s.rising) i j k (omega (arith, muts_long)));
    downwards = λ i j k l. not_over i j k (omega (arith, muts_long));
  }

  -- where the rows keep to the limits and L is right, the checks 1 to 10 find nothing
  pub tabled_sound : (m : Limits) → Sized m (tables_of R) → LengthRight L → Sound m L (tables_of R)
  tabled_sound m z l = record { shape = shaped; size = z; len = l; tree = tree; sites = sites }
