-- Tables that pass the check are the columns of the record that they mean.
use Rattle.std.specs.Prelude.{◌≡◌, List, map, ℕ, ◌<◌, length}
use Rattle.std.proofs.Math.Path.{refl}
use Rattle.std.proofs.Common.{sym, ap, ◌∙◌, arith, ext_get_or}
use Rattle.meaning.specs.Words.{at, rows, index_of}
use Rattle.meaning.specs.Rows.{Tables, Node, Edge, Site, Mutation, births, node_at, nodes_of, edges_of, sites_of, muts_of, record_of, tables_of}
use Rattle.meaning.specs.Answer.{Limits}
use Rattle.laws.specs.Counting.{length_rows, get_rows, rows_at, map_rows}
use Rattle.laws.specs.Members.{at_mem, index_at, index_below}
use Rattle.accepted.specs.Checked.{Sound, Apart}
use Rattle.accepted.specs.Columns.{same_row, births_of}

-- the row of the number in row i is i, where no number stands twice
index_of_row : (l : List ℕ) → Apart l → (i : ℕ) → i < length l → index_of (at l i) l ≡ i
index_of_row l h i k = same_row l h (index_of (at l i) l) i (index_below (at l i) l (at_mem l i k)) k (index_at (at l i) l (at_mem l i k))

-- rows made alike, cell by cell, to a column
rows_are : (f : ℕ → ℕ) (l : List ℕ) (n : ℕ) → length l ≡ n → ((i : ℕ) → i < n → f i ≡ at l i) → rows f n ≡ l
rows_are f l n e h = ext_get_or 0 (rows f n) l (length_rows f n ∙ sym e) (λ i k. let q : i < n = omega (arith, length_rows f n) in get_rows f 0 n i q ∙ h i q)

module _ (m : Limits) (L : ℕ) (T : Tables) (s : Sound m L T) where
  abbrev born : List ℕ
  born = births (nodes_of T.nodes)

  -- row i of each table
  abbrev node_row : ℕ → Node
  node_row i = node_at T.nodes i

  abbrev edge_row : ℕ → Edge
  edge_row i = record { left = at T.edges.left i; right = at T.edges.right i; parent = at T.nodes.birth (at T.edges.parent i); child = at T.nodes.birth (at T.edges.child i) }

  abbrev site_row : ℕ → Site
  site_row i = record { pos = at T.sites.position i; state = at T.sites.ancestral i }

  abbrev mutation_row : ℕ → Mutation
  mutation_row i = record { site = at T.muts.site i; node = at T.nodes.birth (at T.muts.node i); derived = at T.muts.derived i }

  births_are : born ≡ T.nodes.birth
  births_are = births_of T.nodes s.shape.births

  times_back : map (λ (n : Node). n.time) (nodes_of T.nodes) ≡ T.nodes.time
  unfolding nodes_of
  times_back = map_rows (λ (n : Node). n.time) node_row (length T.nodes.time) ∙ rows_at T.nodes.time

  stocks_back : map (λ (n : Node). n.population) (nodes_of T.nodes) ≡ T.nodes.population
  unfolding nodes_of
  stocks_back = map_rows (λ (n : Node). n.population) node_row (length T.nodes.time) ∙ rows_are (at T.nodes.population) T.nodes.population (length T.nodes.time) s.shape.populations (λ i l. refl)

  -- a column of the edges, of the sites and of the mutations
  edges_back : (g : Edge → ℕ) (c : List ℕ) → length c ≡ length T.edges.left → ((i : ℕ) → i < length T.edges.left → g (edge_row i) ≡ at c i) → map g (edges_of (at T.nodes.birth) T.edges) ≡ c
  unfolding edges_of
  edges_back g c e h = map_rows g edge_row (length T.edges.left) ∙ rows_are (λ i. g (edge_row i)) c (length T.edges.left) e h

  sites_back : (g : Site → ℕ) (c : List ℕ) → length c ≡ length T.sites.position → ((i : ℕ) → i < length T.sites.position → g (site_row i) ≡ at c i) → map g (sites_of T.sites) ≡ c
  unfolding sites_of
  sites_back g c e h = map_rows g site_row (length T.sites.position) ∙ rows_are (λ i. g (site_row i)) c (length T.sites.position) e h

  muts_back : (g : Mutation → ℕ) (c : List ℕ) → length c ≡ length T.muts.site → ((i : ℕ) → i < length T.muts.site → g (mutation_row i) ≡ at c i) → map g (muts_of (at T.nodes.birth) T.muts) ≡ c
  unfolding muts_of
  muts_back g c e h = map_rows g mutation_row (length T.muts.site) ∙ rows_are (λ i. g (mutation_row i)) c (length T.muts.site) e h

  -- a row's birth becomes the row again
  row_again : (r : ℕ) → r < length T.nodes.time → index_of (at T.nodes.birth r) born ≡ r
  row_again r l = ap (index_of (at T.nodes.birth r)) births_are ∙ index_of_row T.nodes.birth s.tree.once r (omega (arith, s.shape.births))

  pub back_again : tables_of (record_of L T) ≡ T
  unfolding tables_of record_of
  back_again = λ k. record {
    nodes = record { time = times_back k; birth = births_are k; population = stocks_back k };
    edges = record {
      left = edges_back (λ (e : Edge). e.left) T.edges.left refl (λ i l. refl) k;
      right = edges_back (λ (e : Edge). e.right) T.edges.right s.shape.rights (λ i l. refl) k;
      parent = edges_back (λ (e : Edge). index_of e.parent born) T.edges.parent s.shape.parents (λ i l. row_again (at T.edges.parent i) (s.tree.edge i l).parent_row) k;
      child = edges_back (λ (e : Edge). index_of e.child born) T.edges.child s.shape.children (λ i l. row_again (at T.edges.child i) (s.tree.edge i l).child_row-is) k;
    };
    sites = record {
      position = sites_back (λ (p : Site). p.pos) T.sites.position refl (λ i l. refl) k;
      ancestral = sites_back (λ (p : Site). p.state) T.sites.ancestral s.shape.states (λ i l. refl) k;
    };
    muts = record {
      site = muts_back (λ (u : Mutation). u.site) T.muts.site refl (λ i l. refl) k;
      node = muts_back (λ (u : Mutation). index_of u.node born) T.muts.node s.shape.mutated (λ i l. row_again (at T.muts.node i) (s.sites.node_row i l)) k;
      derived = muts_back (λ (u : Mutation). u.derived) T.muts.derived s.shape.derived (λ i l. refl) k;
    };
  }
