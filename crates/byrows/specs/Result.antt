-- The whole result of a cleaning by rows: tables 1 to 4 and the node map, as columns of rows.
use Rattle.std.specs.Prelude.{◌≡◌, Bool, eqb, length}
use Rattle.std.proofs.Math.Path.{refl, sym, ap, ap₂}
use Rattle.std.proofs.Common.{◌∙◌, arith}
use Rattle.std.proofs.Math.Bool.{true, false}
use mathlib.Core.List.{List, [], ◌∷◌, ◌++◌, map, map-map}
use Rattle.std.proofs.Math.Option.{Option, none, some}
use Prim.Native.Nat.{ℕ, zero, suc, ◌<◌, ◌≤◌}
use Rattle.meaning.specs.Words.{at, mem, rows, index_of}
use Rattle.meaning.specs.Rows.{NodeColumns, EdgeColumns, SiteColumns, MutationColumns, Tables, Node, Edge, Site, Mutation, Record, births, node_at, node_of, time_of, pos_of, sites_of, muts_of, record_of, tables_of}
use Rattle.meaning.specs.Forest.{stands}
use Rattle.meaning.specs.Answer.{Limits}
use Rattle.meaning.specs.Clean.{moved, low_at, kept, clean, cleaned, row_in, no_row, node_map}
use Rattle.laws.specs.Bools.{none_some}
use Rattle.laws.specs.Counting.{rows_at, map_rows, length_rows}
use Rattle.laws.specs.Members.{mem_here, mem_there}
use Rattle.laws.specs.Facts.{All, done, also}
use Rattle.forest.specs.Profile.{stands_profile}
use Rattle.history.specs.Lists.{all_app, all_to}
use Rattle.history.specs.Cleaned.{clean_births}
use Rattle.accepted.specs.Columns.{all_rows-is, pos_of-is}
use Rattle.bridge.specs.Rename.{map_option, eqb_names}
use Rattle.byrows.specs.Named.{mem_names}
use Rattle.byrows.specs.Rows.{all_rows, sample_rows, low_row}
use Rattle.byrows.specs.Ground.{Ground, names, rows_inside, once, samples_inside, row_node, low_row-is, low_inside, clean_ok}
use Rattle.byrows.specs.Kept.{name_edge, Others, EdgeRows, kept_are, edges_are}

-- ---- under a map

map_all : {A B : Type 0} {Q : A → Type 0} (g h : A → B) {l : List A} → ((a : A) → Q a → g a ≡ h a) → All Q l → map g l ≡ map h l
map_all g h e done = refl
map_all g h e (also q x) = ap₂ ◌∷◌ (e _ q) (map_all g h e x)

index_names : (n : ℕ) (f : ℕ → ℕ) → ((i j : ℕ) → i < n → j < n → f i ≡ f j → i ≡ j) → (u : ℕ) → u < n → (l : List ℕ) → All (λ v. v < n) l → index_of (f u) (map f l) ≡ index_of u l
unfolding index_of
index_names n f apart u p [] done = refl
index_names n f apart u p (a ∷ l) (also q x) = go (eqb u a) refl (index_names n f apart u p l x)
  where
    go : (t : Bool) → eqb u a ≡ t → index_of (f u) (map f l) ≡ index_of u l → index_of (f u) (map f (a ∷ l)) ≡ index_of u (a ∷ l)
    go true e ih = rw (eqb_names n f apart u a p q ∙ e, index_of) (rw (e, index_of))
    go false e ih = rw (eqb_names n f apart u a p q ∙ e, index_of) (rw (e, index_of) (ap suc ih))

-- a mutation on a row, by births
abbrev pub name_mutation : (ℕ → ℕ) → Mutation → Mutation
name_mutation f m = record { site = m.site; node = f m.node; derived = m.derived }

-- moving the named is naming the moved
moved_names : (n : ℕ) (f : ℕ → ℕ) (pos : ℕ → ℕ) (G G' : ℕ → ℕ → Option ℕ) → ((x u : ℕ) → u < n → G' x (f u) ≡ map_option f (G x u)) → (l : List Mutation) → All (λ (m : Mutation). m.node < n) l → moved pos G' (map (name_mutation f) l) ≡ map (name_mutation f) (moved pos G l)
unfolding moved
moved_names n f pos G G' h [] done = refl
moved_names n f pos G G' h (m ∷ l) (also p x) = go (G (pos m.site) m.node) refl (moved_names n f pos G G' h l x)
  where
    go : (o : Option ℕ) → G (pos m.site) m.node ≡ o → moved pos G' (map (name_mutation f) l) ≡ map (name_mutation f) (moved pos G l) → moved pos G' (map (name_mutation f) (m ∷ l)) ≡ map (name_mutation f) (moved pos G (m ∷ l))
    go none e ih = rw (h (pos m.site) m.node p ∙ ap (map_option f) e, moved) (rw (e, moved) ih)
    go (some w) e ih = rw (h (pos m.site) m.node p ∙ ap (map_option f) e, moved) (rw (e, moved) (ap (λ k. record { site = m.site; node = f w; derived = m.derived } ∷ k) ih))

moved_inside : (n : ℕ) (pos : ℕ → ℕ) (G : ℕ → ℕ → Option ℕ) → ((x u w : ℕ) → u < n → G x u ≡ some w → w < n) → (l : List Mutation) → All (λ (m : Mutation). m.node < n) l → All (λ (m : Mutation). m.node < n) (moved pos G l)
unfolding moved
moved_inside n pos G h [] done = done
moved_inside n pos G h (m ∷ l) (also p x) = go (G (pos m.site) m.node) refl (moved_inside n pos G h l x)
  where
    go : (o : Option ℕ) → G (pos m.site) m.node ≡ o → All (λ (m : Mutation). m.node < n) (moved pos G l) → All (λ (m : Mutation). m.node < n) (moved pos G (m ∷ l))
    go none e ih = rw (e, moved) ih
    go (some w) e ih = rw (e, moved) (also (h (pos m.site) m.node w p e) ih)

-- ---- the result by rows

-- tables 1 to 4 of rows kept K, edges F between rows and mutations M on rows: a row becomes its place among the kept
unfoldable pub tables_by : Tables → List ℕ → List Edge → List Mutation → Tables
unfolding index_of
tables_by T K F M = record {
  nodes = record { time = map (at T.nodes.time) K; birth = map (at T.nodes.birth) K; population = map (at T.nodes.population) K };
  edges = record {
    left = map (λ (e : Edge). e.left) F;
    right = map (λ (e : Edge). e.right) F;
    parent = map (λ (e : Edge). index_of e.parent K) F;
    child = map (λ (e : Edge). index_of e.child K) F;
  };
  sites = T.sites;
  muts = record {
    site = map (λ (m : Mutation). m.site) M;
    node = map (λ (m : Mutation). index_of m.node K) M;
    derived = map (λ (m : Mutation). m.derived) M;
  };
}

-- the mutations moved, by rows
unfoldable pub moved_rows : Tables → List ℕ → List Mutation
unfolding moved muts_of low_row
moved_rows T SR = moved (at T.sites.position) (low_row T.edges (length T.nodes.birth) SR) (muts_of (λ r. r) T.muts)

module _ (m : Limits) (L : ℕ) (T : Tables) (S : List ℕ) (g : Ground m L T S) where
  abbrev f : ℕ → ℕ
  f = at T.nodes.birth

  abbrev n : ℕ
  n = length T.nodes.birth

  abbrev R : Record
  R = record_of L T

  abbrev SR : List ℕ
  SR = sample_rows T.nodes.birth S

  nodes_inside : All (λ (m : Mutation). m.node < n) (muts_of (λ r. r) T.muts)
  unfolding muts_of
  nodes_inside = all_rows-is (λ (m : Mutation). m.node < n) (λ i. record { site = at T.muts.site i; node = at T.muts.node i; derived = at T.muts.derived i }) (length T.muts.site)
      (λ j l. omega (arith, g.sound.sites.node_row j l, g.sound.shape.births))

  muts_names : muts_of f T.muts ≡ map (name_mutation f) (muts_of (λ r. r) T.muts)
  unfolding muts_of
  muts_names = sym (map_rows (name_mutation f) (λ i. record { site = at T.muts.site i; node = at T.muts.node i; derived = at T.muts.derived i }) (length T.muts.site))

  moved_pos : (p q : ℕ → ℕ) (G : ℕ → ℕ → Option ℕ) → ((i : ℕ) → p i ≡ q i) → (l : List Mutation) → moved p G l ≡ moved q G l
  unfolding moved
  moved_pos p q G h [] = refl
  moved_pos p q G h (m ∷ l) = go (G (q m.site) m.node) refl (moved_pos p q G h l)
    where
      go : (o : Option ℕ) → G (q m.site) m.node ≡ o → moved p G l ≡ moved q G l → moved p G (m ∷ l) ≡ moved q G (m ∷ l)
      go none e ih = rw (ap (λ y. G y m.node) (h m.site) ∙ e, moved) (rw (e, moved) ih)
      go (some w) e ih = rw (ap (λ y. G y m.node) (h m.site) ∙ e, moved) (rw (e, moved) (ap (λ k. record { site = m.site; node = w; derived = m.derived } ∷ k) ih))

  -- the moved mutations by births are those by rows, named
  pub muts_are : (clean stands S R).muts ≡ map (name_mutation f) (moved_rows T SR)
  unfolding clean record_of moved_rows
  muts_are =
      moved_pos (pos_of (sites_of T.sites)) (at T.sites.position) (low_at stands R S) (pos_of-is T.sites) (muts_of f T.muts)
      ∙ ap (moved (at T.sites.position) (low_at stands R S)) muts_names
      ∙ moved_names n f (at T.sites.position) (low_row T.edges n SR) (low_at stands R S) (λ x u l. low_row-is m L T S g x u l) (muts_of (λ r. r) T.muts) nodes_inside

  moved_in : All (λ (d : Mutation). d.node < n) (moved_rows T SR)
  unfolding moved_rows
  moved_in = moved_inside n (at T.sites.position) (low_row T.edges n SR) (λ x u w l h. low_inside m L T S g x u w l h) (muts_of (λ r. r) T.muts) nodes_inside

  module _ (OR : List ℕ) (o : Others m L T S g OR) (F : List Edge) (r : EdgeRows m L T S g F) where
    abbrev K : List ℕ
    K = SR ++ OR

    kept_inside : All (λ v. v < n) K
    kept_inside = all_app (samples_inside m L T S g) o.inside

    born : births (clean stands S R).nodes ≡ map f K
    born = clean_births stands stands_profile R S (clean_ok m L T S g) ∙ sym (kept_are m L T S g OR o)

    -- the place of a row among the kept is that of its fish
    place : (u : ℕ) → u < n → index_of (f u) (births (clean stands S R).nodes) ≡ index_of u K
    place u l = ap (index_of (f u)) born ∙ index_names n f (once m L T S g) u l K kept_inside

    -- a node row is copied whole, so each of its columns is
    node_field : (h : Node → ℕ) → map h (clean stands S R).nodes ≡ map (λ u. h (node_at T.nodes u)) K
    unfolding clean
    node_field h =
        map-map h (node_of R.nodes) (kept stands R S)
        ∙ ap (map (λ b. h (node_of R.nodes b))) (sym (kept_are m L T S g OR o))
        ∙ map-map (λ b. h (node_of R.nodes b)) f K
        ∙ map_all (λ u. h (node_of R.nodes (f u))) (λ u. h (node_at T.nodes u)) (λ u l. ap h (row_node m L T S g u l)) kept_inside

    edges_named : (clean stands S R).edges ≡ map (name_edge f) F
    unfolding clean record_of
    edges_named = sym (edges_are m L T S g OR o F r)

    edge_field : (h : Edge → ℕ) (k : Edge → ℕ) → ((e : Edge) → (e.parent < n) × (e.child < n) → h (name_edge f e) ≡ k e) → map h (clean stands S R).edges ≡ map k F
    edge_field h k e = ap (map h) edges_named ∙ map-map h (name_edge f) F ∙ map_all (λ d. h (name_edge f d)) k e r.inside

    mutation_field : (h : Mutation → ℕ) (k : Mutation → ℕ) → ((d : Mutation) → d.node < n → h (name_mutation f d) ≡ k d) → map h (clean stands S R).muts ≡ map k (moved_rows T SR)
    mutation_field h k e = ap (map h) muts_are ∙ map-map h (name_mutation f) (moved_rows T SR) ∙ map_all (λ d. h (name_mutation f d)) k e moved_in

    sites_stay : (c : List ℕ) (h : Site → ℕ) → length c ≡ length T.sites.position → ((i : ℕ) → h (record { pos = at T.sites.position i; state = at T.sites.ancestral i }) ≡ at c i) → map h (clean stands S R).sites ≡ c
    unfolding clean record_of sites_of
    sites_stay c h e q =
        map_rows h (λ i. record { pos = at T.sites.position i; state = at T.sites.ancestral i }) (length T.sites.position)
        ∙ rows_same (λ i. h (record { pos = at T.sites.position i; state = at T.sites.ancestral i })) (at c) q (length T.sites.position)
        ∙ ap (rows (at c)) (sym e)
        ∙ rows_at c
      where
        rows_same : (a b : ℕ → ℕ) → ((i : ℕ) → a i ≡ b i) → (k : ℕ) → rows a k ≡ rows b k
        rows_same a b z k = ap (λ (w : ℕ → ℕ). rows w k) (λ i j. z j i)

    -- tables 1 to 4 of the result, by rows
    pub cleaned_by_rows : cleaned stands L T S ≡ tables_by T K F (moved_rows T SR)
    unfolding cleaned tables_of tables_by
    cleaned_by_rows = λ i. record {
      nodes = record { time = node_field (λ (z : Node). z.time) i; birth = born i; population = node_field (λ (z : Node). z.population) i };
      edges = record {
        left = edge_field (λ (e : Edge). e.left) (λ (e : Edge). e.left) (λ e p. refl) i;
        right = edge_field (λ (e : Edge). e.right) (λ (e : Edge). e.right) (λ e p. refl) i;
        parent = edge_field (λ (e : Edge). index_of e.parent (births (clean stands S R).nodes)) (λ (e : Edge). index_of e.parent K) (λ e p. place e.parent p.0) i;
        child = edge_field (λ (e : Edge). index_of e.child (births (clean stands S R).nodes)) (λ (e : Edge). index_of e.child K) (λ e p. place e.child p.1) i;
      };
      sites = record {
        position = sites_stay T.sites.position (λ (s : Site). s.pos) refl (λ j. refl) i;
        ancestral = sites_stay T.sites.ancestral (λ (s : Site). s.state) g.sound.shape.states (λ j. refl) i;
      };
      muts = record {
        site = mutation_field (λ (d : Mutation). d.site) (λ (d : Mutation). d.site) (λ d p. refl) i;
        node = mutation_field (λ (d : Mutation). index_of d.node (births (clean stands S R).nodes)) (λ (d : Mutation). index_of d.node K) (λ d p. place d.node p) i;
        derived = mutation_field (λ (d : Mutation). d.derived) (λ (d : Mutation). d.derived) (λ d p. refl) i;
      };
    }

    row_in-is : (u : ℕ) → u < n → row_in (map f K) (f u) ≡ row_in K u
    unfolding row_in
    row_in-is u l = go (mem u K) refl
      where
        go : (t : Bool) → mem u K ≡ t → row_in (map f K) (f u) ≡ row_in K u
        go true e = rw (mem_names n f (once m L T S g) u l K kept_inside ∙ e, row_in) (rw (e, row_in) (index_names n f (once m L T S g) u l K kept_inside))
        go false e = rw (mem_names n f (once m L T S g) u l K kept_inside ∙ e, row_in) (rw (e, row_in))

    -- the node map, by rows
    pub map_by_rows : node_map stands L T S ≡ map (row_in K) (all_rows n)
    unfolding node_map
    map_by_rows =
        ap₂ (λ k b. map (row_in k) b) (sym (kept_are m L T S g OR o)) (sym (names m L T S g))
        ∙ map-map (row_in (map f K)) f (all_rows n)
        ∙ map_all (λ u. row_in (map f K) (f u)) (row_in K) row_in-is (rows_inside m L T S g)
