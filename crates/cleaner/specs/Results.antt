-- The result of a cleaning by its working columns: how many rows each table has, and what its columns hold when all is written.
use Rattle.std.specs.Prelude.{◌≡◌, List, ◌++◌, map, ℕ, ◌<◌, ◌≤◌, get_or, take}
use Rattle.std.proofs.Common.{sym, ◌∙◌, arith, length-take-le}
use Rattle.std.proofs.Math.Path.{ap}
use Rattle.std.proofs.lemmas.Simd.{map-map}
use Rattle.std.proofs.Math.ListN.{length, length-map}
use Rattle.meaning.specs.Words.{at, index_of, sort}
use Rattle.meaning.specs.Rows.{NodeColumns, EdgeColumns, MutationColumns, Tables, Edge, age_table}
use Rattle.meaning.specs.Forest.{stands}
use Rattle.meaning.specs.Answer.{limits, put}
use Rattle.meaning.specs.Clean.{row_in, cleaned, node_map}
use Rattle.laws.specs.Counting.{length_rows}
use Rattle.laws.specs.Members.{at_map}
use Rattle.history.specs.Lists.{all_app}
use Rattle.bridge.specs.Parents.{code}
use Rattle.order.specs.Order.{Inside}
use Rattle.keys.specs.Keys.{InTurns}
use Rattle.byrows.specs.Rows.{all_rows, sample_rows, up_row, low_row}
use Rattle.byrows.specs.Ground.{Ground, samples_inside}
use Rattle.byrows.specs.Result.{tables_by, moved_rows, cleaned_by_rows, map_by_rows}
use Rattle.runs.specs.Runs.{Collected, no_edge}
use Rattle.runs.specs.Collected.{by_row_key, edge_rows, length_sort}
use Rattle.placing.specs.Placing.{movers}
use Rattle.placing.specs.Movers.{movers_below}
use Rattle.sweep.specs.Columns.{low_cell}
use Rattle.keeping.specs.Fronts.{inside_of}
use Rattle.writing.specs.Renamed.{renamed}
use Rattle.cleaner.specs.Reading.{map_inside, put_over, front_is}
use Rattle.cleaner.specs.Places.{renamed_row}
use Rattle.cleaner.specs.Work.{Work, input_in, Ready}
use Rattle.cleaner.specs.Fitting.{Counted}
use Rattle.cleaner.specs.Finishing.{RowIs, Filled, EdgesDone, MutationsDone}
use Rattle.cleaner.specs.Lists.{ListsWritten}
use Rattle.cleaner.specs.HeldEdges.{parents_inside, children_inside, in_turns, the_edges}
use Rattle.cleaner.specs.HeldMutations.{the_mutations}

module _ (L : ℕ) (T : Tables) (S : List ℕ) (W : Work) (r : Ready L T S W) where
  abbrev n : ℕ
  n = length T.nodes.birth

  abbrev q : ℕ
  q = length T.muts.site

  abbrev SR : List ℕ
  SR = sample_rows T.nodes.birth S

  abbrev K : List ℕ
  K = SR ++ r.others

  abbrev g : Ground limits L T S
  g = r.footing

  abbrev low_of : ℕ → ℕ
  low_of i = code (low_row T.edges n SR (at T.sites.position (at T.muts.site i)) (at T.muts.node i))

  births : n ≡ length T.nodes.time
  births = g.sound.shape.births

  fits : n ≤ length W.places
  fits = omega (arith, g.sound.size.nodes, births, r.long.places)

  -- edges that a sweep collects, with rows counted by births
  collected_of : (F : List Edge) → Collected (up_row T.edges (length T.nodes.time) SR) (length T.nodes.time) L F → Collected (up_row T.edges n SR) n L F
  collected_of F c = rw births c

  module _ (F : List Edge) (c : Collected (up_row T.edges n SR) n L F) where
    is : cleaned stands L T S ≡ tables_by T K (sort (by_row_key T.nodes) F) (moved_rows T SR)
    is = cleaned_by_rows limits L T S g r.others r.known (sort (by_row_key T.nodes) F) (edge_rows limits L T S g F c)

    map_is : node_map stands L T S ≡ map (row_in K) (all_rows n)
    map_is = map_by_rows limits L T S g r.others r.known (sort (by_row_key T.nodes) F) (edge_rows limits L T S g F c)

    -- as many edges as were collected
    lefts_long : length (cleaned stands L T S).edges.left ≡ length F
    unfolding tables_by
    lefts_long = ap (λ (z : Tables). length z.edges.left) is ∙ length-map (sort (by_row_key T.nodes) F) (λ (e : Edge). e.left) ∙ length_sort (by_row_key T.nodes) F

    rights_long : length (cleaned stands L T S).edges.right ≡ length F
    unfolding tables_by
    rights_long = ap (λ (z : Tables). length z.edges.right) is ∙ length-map (sort (by_row_key T.nodes) F) (λ (e : Edge). e.right) ∙ length_sort (by_row_key T.nodes) F

    parents_long : length (cleaned stands L T S).edges.parent ≡ length F
    unfolding tables_by
    parents_long = ap (λ (z : Tables). length z.edges.parent) is ∙ length-map (sort (by_row_key T.nodes) F) (λ (e : Edge). index_of e.parent K) ∙ length_sort (by_row_key T.nodes) F

    children_long : length (cleaned stands L T S).edges.child ≡ length F
    unfolding tables_by
    children_long = ap (λ (z : Tables). length z.edges.child) is ∙ length-map (sort (by_row_key T.nodes) F) (λ (e : Edge). index_of e.child K) ∙ length_sort (by_row_key T.nodes) F

  abbrev F₁ : List Edge
  F₁ = r.swept.edges.0

  c₁ : Collected (up_row T.edges n SR) n L F₁
  c₁ = collected_of F₁ r.swept.edges.1

  -- ---- how many rows

  movers_is : movers (low_cell (input_in T W) SR) q ≡ movers low_of q
  movers_is = ap (λ m. movers (λ i. code (low_row T.edges m SR (at T.sites.position (at T.muts.site i)) (at T.muts.node i))) q) (sym births)

  low_same : (i : ℕ) → low_cell (input_in T W) SR i ≡ low_of i
  low_same i = ap (λ m. code (low_row T.edges m SR (at T.sites.position (at T.muts.site i)) (at T.muts.node i))) (sym births)

  nodes_is : (cleaned stands L T S).nodes ≡ record { time = map (at T.nodes.time) K; birth = map (at T.nodes.birth) K; population = map (at T.nodes.population) K }
  unfolding tables_by
  nodes_is = ap (λ (z : Tables). z.nodes) (is F₁ c₁)

  muts_is : (cleaned stands L T S).muts ≡ record { site = map (at T.muts.site) (movers low_of q); node = map (λ i. renamed W.places (low_of i)) (movers low_of q); derived = map (at T.muts.derived) (movers low_of q) }
  unfolding tables_by
  muts_is = ap (λ (z : Tables). z.muts) (is F₁ c₁) ∙ the_mutations L T S g r.others r.known W.places fits r.placed

  pub sites_is : (cleaned stands L T S).sites ≡ T.sites
  unfolding tables_by
  sites_is = ap (λ (z : Tables). z.sites) (is F₁ c₁)

  kept_count : length K ≡ W.nodes
  kept_count = ap length (sym r.kept_is) ∙ length-take-le W.nodes W.kept r.kept_long

  movers_count : length (movers low_of q) ≡ W.moves.count
  movers_count = ap length (sym movers_is) ∙ sym r.swept.held.counted

  pub counted : Counted (cleaned stands L T S) (node_map stands L T S) (record { nodes = W.nodes; edges = W.store.count; sites = length T.sites.position; mutations = W.moves.count; rows = length T.nodes.time })
  unfolding all_rows
  counted = record {
    nodes = ap (λ (z : NodeColumns). length z.time) nodes_is ∙ length-map K (at T.nodes.time) ∙ kept_count;
    edges = λ few. lefts_long F₁ c₁ ∙ omega (arith, r.swept.edges.2.counted);
    over = λ h. omega (arith, lefts_long F₁ c₁, r.swept.edges.2.counted);
    sites = ap (λ z. length z.position) sites_is;
    mutations = ap (λ (z : MutationColumns). length z.site) muts_is ∙ length-map (movers low_of q) (at T.muts.site) ∙ movers_count;
    rows = ap length (map_is F₁ c₁) ∙ length-map (all_rows n) (row_in K) ∙ length_rows (λ i. i) n ∙ births;
  }

  -- ---- nodes and map

  pub kept_inside : Inside (length T.nodes.time) (take W.nodes W.kept)
  kept_inside = rw r.kept_is (rw births at (inside_of n K (all_app (samples_inside limits L T S g) r.known.inside)))

  pub times_is : (cleaned stands L T S).nodes.time ≡ map (at T.nodes.time) (take W.nodes W.kept)
  times_is = ap (λ (z : NodeColumns). z.time) nodes_is ∙ ap (map (at T.nodes.time)) (sym r.kept_is)

  pub births_is : (cleaned stands L T S).nodes.birth ≡ map (at T.nodes.birth) (take W.nodes W.kept)
  births_is = ap (λ (z : NodeColumns). z.birth) nodes_is ∙ ap (map (at T.nodes.birth)) (sym r.kept_is)

  pub populations_is : (cleaned stands L T S).nodes.population ≡ map (at T.nodes.population) (take W.nodes W.kept)
  populations_is = ap (λ (z : NodeColumns). z.population) nodes_is ∙ ap (map (at T.nodes.population)) (sym r.kept_is)

  pub places_is : node_map stands L T S ≡ take (length T.nodes.time) W.places
  places_is = map_is F₁ c₁ ∙ sym r.placed ∙ ap (λ z. take z W.places) births

  -- ---- edges and mutations

  module _ (few : W.store.count ≤ limits.edges) (E E₂ : EdgeColumns) (M₀ R₂ N₀ V₂ : List ℕ) (f : Filled L (input_in T W) SR W.store.count W.moves.count E E₂ M₀ R₂ N₀ V₂) where
    abbrev k : ℕ
    k = W.store.count

    c₂ : Collected (up_row T.edges n SR) n L f.edges
    c₂ = collected_of f.edges f.collected

    -- the second list has as many edges as the first
    same_count : length f.edges ≡ k
    same_count = sym (lefts_long f.edges c₂) ∙ counted.edges few

    cell : (i : ℕ) → i < k → RowIs E₂ i (get_or f.edges i no_edge)
    cell i l = f.cells i l (omega (arith, same_count))

    module _ (pl : k ≤ length E₂.parent) (cl : k ≤ length E₂.child) where
      pub parents_rows : Inside (length T.nodes.time) (take k E₂.parent)
      parents_rows = rw births at (parents_inside L T S g r.others r.known f.edges c₂ E₂ k same_count cell pl cl)

      pub children_rows : Inside (length T.nodes.time) (take k E₂.child)
      children_rows = rw births at (children_inside L T S g r.others r.known f.edges c₂ E₂ k same_count cell pl cl)

      pub turns : InTurns E₂.left E₂.child k
      turns = in_turns L T S g r.others r.known f.edges c₂ E₂ k same_count cell pl cl

      edges_are : (E₃ : EdgeColumns) (e : EdgesDone (age_table T.nodes.time T.nodes.birth) W.places k E₂ E₃) → (cleaned stands L T S).edges ≡ record { left = map (at E₂.left) e.order; right = map (at E₂.right) e.order; parent = map (λ i. renamed W.places (at E₂.parent i)) e.order; child = map (λ i. renamed W.places (at E₂.child i)) e.order }
      unfolding tables_by
      edges_are E₃ e = ap (λ (z : Tables). z.edges) (is f.edges c₂) ∙ the_edges L T S g r.others r.known f.edges c₂ E₂ k same_count cell pl cl W.places E₃ e fits r.placed

    listed_is : W.moves.count ≤ length R₂ → take W.moves.count R₂ ≡ movers low_of q
    listed_is h = front_is W.moves.count R₂ (movers low_of q) h movers_count (λ j l. (f.moving j l (omega (arith, movers_count, ap length movers_is))).0 ∙ ap (λ z. at z j) movers_is)

    lows_are : W.moves.count ≤ length V₂ → take W.moves.count V₂ ≡ map low_of (movers low_of q)
    lows_are h = front_is W.moves.count V₂ (map low_of (movers low_of q)) h (length-map (movers low_of q) low_of ∙ movers_count) (λ j l. (f.moving j l (omega (arith, movers_count, ap length movers_is))).1 ∙ low_at-is j l)
      where
        low_at-is : (j : ℕ) → j < W.moves.count → low_cell (input_in T W) SR (at (movers (low_cell (input_in T W) SR) q) j) ≡ at (map low_of (movers low_of q)) j
        low_at-is j l =
            low_same (at (movers (low_cell (input_in T W) SR) q) j)
            ∙ ap (λ z. low_of (at z j)) movers_is
            ∙ sym (at_map low_of (movers low_of q) j (omega (arith, movers_count)))

    -- the rows listed are mutations
    pub listed_rows : W.moves.count ≤ length R₂ → Inside (length T.muts.derived) (take W.moves.count R₂)
    listed_rows h = rw (listed_is h) (record { row = λ j l. omega (arith, movers_below low_of q j l, g.sound.shape.derived) })

    module _ (pl : k ≤ length E₂.parent) (cl : k ≤ length E₂.child) (rl : W.moves.count ≤ length R₂) (vl : W.moves.count ≤ length V₂) (E₃ : EdgeColumns) (e : EdgesDone (age_table T.nodes.time T.nodes.birth) W.places k E₂ E₃) (D₀ R₃ V₃ D₃ : List ℕ) (m : MutationsDone W.places T.muts.site T.muts.derived W.moves.count R₂ V₂ D₀ R₃ V₃ D₃) where
      abbrev new : Tables
      new = cleaned stands L T S

      sites_are : map (renamed T.muts.site) (take W.moves.count R₂) ≡ new.muts.site
      sites_are =
          ap (map (renamed T.muts.site)) (listed_is rl)
          ∙ map_inside q (renamed T.muts.site) (at T.muts.site) (movers low_of q) (record { row = λ j l. movers_below low_of q j l }) (λ v l. renamed_row T.muts.site v l)
          ∙ sym (ap (λ (z : MutationColumns). z.site) muts_is)

      low_nodes : map (renamed W.places) (take W.moves.count V₂) ≡ new.muts.node
      low_nodes =
          ap (map (renamed W.places)) (lows_are vl)
          ∙ map-map (renamed W.places) low_of (movers low_of q)
          ∙ sym (ap (λ (z : MutationColumns). z.node) muts_is)

      states_are : map (at T.muts.derived) (take W.moves.count R₂) ≡ new.muts.derived
      states_are = ap (map (at T.muts.derived)) (listed_is rl) ∙ sym (ap (λ (z : MutationColumns). z.derived) muts_is)

      moved_long : (h : ℕ → ℕ) (z : List ℕ) → z ≡ map h (movers low_of q) → length z ≡ W.moves.count
      moved_long h z w = ap length w ∙ length-map (movers low_of q) h ∙ movers_count

      -- tables 2 and 4 of the result
      pub lists_written : ListsWritten new E E₃ (record { site = M₀; node = N₀; derived = D₀ }) (record { site = R₃; node = V₃; derived = D₃ })
      lists_written = record {
        lefts = e.lefts ∙ ap (λ z. put z E₂.left) (sym (ap (λ (z : EdgeColumns). z.left) (edges_are pl cl E₃ e))) ∙ put_over k new.edges.left E.left E₂.left (lefts_long f.edges c₂ ∙ same_count) f.left_front;
        rights = e.rights ∙ ap (λ z. put z E₂.right) (sym (ap (λ (z : EdgeColumns). z.right) (edges_are pl cl E₃ e))) ∙ put_over k new.edges.right E.right E₂.right (rights_long f.edges c₂ ∙ same_count) f.right_front;
        parents = e.parents ∙ ap (λ z. put z E₂.parent) (sym (ap (λ (z : EdgeColumns). z.parent) (edges_are pl cl E₃ e))) ∙ put_over k new.edges.parent E.parent E₂.parent (parents_long f.edges c₂ ∙ same_count) f.parent_front;
        children = e.children ∙ ap (λ z. put z E₂.child) (sym (ap (λ (z : EdgeColumns). z.child) (edges_are pl cl E₃ e))) ∙ put_over k new.edges.child E.child E₂.child (children_long f.edges c₂ ∙ same_count) f.child_front;
        sites = m.sites ∙ ap (λ z. put z R₂) sites_are ∙ put_over W.moves.count new.muts.site M₀ R₂ (moved_long (at T.muts.site) new.muts.site (ap (λ (z : MutationColumns). z.site) muts_is)) f.rows_front;
        nodes = m.nodes ∙ ap (λ z. put z V₂) low_nodes ∙ put_over W.moves.count new.muts.node N₀ V₂ (moved_long (λ i. renamed W.places (low_of i)) new.muts.node (ap (λ (z : MutationColumns). z.node) muts_is)) f.lows_front;
        states = m.states ∙ ap (λ z. put z D₀) states_are;
      }
