-- The joined record's columns by those of base and batch: nodes, edges, sites and mutations, how many rows each has, and all four as they are written.
use mathlib.Core.Path.{◌≡◌, sym, ap, ap₂, ◌∙◌}
use mathlib.Core.Bool.{Bool, true}
use mathlib.Core.List.{List, [], ◌∷◌, ◌++◌, map, map-append}
use Prim.Native.Nat.{ℕ, ◌+◌, ◌≤◌}
use native.Mathlib.Omega.{arith}
use lib.ListN.{length, length-append, length-map}
use Rattle.meaning.specs.Words.{at, rows, sort, count}
use Rattle.meaning.specs.Rows.{Tables, NodeColumns, SiteColumns, MutationColumns, EdgeColumns, Node, Site, age_table, node_at, nodes_of, sites_of, record_of, tables_of}
use Rattle.meaning.specs.Answer.{done, limits, accepted, put, left_by}
use Rattle.meaning.specs.Lent.{cells_by}
use Rattle.meaning.specs.Join.{BatchTables, batch_of, join, joined}
use Rattle.laws.specs.Counting.{length_rows, rows_at, map_rows}
use Rattle.order.specs.Counts.{bit, count_nil, count_cons}
use Rattle.order.specs.Laws.{count_sort}
use Rattle.history.specs.Nodes.{births_join}
use Rattle.accepted.specs.Columns.{births_of}
use Rattle.accepted.specs.Refusals.{first_of-is, rest_of}
use Rattle.accepted.specs.Rooms.{Fits}
use Rattle.batches.specs.Joint.{joint_edges, joint_mutations, all_births, all_times, JointPut}
use Rattle.batches.specs.Asked.{read_base, read_batch}
use Rattle.batches.specs.Aged.{joint_aged}
use Rattle.batches.proofs.Together.{joint_rows}
use Rattle.joint.specs.Asked.{EdgesAsked}
use Rattle.joint.specs.Sorting.{edge_order, edges_by}
use Rattle.joint.specs.Mutations.{site_order, mutations_by_site, MutationsPut, MutationsAsked}
use Rattle.joiner.specs.Joinable.{Joinable}
use Rattle.joint.proofs.Ordered.{joined_edges}
use Rattle.joint.proofs.BySite.{joined_mutations}
use Rattle.joiner.proofs.Granted.{joint, base_single, batch_single, edges_asked, mutation_rows, mutations_asked}

-- ---- a sort has as many rows

count_all : (l : List ℕ) → count (λ v. true) l ≡ length l
unfolding bit
count_all [] = count_nil (λ v. true)
count_all (a ∷ l) = omega (arith, count_cons (λ v. true) a l, count_all l)

length_sort : (lt : ℕ → ℕ → Bool) (l : List ℕ) → length (sort lt l) ≡ length l
length_sort lt l = sym (count_all (sort lt l)) ∙ count_sort lt (λ v. true) l ∙ count_all l

-- ---- nodes and sites

times_of : (N : NodeColumns) → map (λ (n : Node). n.time) (nodes_of N) ≡ N.time
unfolding nodes_of
times_of N = map_rows (λ (n : Node). n.time) (node_at N) (length N.time) ∙ rows_at N.time

stocks_of : (N : NodeColumns) → length N.population ≡ length N.time → map (λ (n : Node). n.population) (nodes_of N) ≡ N.population
unfolding nodes_of
stocks_of N e = map_rows (λ (n : Node). n.population) (node_at N) (length N.time) ∙ ap (rows (at N.population)) (sym e) ∙ rows_at N.population

positions_of : (P : SiteColumns) → map (λ (s : Site). s.pos) (sites_of P) ≡ P.position
unfolding sites_of
positions_of P = map_rows (λ (s : Site). s.pos) (λ i. record { pos = at P.position i; state = at P.ancestral i }) (length P.position) ∙ rows_at P.position

states_of : (P : SiteColumns) → length P.ancestral ≡ length P.position → map (λ (s : Site). s.state) (sites_of P) ≡ P.ancestral
unfolding sites_of
states_of P e = map_rows (λ (s : Site). s.state) (λ i. record { pos = at P.position i; state = at P.ancestral i }) (length P.position) ∙ ap (rows (at P.ancestral)) (sym e) ∙ rows_at P.ancestral

module _ (L : ℕ) (T : Tables) (B : BatchTables) (k : Joinable L T B) where
  joined_times : (joined L T B).nodes.time ≡ all_times T B
  unfolding joined tables_of join record_of batch_of
  joined_times = map-append (λ (n : Node). n.time) (nodes_of T.nodes) (nodes_of B.nodes) ∙ ap₂ ◌++◌ (times_of T.nodes) (times_of B.nodes)

  joined_births : (joined L T B).nodes.birth ≡ all_births T B
  unfolding joined tables_of join record_of batch_of
  joined_births = births_join (nodes_of T.nodes) (nodes_of B.nodes) ∙ ap₂ ◌++◌ (births_of T.nodes k.sound.shape.births) (births_of B.nodes k.batch.shape.births)

  abbrev pub all_stocks : List ℕ
  all_stocks = T.nodes.population ++ B.nodes.population

  joined_stocks : (joined L T B).nodes.population ≡ all_stocks
  unfolding joined tables_of join record_of batch_of
  joined_stocks = map-append (λ (n : Node). n.population) (nodes_of T.nodes) (nodes_of B.nodes) ∙ ap₂ ◌++◌ (stocks_of T.nodes k.sound.shape.populations) (stocks_of B.nodes k.batch.shape.populations)

  joined_positions : (joined L T B).sites.position ≡ T.sites.position
  unfolding joined tables_of join record_of
  joined_positions = positions_of T.sites

  joined_states : (joined L T B).sites.ancestral ≡ T.sites.ancestral
  unfolding joined tables_of join record_of
  joined_states = states_of T.sites k.sound.shape.states

  -- the edges by rows: no population decides them
  edges_are : (joined L T B).edges ≡ edges_by (edge_order (age_table (all_times T B) (all_births T B)) (joint_edges (all_births T B) T.edges B.edges)) (joint_edges (all_births T B) T.edges B.edges)
  edges_are = joined_edges L T B (joint L T B k) k.batch.size.edges (base_single L T B k) (batch_single L T B k)

  -- so they are read off the columns of nodes and edges alone
  edges_read : (joined L (read_base T.nodes.time T.nodes.birth T.edges []) (read_batch B.nodes.time B.nodes.birth B.edges [] [])).edges ≡ (joined L T B).edges
  edges_read = joined_edges L (read_base T.nodes.time T.nodes.birth T.edges []) (read_batch B.nodes.time B.nodes.birth B.edges [] []) (joint_aged L T B [] [] [] (joint L T B k)) k.batch.size.edges (base_single L T B k) (batch_single L T B k) ∙ sym edges_are

  mutations_are : (joined L T B).muts ≡ mutations_by_site (joint_mutations (all_births T B) T.muts B.muts)
  mutations_are = joined_mutations L T B (joint L T B k) (mutation_rows L T B k)

  -- ---- how many rows

  pub nodes_count : length (joined L T B).nodes.time ≡ length T.nodes.time + length B.nodes.time
  nodes_count = ap length joined_times ∙ length-append T.nodes.time B.nodes.time

  pub sites_count : length (joined L T B).sites.position ≡ length T.sites.position
  sites_count = ap length joined_positions

  pub edges_count : length (joined L T B).edges.left ≡ length T.edges.left + length B.edges.left
  unfolding edge_order
  edges_count =
      let N : NodeColumns = age_table (all_times T B) (all_births T B) in
      let E : EdgeColumns = joint_edges (all_births T B) T.edges B.edges in
      ap (λ (e : EdgeColumns). length e.left) edges_are
      ∙ length-map (edge_order N E) (at E.left)
      ∙ length_sort _ (rows (λ i. i) (length E.left))
      ∙ length_rows (λ i. i) (length E.left)
      ∙ joint_rows L T B (joint L T B k)

  pub muts_count : length (joined L T B).muts.site ≡ length T.muts.site + length B.muts.site
  unfolding mutations_by_site site_order
  muts_count =
      let M : MutationColumns = joint_mutations (all_births T B) T.muts B.muts in
      ap (λ (m : MutationColumns). length m.site) mutations_are
      ∙ length-map (site_order M.site) (at M.site)
      ∙ length_sort _ (rows (λ i. i) (length M.site))
      ∙ length_rows (λ i. i) (length M.site)
      ∙ length-append T.muts.site B.muts.site

  -- ---- the room that the writing of each table asks

  module _ (out : Tables) (f : Fits limits (joined L T B) out) where
    pub nodes_room : (length T.nodes.time + length B.nodes.time ≤ length out.nodes.time) × (length T.nodes.birth + length B.nodes.birth ≤ length out.nodes.birth) × (length T.nodes.population + length B.nodes.population ≤ length out.nodes.population)
    nodes_room =
        let a : _ = first_of-is f.nodes.roomy in
        let b : _ = first_of-is (rest_of f.nodes.roomy) in
        let p : _ = first_of-is (rest_of (rest_of f.nodes.roomy)) in
        (omega (arith, nodes_count), omega (arith, nodes_count, k.sound.shape.births, k.batch.shape.births), omega (arith, nodes_count, k.sound.shape.populations, k.batch.shape.populations))

    pub edges_room : EdgesAsked L (read_base T.nodes.time T.nodes.birth T.edges []) (read_batch B.nodes.time B.nodes.birth B.edges [] []) out.edges
    edges_room =
        let l : _ = first_of-is f.edges.roomy in
        let r : _ = first_of-is (rest_of f.edges.roomy) in
        let p : _ = first_of-is (rest_of (rest_of f.edges.roomy)) in
        let c : _ = first_of-is (rest_of (rest_of (rest_of f.edges.roomy))) in
        edges_asked L T B k out.edges (record { left = omega (arith, edges_count); right = omega (arith, edges_count); parent = omega (arith, edges_count); child = omega (arith, edges_count) })

    pub sites_room : (length T.sites.ancestral ≡ length T.sites.position) × (length T.sites.position ≤ length out.sites.position) × (length T.sites.position ≤ length out.sites.ancestral)
    sites_room =
        let a : _ = first_of-is f.sites.roomy in
        let b : _ = first_of-is (rest_of f.sites.roomy) in
        (k.sound.shape.states, omega (arith, sites_count), omega (arith, sites_count))

    pub mutations_room : MutationsAsked T.nodes.birth B.nodes.birth T.muts B.muts out.muts
    mutations_room =
        let s : _ = first_of-is f.muts.roomy in
        let n : _ = first_of-is (rest_of f.muts.roomy) in
        let d : _ = first_of-is (rest_of (rest_of f.muts.roomy)) in
        mutations_asked L T B k out.muts (record { site = omega (arith, muts_count); node = omega (arith, muts_count); derived = omega (arith, muts_count) })

  -- ---- all four tables, as they are written

  pub all_written : (out now : Tables)
      → (now.nodes.time ≡ put (all_times T B) out.nodes.time) × (now.nodes.birth ≡ put (all_births T B) out.nodes.birth) × (now.nodes.population ≡ put all_stocks out.nodes.population)
      → JointPut (joined L (read_base T.nodes.time T.nodes.birth T.edges []) (read_batch B.nodes.time B.nodes.birth B.edges [] [])).edges out.edges now.edges
      → (now.sites.position ≡ put T.sites.position out.sites.position) × (now.sites.ancestral ≡ put T.sites.ancestral out.sites.ancestral)
      → MutationsPut (mutations_by_site (joint_mutations (all_births T B) T.muts B.muts)) out.muts now.muts
      → now ≡ cells_by done (joined L T B) out
  unfolding cells_by left_by accepted
  all_written out now n e s m = λ i. record {
    nodes = record {
      time = (n.0 ∙ ap (λ l. put l out.nodes.time) (sym joined_times)) i;
      birth = (n.1 ∙ ap (λ l. put l out.nodes.birth) (sym joined_births)) i;
      population = (n.2 ∙ ap (λ l. put l out.nodes.population) (sym joined_stocks)) i;
    };
    edges = record {
      left = (e.left ∙ ap (λ (x : EdgeColumns). put x.left out.edges.left) edges_read) i;
      right = (e.right ∙ ap (λ (x : EdgeColumns). put x.right out.edges.right) edges_read) i;
      parent = (e.parent ∙ ap (λ (x : EdgeColumns). put x.parent out.edges.parent) edges_read) i;
      child = (e.child ∙ ap (λ (x : EdgeColumns). put x.child out.edges.child) edges_read) i;
    };
    sites = record { position = (s.0 ∙ ap (λ l. put l out.sites.position) (sym joined_positions)) i; ancestral = (s.1 ∙ ap (λ l. put l out.sites.ancestral) (sym joined_states)) i };
    muts = record {
      site = (m.site ∙ ap (λ (x : MutationColumns). put x.site out.muts.site) (sym mutations_are)) i;
      node = (m.node ∙ ap (λ (x : MutationColumns). put x.node out.muts.node) (sym mutations_are)) i;
      derived = (m.derived ∙ ap (λ (x : MutationColumns). put x.derived out.muts.derived) (sym mutations_are)) i;
    };
  }
