-- What a join's 22 to 26 find of a batch, as facts of the record and the batch that the columns mean.
use Rattle.std.specs.Prelude.{◌≡◌, true, false, List, ◌++◌, ◌⊎◌, ℕ, ◌<◌}
use Rattle.std.proofs.Math.Path.{ap}
use Rattle.std.proofs.Common.{◌∙◌, inl, inr, ⊎_elim, arith}
use Rattle.std.proofs.Math.ListN.{length}
use Rattle.meaning.specs.Words.{at, mem, index_of}
use Rattle.meaning.specs.Rows.{Tables, Edge, Mutation, Record, births, nodes_of, edges_of, sites_of, muts_of, record_of, time_of, pos_of}
use Rattle.meaning.specs.Forest.{parent_in, ancestor}
use Rattle.meaning.specs.Answer.{Limits}
use Rattle.meaning.specs.Join.{BatchTables, Batch, batch_of, time_in}
use Rattle.laws.specs.Bools.{clash}
use Rattle.laws.specs.Members.{index_at, index_below}
use Rattle.laws.specs.Counting.{length_rows}
use Rattle.laws.specs.Facts.{Distinct, All}
use Rattle.accepted.specs.Checked.{Sound}
use Rattle.accepted.specs.Batches.{BatchSound}
use Rattle.accepted.specs.Columns.{all_rows-is, birth_in, birth_out, births_once, pos_of-is}
use Rattle.results.specs.Pairwise.{Pairwise, pairwise_rows}
use Rattle.results.specs.Facts.{Right, Parted}

-- 22 to 26
pub record BatchFacts (L : ℕ) (R : Record) (B : Batch) : Type 0 where
  pub once : Distinct (births B.nodes)
  pub fresh : (b : ℕ) → mem b (births R.nodes) ≡ true → mem b (births B.nodes) ≡ true → ⊥
  pub parent_in-is : All (λ (e : Edge). (mem e.parent (births R.nodes) ≡ true) ⊎ (mem e.parent (births B.nodes) ≡ true)) B.edges
  pub child_in : All (λ (e : Edge). mem e.child (births B.nodes) ≡ true) B.edges
  pub edge : All (Right L (time_of (R.nodes ++ B.nodes))) B.edges
  pub parted : Pairwise Parted B.edges
  pub site_row : All (λ (m : Mutation). m.site < length R.sites) B.muts
  pub node_in : All (λ (m : Mutation). mem m.node (births B.nodes) ≡ true) B.muts
  pub settled : Pairwise (λ m n. m.site ≡ n.site → ancestor (parent_in (R.edges ++ B.edges) (pos_of R.sites m.site)) n.node m.node ≡ false) B.muts

module _ (m : Limits) (L : ℕ) (T : Tables) (B : BatchTables) (s : Sound m L T) (t : BatchSound m L T B) where
  -- row i of the batch's edges and mutations
  abbrev edge_row : ℕ → Edge
  edge_row i = record { left = at B.edges.left i; right = at B.edges.right i; parent = at B.edges.parent i; child = at B.edges.child i }

  abbrev mutation_row : ℕ → Mutation
  mutation_row i = record { site = at B.muts.site i; node = at B.muts.node i; derived = at B.muts.derived i }

  abbrev base : List ℕ
  base = births (nodes_of T.nodes)

  abbrev born : List ℕ
  born = births (nodes_of B.nodes)

  newly_born : (b : ℕ) → mem b base ≡ true → mem b born ≡ true → ⊥
  newly_born b h k =
      let q : mem b B.nodes.birth ≡ true = birth_out B.nodes t.shape.births b k in
      let f : mem (at B.nodes.birth (index_of b B.nodes.birth)) T.nodes.birth ≡ false = t.rows.fresh (index_of b B.nodes.birth) (index_below b B.nodes.birth q) in
      clash (birth_out T.nodes s.shape.births b h) (rw (index_at b B.nodes.birth q) at f)

  parent_known : (i : ℕ) → i < length B.edges.left → (mem (at B.edges.parent i) base ≡ true) ⊎ (mem (at B.edges.parent i) born ≡ true)
  parent_known i l = ⊎_elim
      (λ (h : mem (at B.edges.parent i) T.nodes.birth ≡ true). inl (birth_in T.nodes s.shape.births (at B.edges.parent i) h))
      (λ (h : mem (at B.edges.parent i) B.nodes.birth ≡ true). inr (birth_in B.nodes t.shape.births (at B.edges.parent i) h))
      (t.rows.edge i l).parent_in-is

  edges_all : (Q : Edge → Type 0) → ((i : ℕ) → i < length B.edges.left → Q (edge_row i)) → All Q (edges_of (λ b. b) B.edges)
  unfolding edges_of
  edges_all Q h = all_rows-is Q edge_row (length B.edges.left) h

  muts_all : (Q : Mutation → Type 0) → ((i : ℕ) → i < length B.muts.site → Q (mutation_row i)) → All Q (muts_of (λ b. b) B.muts)
  unfolding muts_of
  muts_all Q h = all_rows-is Q mutation_row (length B.muts.site) h

  right_row : (i : ℕ) → i < length B.edges.left → Right L (time_of (nodes_of T.nodes ++ nodes_of B.nodes)) (edge_row i)
  unfolding time_in
  right_row i l = record { wide = (t.rows.edge i l).some_position; within = (t.rows.edge i l).within; older = (t.rows.edge i l).older }

  parted_rows : Pairwise Parted (edges_of (λ b. b) B.edges)
  unfolding edges_of
  parted_rows = pairwise_rows Parted edge_row (length B.edges.left) (λ i j k l x e a b c d. t.rows.single i j x k l e (record { begun = a; not_over = b }) (record { begun = c; not_over = d }))

  sites_long : length (sites_of T.sites) ≡ length T.sites.position
  unfolding sites_of
  sites_long = length_rows (λ i. record { pos = at T.sites.position i; state = at T.sites.ancestral i }) (length T.sites.position)

  abbrev edges : List Edge
  edges = edges_of (at T.nodes.birth) T.edges ++ edges_of (λ b. b) B.edges

  settled_rows : Pairwise (λ m n. m.site ≡ n.site → ancestor (parent_in edges (pos_of (sites_of T.sites) m.site)) n.node m.node ≡ false) (muts_of (λ b. b) B.muts)
  unfolding muts_of
  settled_rows = pairwise_rows (λ m n. m.site ≡ n.site → ancestor (parent_in edges (pos_of (sites_of T.sites) m.site)) n.node m.node ≡ false) mutation_row (length B.muts.site) (λ i j k l e.
      ap (λ (p : ℕ). ancestor (parent_in edges p) (at B.muts.node i) (at B.muts.node j)) (pos_of-is T.sites (at B.muts.site j) ∙ ap (at T.sites.position) e)
      ∙ t.rows.downwards i j k l e)

  pub batch_facts_of : BatchFacts L (record_of L T) (batch_of B)
  unfolding record_of batch_of
  batch_facts_of = record {
    once = births_once B.nodes t.shape.births t.rows.once;
    fresh = newly_born;
    parent_in-is = edges_all (λ (e : Edge). (mem e.parent base ≡ true) ⊎ (mem e.parent born ≡ true)) parent_known;
    child_in = edges_all (λ (e : Edge). mem e.child born ≡ true) (λ i l. birth_in B.nodes t.shape.births (at B.edges.child i) (t.rows.edge i l).child_in);
    edge = edges_all (Right L (time_of (nodes_of T.nodes ++ nodes_of B.nodes))) right_row;
    parted = parted_rows;
    site_row = muts_all (λ (u : Mutation). u.site < length (sites_of T.sites)) (λ i l. omega (arith, t.rows.site_row i l, sites_long));
    node_in = muts_all (λ (u : Mutation). mem u.node born ≡ true) (λ i l. birth_in B.nodes t.shape.births (at B.muts.node i) (t.rows.node_in i l));
    settled = settled_rows;
  }
