-- A batch that the checks find sound, over sound base tables, has the facts on which the theorems of joining stand.
use Rattle.std.specs.Prelude.{◌≡◌, true, false, List, ◌⊎◌, ℕ, ◌<◌, length}
use Rattle.std.proofs.Math.Path.{subst}
use Rattle.std.proofs.Common.{inl, inr}
use Rattle.meaning.specs.Words.{at, mem, index_of}
use Rattle.meaning.specs.Rows.{Tables, Edge, Mutation, births, nodes_of, edges_of, sites_of, muts_of, record_of, pos_of}
use Rattle.meaning.specs.Answer.{Limits}
use Rattle.meaning.specs.Join.{BatchTables, batch_of, time_in}
use Rattle.laws.specs.Bools.{clash}
use Rattle.laws.specs.Members.{index_at, index_below}
use Rattle.laws.specs.Facts.{Any, All, Cov, parents, JoinOk}
use Rattle.accepted.specs.Checked.{Sound}
use Rattle.accepted.specs.Columns.{all_rows-is, any_row, birth_in, birth_out, births_once, parent_any}
use Rattle.accepted.specs.Records.{Young, young_of, Row, row_of, single_of, site_within}
use Rattle.accepted.specs.Batches.{BatchSound}

module _ (m : Limits) (L : ℕ) (T : Tables) (B : BatchTables) (s : Sound m L T) (t : BatchSound m L T B) where
  -- the births of the base and of the batch
  abbrev base : List ℕ
  base = births (nodes_of T.nodes)

  abbrev born : List ℕ
  born = births (nodes_of B.nodes)

  -- no batch birth is the base's
  newly_born : (b : ℕ) → mem b born ≡ true → mem b base ≡ true → ⊥
  newly_born b p q =
      let k : mem b B.nodes.birth ≡ true = birth_out B.nodes t.shape.births b p in
      let n : mem b T.nodes.birth ≡ false = subst (λ (c : ℕ). mem c T.nodes.birth ≡ false) (index_at b B.nodes.birth k) (t.rows.fresh (index_of b B.nodes.birth) (index_below b B.nodes.birth k)) in
      clash (birth_out T.nodes s.shape.births b q) n

  -- the parent of a batch edge is known, and its child is born
  parent_known : (i : ℕ) → i < length B.edges.left → (mem (at B.edges.parent i) born ≡ true) ⊎ (mem (at B.edges.parent i) base ≡ true)
  parent_known i l = go (t.rows.edge i l).parent_in-is
    where
      go : (mem (at B.edges.parent i) T.nodes.birth ≡ true) ⊎ (mem (at B.edges.parent i) B.nodes.birth ≡ true) → (mem (at B.edges.parent i) born ≡ true) ⊎ (mem (at B.edges.parent i) base ≡ true)
      go (inl h) = inr (birth_in T.nodes s.shape.births (at B.edges.parent i) h)
      go (inr h) = inl (birth_in B.nodes t.shape.births (at B.edges.parent i) h)

  child_known : (i : ℕ) → i < length B.edges.left → mem (at B.edges.child i) born ≡ true
  child_known i l = birth_in B.nodes t.shape.births (at B.edges.child i) (t.rows.edge i l).child_in

  batch_edge_of : (x v q : ℕ) → Any (Cov x v q) (edges_of (λ b. b) B.edges) → (mem v born ≡ true) × ((mem q born ≡ true) ⊎ (mem q base ≡ true)) × (time_in T.nodes B.nodes v < time_in T.nodes B.nodes q)
  batch_edge_of x v q h = go (row_of (λ b. b) B.edges x v q h)
    where
      go : ((i : ℕ) × Row (λ b. b) B.edges x v q i) → (mem v born ≡ true) × ((mem q born ≡ true) ⊎ (mem q base ≡ true)) × (time_in T.nodes B.nodes v < time_in T.nodes B.nodes q)
      go (i, r) = (
        subst (λ (b : ℕ). mem b born ≡ true) r.of_child (child_known i r.is_row),
        subst (λ (b : ℕ). (mem b born ≡ true) ⊎ (mem b base ≡ true)) r.to_parent (parent_known i r.is_row),
        subst (λ (b : ℕ). time_in T.nodes B.nodes b < time_in T.nodes B.nodes q) r.of_child (subst (λ (b : ℕ). time_in T.nodes B.nodes (at B.edges.child i) < time_in T.nodes B.nodes b) r.to_parent (t.rows.edge i r.is_row).older),
      )

  ends_in : All (λ (e : Edge). ((mem e.parent born ≡ true) ⊎ (mem e.parent base ≡ true)) × (mem e.child born ≡ true)) (edges_of (λ b. b) B.edges)
  unfolding edges_of
  ends_in = all_rows-is (λ (e : Edge). ((mem e.parent born ≡ true) ⊎ (mem e.parent base ≡ true)) × (mem e.child born ≡ true)) (λ i. record { left = at B.edges.left i; right = at B.edges.right i; parent = at B.edges.parent i; child = at B.edges.child i }) (length B.edges.left) (λ i l. (parent_known i l, child_known i l))

  named_known : (q : ℕ) → mem q (parents (edges_of (λ b. b) B.edges)) ≡ true → (mem q born ≡ true) ⊎ (mem q base ≡ true)
  unfolding edges_of
  named_known q h =
      let r : _ = any_row (λ (e : Edge). e.parent ≡ q) (λ i. record { left = at B.edges.left i; right = at B.edges.right i; parent = at B.edges.parent i; child = at B.edges.child i }) (length B.edges.left) (parent_any (edges_of (λ b. b) B.edges) q h) in
      subst (λ (b : ℕ). (mem b born ≡ true) ⊎ (mem b base ≡ true)) r.2 (parent_known r.0 r.1)

  muts_in : All (λ (u : Mutation). (mem u.node born ≡ true) × (pos_of (sites_of T.sites) u.site < L)) (muts_of (λ b. b) B.muts)
  unfolding muts_of
  muts_in = all_rows-is (λ (u : Mutation). (mem u.node born ≡ true) × (pos_of (sites_of T.sites) u.site < L)) (λ i. record { site = at B.muts.site i; node = at B.muts.node i; derived = at B.muts.derived i }) (length B.muts.site) (λ i l. (birth_in B.nodes t.shape.births (at B.muts.node i) (t.rows.node_in i l), site_within m L T s (at B.muts.site i) (t.rows.site_row i l)))

  pub join_ok_of : Young B.nodes → JoinOk (record_of L T) (batch_of B)
  unfolding record_of batch_of time_in
  join_ok_of y = record {
    once = births_once B.nodes t.shape.births t.rows.once;
    fresh = newly_born;
    young = young_of B.nodes y;
    edge = batch_edge_of;
    rows_in = ends_in;
    known = named_known;
    single = single_of (λ b. b) B.edges (λ i j p q e. e) t.rows.single;
    muts_ok = muts_in;
  }
