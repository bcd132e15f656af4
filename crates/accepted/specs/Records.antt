-- Tables that the checks find sound mean a record with the facts on which the theorems of cleaning and joining stand.
use Rattle.std.specs.Prelude.{◌≡◌, true, List, ◌⊎◌, ℕ, ◌<◌, length}
use Rattle.std.proofs.Common.{sym, subst, ◌∙◌, inl, inr, arith}
use Rattle.meaning.specs.Words.{at, mem, index_of}
use Rattle.meaning.specs.Rows.{NodeColumns, EdgeColumns, Tables, Node, Edge, Mutation, births, node_at, nodes_of, edges_of, sites_of, muts_of, record_of, time_of, pos_of}
use Rattle.meaning.specs.Forest.{Ages}
use Rattle.meaning.specs.Answer.{Limits}
use Rattle.laws.specs.Members.{at_mem, index_at, index_below}
use Rattle.laws.specs.Facts.{Any, All, Cov, Good, Closed, CleanOk}
use Rattle.accepted.specs.Orders.{either_way}
use Rattle.accepted.specs.Tests.{EdgeRight, Holds}
use Rattle.accepted.specs.Checked.{TreeSound, Sound, Listed}
use Rattle.accepted.specs.Columns.{all_rows-is, any_row, distinct_of, same_row, birth_in, births_once, time_of-is, time_below, pos_of-is}

-- columns hold u32: every time is below 2 to the 32
abbrev pub Young : NodeColumns → Type 0
Young N = (i : ℕ) → i < length N.time → at N.time i < Ages

pub young_of : (N : NodeColumns) → Young N → (b : ℕ) → time_of (nodes_of N) b < Ages
unfolding nodes_of
young_of N y b = time_below Ages (nodes_of N) b (omega arith) (all_rows-is (λ (n : Node). n.time < Ages) (node_at N) (length N.time) y)

-- a row of the edges, with what an edge of v to q at x tells of it
pub record Row (name : ℕ → ℕ) (E : EdgeColumns) (x v q i : ℕ) : Type 0 where
  pub is_row : i < length E.left
  pub of_child : name (at E.child i) ≡ v
  pub to_parent : name (at E.parent i) ≡ q
  pub holds : Holds E i x

module _ (name : ℕ → ℕ) (E : EdgeColumns) where
  pub row_of : (x v q : ℕ) → Any (Cov x v q) (edges_of name E) → (i : ℕ) × Row name E x v q i
  unfolding edges_of
  row_of x v q h =
      let r : _ = any_row (Cov x v q) (λ i. record { left = at E.left i; right = at E.right i; parent = name (at E.parent i); child = name (at E.child i) }) (length E.left) h in
      (r.0, record { is_row = r.1; of_child = r.2.of_child; to_parent = r.2.to_parent; holds = record { begun = r.2.begun; not_over = r.2.not_over } })

  -- where a name names one row, and no two rows of one child share a position, a child has one parent at a position
  pub single_of :
      ((i j : ℕ) → i < length E.left → j < length E.left → name (at E.child i) ≡ name (at E.child j) → at E.child i ≡ at E.child j) →
      ((i j x : ℕ) → j < i → i < length E.left → at E.child j ≡ at E.child i → Holds E j x → Holds E i x → ⊥) →
      (x v q r : ℕ) → Any (Cov x v q) (edges_of name E) → Any (Cov x v r) (edges_of name E) → q ≡ r
  single_of one apart x v q r h k = go (row_of x v q h) (row_of x v r k)
    where
      go : ((i : ℕ) × Row name E x v q i) → ((j : ℕ) × Row name E x v r j) → q ≡ r
      go (i, a) (j, b) = which (either_way i j)
        where
          which : (i ≡ j) ⊎ ((i < j) ⊎ (j < i)) → q ≡ r
          which (inl e) = sym a.to_parent ∙ rw e b.to_parent
          which (inr (inl l)) = absurd (apart j i x l b.is_row (one i j a.is_row b.is_row (a.of_child ∙ sym b.of_child)) a.holds b.holds)
          which (inr (inr l)) = absurd (apart i j x l a.is_row (one j i b.is_row a.is_row (b.of_child ∙ sym a.of_child)) b.holds a.holds)

-- ---- nodes and edges

module _ (L : ℕ) (N : NodeColumns) (E : EdgeColumns) (even : length N.birth ≡ length N.time) (s : TreeSound L N E) where
  row_known : (i : ℕ) → i < length N.time → mem (at N.birth i) (births (nodes_of N)) ≡ true
  row_known i l = birth_in N even (at N.birth i) (at_mem N.birth i (omega arith))

  edge_of : (x v q : ℕ) → Any (Cov x v q) (edges_of (at N.birth) E) → (mem v (births (nodes_of N)) ≡ true) × (mem q (births (nodes_of N)) ≡ true) × (time_of (nodes_of N) v < time_of (nodes_of N) q)
  edge_of x v q h = go (row_of (at N.birth) E x v q h)
    where
      go : ((i : ℕ) × Row (at N.birth) E x v q i) → (mem v (births (nodes_of N)) ≡ true) × (mem q (births (nodes_of N)) ≡ true) × (time_of (nodes_of N) v < time_of (nodes_of N) q)
      go (i, r) =
          let e : EdgeRight L N.time E i = s.edge i r.is_row in
          let c : time_of (nodes_of N) v ≡ at N.time (at E.child i) = subst (λ (b : ℕ). time_of (nodes_of N) b ≡ at N.time (at E.child i)) r.of_child (time_of-is N even s.once (at E.child i) e.child_row-is) in
          let p : time_of (nodes_of N) q ≡ at N.time (at E.parent i) = subst (λ (b : ℕ). time_of (nodes_of N) b ≡ at N.time (at E.parent i)) r.to_parent (time_of-is N even s.once (at E.parent i) e.parent_row) in (
            subst (λ (b : ℕ). mem b (births (nodes_of N)) ≡ true) r.of_child (row_known (at E.child i) e.child_row-is),
            subst (λ (b : ℕ). mem b (births (nodes_of N)) ≡ true) r.to_parent (row_known (at E.parent i) e.parent_row),
            omega (arith, e.older),
          )

  one_parent : (x v q r : ℕ) → Any (Cov x v q) (edges_of (at N.birth) E) → Any (Cov x v r) (edges_of (at N.birth) E) → q ≡ r
  one_parent = single_of (at N.birth) E (λ i j p q. same_row N.birth s.once (at E.child i) (at E.child j) (omega (arith, (s.edge i p).child_row-is)) (omega (arith, (s.edge j q).child_row-is))) s.single

  ends_known : All (λ (e : Edge). (mem e.parent (births (nodes_of N)) ≡ true) × (mem e.child (births (nodes_of N)) ≡ true)) (edges_of (at N.birth) E)
  unfolding edges_of
  ends_known = all_rows-is (λ (e : Edge). (mem e.parent (births (nodes_of N)) ≡ true) × (mem e.child (births (nodes_of N)) ≡ true)) (λ i. record { left = at E.left i; right = at E.right i; parent = at N.birth (at E.parent i); child = at N.birth (at E.child i) }) (length E.left) (λ i l. (row_known (at E.parent i) (s.edge i l).parent_row, row_known (at E.child i) (s.edge i l).child_row-is))

-- ---- mutations

module _ (m : Limits) (L : ℕ) (T : Tables) (s : Sound m L T) where
  -- a property of every mutation is one of every row
  muts_all : (Q : Mutation → Type 0) → ((i : ℕ) → i < length T.muts.site → Q (record { site = at T.muts.site i; node = at T.nodes.birth (at T.muts.node i); derived = at T.muts.derived i })) → All Q (muts_of (at T.nodes.birth) T.muts)
  unfolding muts_of
  muts_all Q h = all_rows-is Q (λ i. record { site = at T.muts.site i; node = at T.nodes.birth (at T.muts.node i); derived = at T.muts.derived i }) (length T.muts.site) h

  node_known : (i : ℕ) → i < length T.muts.site → mem (at T.nodes.birth (at T.muts.node i)) (births (nodes_of T.nodes)) ≡ true
  node_known i l = row_known L T.nodes T.edges s.shape.births s.tree (at T.muts.node i) (s.sites.node_row i l)

  -- a site row lies inside the chromosome
  pub site_within : (i : ℕ) → i < length T.sites.position → pos_of (sites_of T.sites) i < L
  site_within i l = rw (pos_of-is T.sites i) (s.sites.inside i l)

  -- ---- the record

  pub good_of : Young T.nodes → Good (record_of L T)
  unfolding record_of
  good_of y = record {
    once = births_once T.nodes s.shape.births s.tree.once;
    young = young_of T.nodes y;
    edge = edge_of L T.nodes T.edges s.shape.births s.tree;
    single = one_parent L T.nodes T.edges s.shape.births s.tree;
    muts_ok = muts_all (λ (u : Mutation). (mem u.node (births (nodes_of T.nodes)) ≡ true) × (pos_of (sites_of T.sites) u.site < L)) (λ i l. (node_known i l, site_within (at T.muts.site i) (s.sites.site_row i l)));
  }

  pub closed_of : Closed (record_of L T)
  unfolding record_of
  closed_of = record {
    edges_in = ends_known L T.nodes T.edges s.shape.births s.tree;
    muts_in = muts_all (λ (u : Mutation). mem u.node (births (nodes_of T.nodes)) ≡ true) node_known;
  }

  -- and with samples
  pub clean_ok_of : (S : List ℕ) → Listed m T.nodes.birth S → Young T.nodes → CleanOk (record_of L T) S
  unfolding record_of
  clean_ok_of S h y = record {
    good = good_of y;
    distinct = distinct_of S h.once;
    listed = λ b k. birth_in T.nodes s.shape.births b (subst (λ (c : ℕ). mem c T.nodes.birth ≡ true) (index_at b S k) (h.known (index_of b S) (index_below b S k)));
  }
