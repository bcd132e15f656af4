-- What the checks 20 to 26 of a batch find: facts by rows that an answer 0 tells, and that leave only what comes after.
use Rattle.std.specs.Prelude.{◌≡◌, Bool, true, false, List, [], ◌∷◌, ◌++◌, ◌⊎◌, ℕ, ◌+◌, ◌<◌, ◌≤◌, leb, ltb}
use Rattle.std.proofs.Common.{ap, ◌∙◌, inl, inr, arith}
use Rattle.std.proofs.Math.Bool.{not}
use Rattle.std.proofs.Math.ListN.{length}
use borrow.Author.Tests.{ltb-false, le-ltb, leb-false, lt-leb}
use Rattle.meaning.specs.Words.{or, at, mem}
use Rattle.meaning.specs.Rows.{NodeColumns, EdgeColumns, MutationColumns, Tables, Edge, edges_of}
use Rattle.meaning.specs.Answer.{Answer, Limits}
use Rattle.meaning.specs.Check.{repeated, edge_shared, mutation_above}
use Rattle.meaning.specs.Join.{BatchTables, batch_birth, time_in, batch_edge, batch_mutation, batch_shapes, batch_sizes, batch_rules}
use Rattle.laws.specs.Bools.{or_of, or_no, or_left, or_right, not_no}
use Rattle.laws.specs.Facts.{All}
use Rattle.laws.specs.Facts.All.{also}
use Rattle.accepted.specs.Refusals.{Accepted, passed_rows, pass_rows, passed_even, pass_even, passed_few, pass_few, first_of-is, rest_of}
use Rattle.accepted.specs.Tests.{no_or, not_repeated, of_not_repeated, Holds, not_shared, of_not_shared, NotOver, not_over, of_not_over}
use Rattle.accepted.specs.Checked.{Apart}

-- ---- the facts

-- 20
pub record BatchShaped (B : BatchTables) : Type 0 where
  pub births : length B.nodes.birth ≡ length B.nodes.time
  pub populations : length B.nodes.population ≡ length B.nodes.time
  pub rights : length B.edges.right ≡ length B.edges.left
  pub parents : length B.edges.parent ≡ length B.edges.left
  pub children : length B.edges.child ≡ length B.edges.left
  pub mutated : length B.muts.node ≡ length B.muts.site
  pub derived : length B.muts.derived ≡ length B.muts.site

-- 21
pub record BatchSized (m : Limits) (T : Tables) (B : BatchTables) : Type 0 where
  pub nodes : length T.nodes.time + length B.nodes.time ≤ m.nodes
  pub edges : length T.edges.left + length B.edges.left ≤ m.edges
  pub muts : length T.muts.site + length B.muts.site ≤ m.mutations

-- 23
pub record BatchEdgeRight (L : ℕ) (base N : NodeColumns) (E : EdgeColumns) (i : ℕ) : Type 0 where
  pub child_in : mem (at E.child i) N.birth ≡ true
  pub parent_in-is : (mem (at E.parent i) base.birth ≡ true) ⊎ (mem (at E.parent i) N.birth ≡ true)
  pub some_position : at E.left i < at E.right i
  pub within : at E.right i ≤ L
  pub older : time_in base N (at E.child i) < time_in base N (at E.parent i)

-- the edges of the base and of the batch, by birth number
abbrev pub edges_with : Tables → BatchTables → List Edge
edges_with T B = edges_of (at T.nodes.birth) T.edges ++ edges_of (λ b. b) B.edges

-- 22 to 26
pub record BatchRuled (L : ℕ) (T : Tables) (B : BatchTables) : Type 0 where
  pub fresh : (i : ℕ) → i < length B.nodes.birth → mem (at B.nodes.birth i) T.nodes.birth ≡ false
  pub once : Apart B.nodes.birth
  pub edge : (i : ℕ) → i < length B.edges.left → BatchEdgeRight L T.nodes B.nodes B.edges i
  pub single : (i j x : ℕ) → j < i → i < length B.edges.left → at B.edges.child j ≡ at B.edges.child i → Holds B.edges j x → Holds B.edges i x → ⊥
  pub site_row : (i : ℕ) → i < length B.muts.site → at B.muts.site i < length T.sites.position
  pub node_in : (i : ℕ) → i < length B.muts.site → mem (at B.muts.node i) B.nodes.birth ≡ true
  pub downwards : (i j : ℕ) → j < i → i < length B.muts.site → NotOver (edges_with T B) T.sites.position (λ b. b) B.muts i j

-- 20 to 26
pub record BatchSound (m : Limits) (L : ℕ) (T : Tables) (B : BatchTables) : Type 0 where
  pub shape : BatchShaped B
  pub size : BatchSized m T B
  pub rows : BatchRuled L T B

-- ---- 20 and 21

module _ (B : BatchTables) (rest : Answer) where
  batch_shaped : Accepted (batch_shapes B rest) → BatchShaped B × Accepted rest
  unfolding batch_shapes
  batch_shaped h =
      let n : _ = passed_even B.nodes.time (B.nodes.birth ∷ B.nodes.population ∷ []) 20 1 _ (omega arith) h in
      let e : _ = passed_even B.edges.left (B.edges.right ∷ B.edges.parent ∷ B.edges.child ∷ []) 20 2 _ (omega arith) n.1 in
      let m : _ = passed_even B.muts.site (B.muts.node ∷ B.muts.derived ∷ []) 20 4 rest (omega arith) e.1 in (
        record {
          births = first_of-is n.0;
          populations = first_of-is (rest_of n.0);
          rights = first_of-is e.0;
          parents = first_of-is (rest_of e.0);
          children = first_of-is (rest_of (rest_of e.0));
          mutated = first_of-is m.0;
          derived = first_of-is (rest_of m.0);
        },
        m.1,
      )

  of_batch_shaped : BatchShaped B → batch_shapes B rest ≡ rest
  unfolding batch_shapes
  of_batch_shaped h =
      pass_even B.nodes.time (B.nodes.birth ∷ B.nodes.population ∷ []) 20 1 _ (also h.births (also h.populations All.done))
      ∙ pass_even B.edges.left (B.edges.right ∷ B.edges.parent ∷ B.edges.child ∷ []) 20 2 _ (also h.rights (also h.parents (also h.children All.done)))
      ∙ pass_even B.muts.site (B.muts.node ∷ B.muts.derived ∷ []) 20 4 rest (also h.mutated (also h.derived All.done))

module _ (m : Limits) (T : Tables) (B : BatchTables) (rest : Answer) where
  batch_sized : Accepted (batch_sizes m T B rest) → BatchSized m T B × Accepted rest
  unfolding batch_sizes
  batch_sized h =
      let n : _ = passed_few m.nodes (length T.nodes.time + length B.nodes.time) 21 1 _ (omega arith) h in
      let e : _ = passed_few m.edges (length T.edges.left + length B.edges.left) 21 2 _ (omega arith) n.1 in
      let u : _ = passed_few m.mutations (length T.muts.site + length B.muts.site) 21 4 rest (omega arith) e.1 in
      (record { nodes = n.0; edges = e.0; muts = u.0 }, u.1)

  of_batch_sized : BatchSized m T B → batch_sizes m T B rest ≡ rest
  unfolding batch_sizes
  of_batch_sized h =
      pass_few m.nodes (length T.nodes.time + length B.nodes.time) 21 1 _ h.nodes
      ∙ pass_few m.edges (length T.edges.left + length B.edges.left) 21 2 _ h.edges
      ∙ pass_few m.mutations (length T.muts.site + length B.muts.site) 21 4 rest h.muts

-- ---- 22, 23 and 25, one row

module _ (base birth : List ℕ) (i : ℕ) where
  birth_right : batch_birth base birth i ≡ false → (mem (at birth i) base ≡ false) × (repeated birth i ≡ false)
  unfolding batch_birth
  birth_right h = or_no (mem (at birth i) base) (repeated birth i) h

  of_birth : mem (at birth i) base ≡ false → repeated birth i ≡ false → batch_birth base birth i ≡ false
  unfolding batch_birth
  of_birth a b = no_or a b

either : {a b : Bool} → (a ≡ true) ⊎ (b ≡ true) → or a b ≡ true
either {a} {b} (inl e) = or_left b e
either {a} {b} (inr e) = or_right a b e

module _ (L : ℕ) (base N : NodeColumns) (E : EdgeColumns) (i : ℕ) where
  batch_edge_right : batch_edge L base N E i ≡ false → BatchEdgeRight L base N E i
  unfolding batch_edge
  batch_edge_right h =
      let a : _ = or_no (not (mem (at E.child i) N.birth)) _ h in
      let b : _ = or_no (not (or (mem (at E.parent i) base.birth) (mem (at E.parent i) N.birth))) _ a.1 in
      let c : _ = or_no (leb (at E.right i) (at E.left i)) _ b.1 in
      let d : _ = or_no (ltb L (at E.right i)) _ c.1 in
      record {
        child_in = not_no (mem (at E.child i) N.birth) a.0;
        parent_in-is = or_of (mem (at E.parent i) base.birth) (mem (at E.parent i) N.birth) (not_no (or (mem (at E.parent i) base.birth) (mem (at E.parent i) N.birth)) b.0);
        some_position = leb-false (at E.right i) (at E.left i) c.0;
        within = ltb-false L (at E.right i) d.0;
        older = leb-false (time_in base N (at E.parent i)) (time_in base N (at E.child i)) d.1;
      }

  of_batch_edge : BatchEdgeRight L base N E i → batch_edge L base N E i ≡ false
  unfolding batch_edge
  of_batch_edge h =
      no_or (ap not h.child_in)
      (no_or (ap not (either h.parent_in-is))
      (no_or (lt-leb (at E.right i) (at E.left i) h.some_position)
      (no_or (le-ltb L (at E.right i) h.within)
      (lt-leb (time_in base N (at E.parent i)) (time_in base N (at E.child i)) h.older))))

module _ (sites : ℕ) (birth : List ℕ) (M : MutationColumns) (i : ℕ) where
  batch_mutation_right : batch_mutation sites birth M i ≡ false → (at M.site i < sites) × (mem (at M.node i) birth ≡ true)
  unfolding batch_mutation
  batch_mutation_right h = let p : _ = or_no (leb sites (at M.site i)) _ h in (leb-false sites (at M.site i) p.0, not_no (mem (at M.node i) birth) p.1)

  of_batch_mutation : at M.site i < sites → mem (at M.node i) birth ≡ true → batch_mutation sites birth M i ≡ false
  unfolding batch_mutation
  of_batch_mutation a b = no_or (lt-leb sites (at M.site i) a) (ap not b)

-- ---- 22 to 26

module _ (L : ℕ) (T : Tables) (B : BatchTables) (rest : Answer) where
  batch_ruled : Accepted (batch_rules L T B rest) → BatchRuled L T B × Accepted rest
  unfolding batch_rules
  batch_ruled h =
      let a : _ = passed_rows 22 (batch_birth T.nodes.birth B.nodes.birth) (length B.nodes.birth) _ (omega arith) h in
      let b : _ = passed_rows 23 (batch_edge L T.nodes B.nodes B.edges) (length B.edges.left) _ (omega arith) a.1 in
      let c : _ = passed_rows 24 (edge_shared B.edges) (length B.edges.left) _ (omega arith) b.1 in
      let d : _ = passed_rows 25 (batch_mutation (length T.sites.position) B.nodes.birth B.muts) (length B.muts.site) _ (omega arith) c.1 in
      let e : _ = passed_rows 26 (mutation_above (edges_with T B) T.sites.position (λ b. b) B.muts) (length B.muts.site) rest (omega arith) d.1 in (
        record {
          fresh = λ i k. (birth_right T.nodes.birth B.nodes.birth i (a.0 i k)).0;
          once = λ i j l k. not_repeated B.nodes.birth i (birth_right T.nodes.birth B.nodes.birth i (a.0 i k)).1 j l;
          edge = λ i k. batch_edge_right L T.nodes B.nodes B.edges i (b.0 i k);
          single = λ i j x l k. not_shared B.edges i (c.0 i k) j x l;
          site_row = λ i k. (batch_mutation_right (length T.sites.position) B.nodes.birth B.muts i (d.0 i k)).0;
          node_in = λ i k. (batch_mutation_right (length T.sites.position) B.nodes.birth B.muts i (d.0 i k)).1;
          downwards = λ i j l k. not_over (edges_with T B) T.sites.position (λ b. b) B.muts i (e.0 i k) j l;
        },
        e.1,
      )

  of_batch_ruled : BatchRuled L T B → batch_rules L T B rest ≡ rest
  unfolding batch_rules
  of_batch_ruled h =
      pass_rows 22 (batch_birth T.nodes.birth B.nodes.birth) (length B.nodes.birth) _ (λ i k. of_birth T.nodes.birth B.nodes.birth i (h.fresh i k) (of_not_repeated B.nodes.birth i (λ j l. h.once i j l k)))
      ∙ pass_rows 23 (batch_edge L T.nodes B.nodes B.edges) (length B.edges.left) _ (λ i k. of_batch_edge L T.nodes B.nodes B.edges i (h.edge i k))
      ∙ pass_rows 24 (edge_shared B.edges) (length B.edges.left) _ (λ i k. of_not_shared B.edges i (h.edge i k).some_position (λ j l. (h.edge j (omega arith)).some_position) (λ j x l. h.single i j x l k))
      ∙ pass_rows 25 (batch_mutation (length T.sites.position) B.nodes.birth B.muts) (length B.muts.site) _ (λ i k. of_batch_mutation (length T.sites.position) B.nodes.birth B.muts i (h.site_row i k) (h.node_in i k))
      ∙ pass_rows 26 (mutation_above (edges_with T B) T.sites.position (λ b. b) B.muts) (length B.muts.site) rest (λ i k. of_not_over (edges_with T B) T.sites.position (λ b. b) B.muts i (λ j l. h.downwards i j l k))

-- ---- 20 to 26, and then what comes after

module _ (m : Limits) (L : ℕ) (T : Tables) (B : BatchTables) (rest : Answer) where
  pub batch_sound_of : Accepted (batch_shapes B (batch_sizes m T B (batch_rules L T B rest))) → BatchSound m L T B × Accepted rest
  batch_sound_of h =
      let a : _ = batch_shaped B (batch_sizes m T B (batch_rules L T B rest)) h in
      let b : _ = batch_sized m T B (batch_rules L T B rest) a.1 in
      let c : _ = batch_ruled L T B rest b.1 in
      (record { shape = a.0; size = b.0; rows = c.0 }, c.1)

  pub of_batch_sound : BatchSound m L T B → batch_shapes B (batch_sizes m T B (batch_rules L T B rest)) ≡ rest
  of_batch_sound h =
      of_batch_shaped B (batch_sizes m T B (batch_rules L T B rest)) h.shape
      ∙ of_batch_sized m T B (batch_rules L T B rest) h.size
      ∙ of_batch_ruled L T B rest h.rows
