-- The edges and mutations of base and batch by rows, read back by births: the definitions' lists, and rule 26.
use mathlib.Core.Path.{◌≡◌, sym, ap, ap₂, ◌∙◌}
use mathlib.Core.Bool.{true}
use mathlib.Core.List.{List, ◌++◌}
use mathlib.Core.Logic.{⊎_elim}
use Prim.Native.Nat.{ℕ, ◌+◌, ◌-◌, ◌<◌, ◌≤◌}
use native.Mathlib.Omega.{arith}
use lib.Dec.{eqb}
use lib.ListN.{length, get_or, length-append}
use lib.Seq.{ext_get_or}
use Rattle.meaning.specs.Words.{and, at, mem, index_of, lowest, rows}
use Rattle.meaning.specs.Rows.{EdgeColumns, MutationColumns, Tables, Edge, edges_of}
use Rattle.meaning.specs.Join.{BatchTables}
use Rattle.meaning.specs.Forest.{parent_in, ancestor}
use Rattle.meaning.specs.Check.{mutation_above, overtakes}
use Rattle.laws.specs.Counting.{length_rows, get_rows}
use Rattle.laws.specs.Members.{index_at, index_below, mem_right}
use Rattle.bridge.specs.Columns.{edge_row, any_same, lowest_same, births_lowest_10}
use Rattle.overtaking.specs.Overtaken.{overtaken, lowest_10}
use Rattle.accepted.specs.Batches.{edges_with}
use Rattle.batches.specs.Joint.{rows_in, joint_edges, all_births, Joint}
use Rattle.batches.proofs.Fronts.{get_left, get_right, get_map}
use Rattle.batches.proofs.Together.{before, edge_same, all_long, all_once, parent_known, child_known, joint_rows, base_parent, base_child, batch_parent, batch_child, joint_parent_row, joint_child_row}

abbrev pub no_edge : Edge
no_edge = record { left = 0; right = 0; parent = 0; child = 0 }

module _ (L : ℕ) (T : Tables) (B : BatchTables) (j : Joint L T B) where
  abbrev all : List ℕ
  all = all_births T B

  abbrev joint : EdgeColumns
  joint = joint_edges all T.edges B.edges

  base_edge : (i : ℕ) → i < length T.edges.left → edge_row (at all) joint i ≡ edge_row (at T.nodes.birth) T.edges i
  base_edge i h =
      let e : _ = j.rising.even in
      edge_same _ _ _ _ _ _ _ _
      (get_left 0 T.edges.left B.edges.left i h)
      (get_left 0 T.edges.right B.edges.right i (omega (arith, e.right_long)))
      (ap (at all) (base_parent L T B j i h) ∙ get_left 0 T.nodes.birth B.nodes.birth (at T.edges.parent i) (omega (arith, j.rising.parent_row i h, j.base_long)))
      (ap (at all) (base_child L T B j i h) ∙ get_left 0 T.nodes.birth B.nodes.birth (at T.edges.child i) (omega (arith, j.rising.child_row-is i h, j.base_long)))

  pub batch_edge : (i : ℕ) → length T.edges.left ≤ i → i < length joint.left → edge_row (at all) joint i ≡ edge_row (λ b. b) B.edges (i - length T.edges.left)
  batch_edge i h l =
      let k : i - length T.edges.left < length B.edges.left = omega (arith, joint_rows L T B j) in
      let e : _ = j.rising.even in
      let q : i - length T.edges.right ≡ i - length T.edges.left = omega (arith, e.right_long) in
      edge_same _ _ _ _ _ _ _ _
      (get_right 0 T.edges.left B.edges.left i h)
      (get_right 0 T.edges.right B.edges.right i (omega (arith, e.right_long)) ∙ ap (at B.edges.right) q)
      (ap (at all) (batch_parent L T B j i h l) ∙ index_at (at B.edges.parent (i - length T.edges.left)) all (parent_known L T B j (i - length T.edges.left) k))
      (ap (at all) (batch_child L T B j i h l) ∙ index_at (at B.edges.child (i - length T.edges.left)) all (child_known L T B j (i - length T.edges.left) k))

  -- the joint columns, read by births, are the base's edges and then the batch's
  pub joint_edges-is : edges_of (at all) joint ≡ edges_with T B
  unfolding edges_of
  joint_edges-is = ext_get_or no_edge (edges_of (at all) joint) (edges_with T B) (length_rows (edge_row (at all) joint) (length joint.left) ∙ joint_rows L T B j ∙ sym whole) (λ i h. let l : i < length joint.left = omega (arith, length_rows (edge_row (at all) joint) (length joint.left)) in get_rows (edge_row (at all) joint) no_edge (length joint.left) i l ∙ cell i l)
    where
      old : List Edge
      old = rows (edge_row (at T.nodes.birth) T.edges) (length T.edges.left)

      new : List Edge
      new = rows (edge_row (λ b. b) B.edges) (length B.edges.left)

      old_long : length old ≡ length T.edges.left
      old_long = length_rows (edge_row (at T.nodes.birth) T.edges) (length T.edges.left)

      new_long : length new ≡ length B.edges.left
      new_long = length_rows (edge_row (λ b. b) B.edges) (length B.edges.left)

      whole : length (old ++ new) ≡ length T.edges.left + length B.edges.left
      whole = length-append old new ∙ ap₂ ◌+◌ old_long new_long

      cell : (i : ℕ) → i < length joint.left → edge_row (at all) joint i ≡ get_or (old ++ new) i no_edge
      cell i l = ⊎_elim
          (λ (h : i < length T.edges.left).
          base_edge i h ∙ sym (get_left no_edge old new i (omega (arith, old_long)) ∙ get_rows (edge_row (at T.nodes.birth) T.edges) no_edge (length T.edges.left) i h))
          (λ (h : length T.edges.left ≤ i).
          let q : i - length old ≡ i - length T.edges.left = omega (arith, old_long) in
          batch_edge i h l ∙ sym (get_right no_edge old new i (omega (arith, old_long)) ∙ ap (λ k. get_or new k no_edge) q ∙ get_rows (edge_row (λ b. b) B.edges) no_edge (length B.edges.left) (i - length T.edges.left) (omega (arith, joint_rows L T B j))))
          (before i (length T.edges.left))

  -- ---- the mutations of the batch

  module _ (node_long : length B.muts.node ≡ length B.muts.site) (node_in : (i : ℕ) → i < length B.muts.site → mem (at B.muts.node i) B.nodes.birth ≡ true) where
    node_known : (i : ℕ) → i < length B.muts.site → mem (at B.muts.node i) all ≡ true
    node_known i l = mem_right (at B.muts.node i) T.nodes.birth B.nodes.birth (node_in i l)

    pub node_cell : (i : ℕ) → i < length B.muts.site → at (rows_in all B.muts.node) i ≡ index_of (at B.muts.node i) all
    node_cell i l = get_map (λ b. index_of b all) B.muts.node i 0 0 (omega arith)

    pub batch_node_row : (i : ℕ) → i < length B.muts.site → at (rows_in all B.muts.node) i < length all
    batch_node_row i l = omega (arith, node_cell i l, index_below (at B.muts.node i) all (node_known i l))

    abbrev by_row : MutationColumns
    by_row = record { site = B.muts.site; node = rows_in all B.muts.node; derived = B.muts.derived }

    name_again : (i : ℕ) → i < length B.muts.site → at all (at (rows_in all B.muts.node) i) ≡ at B.muts.node i
    name_again i l = ap (at all) (node_cell i l) ∙ index_at (at B.muts.node i) all (node_known i l)

    same_above : (i : ℕ) → i < length B.muts.site → mutation_above (edges_with T B) T.sites.position (λ b. b) B.muts i ≡ mutation_above (edges_of (at all) joint) T.sites.position (at all) by_row i
    unfolding mutation_above overtakes
    same_above i l = any_same (overtakes (edges_with T B) T.sites.position (λ b. b) B.muts i) (overtakes (edges_of (at all) joint) T.sites.position (at all) by_row i) i (λ k h. ap (and (eqb (at B.muts.site k) (at B.muts.site i))) (ap (λ E. ancestor (parent_in E (at T.sites.position (at B.muts.site i))) (at B.muts.node i) (at B.muts.node k)) (sym joint_edges-is) ∙ ap₂ (ancestor (parent_in (edges_of (at all) joint) (at T.sites.position (at B.muts.site i)))) (sym (name_again i l)) (sym (name_again k (omega arith)))))

    -- 26 by rows is 26 by births
    pub rule_26 : lowest (overtaken joint T.sites.position B.muts.site (rows_in all B.muts.node)) (length B.muts.site) ≡ lowest (mutation_above (edges_with T B) T.sites.position (λ b. b) B.muts) (length B.muts.site)
    rule_26 = sym (
        lowest_same (mutation_above (edges_with T B) T.sites.position (λ b. b) B.muts) (mutation_above (edges_of (at all) joint) T.sites.position (at all) by_row) (length B.muts.site) same_above
        ∙ births_lowest_10 all joint (all_once L T B j) (record { parent_row = λ e h. omega (arith, joint_parent_row L T B j e h, all_long L T B j); child_row-is = λ e h. omega (arith, joint_child_row L T B j e h, all_long L T B j) }) T.sites.position by_row batch_node_row
        ∙ sym (lowest_10 joint T.sites.position by_row (length B.muts.site))
        )
