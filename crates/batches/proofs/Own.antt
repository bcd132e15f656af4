-- The batch's own edges by rows: they decide the parents of the batch's rows, so 26 needs no edge of the base.
use mathlib.Core.Path.{◌≡◌, refl, sym, ap, ap₂, ◌∙◌}
use mathlib.Core.Bool.{true, false}
use mathlib.Core.List.{List, ◌++◌}
use mathlib.Core.Option.{Option, none, some}
use mathlib.Core.Logic.{⊎_elim}
use Prim.Native.Nat.{ℕ, ◌+◌, ◌-◌, ◌<◌, ◌≤◌}
use native.Mathlib.Omega.{arith}
use lib.Dec.{eqb, leb, ltb}
use lib.ListN.{length, length-map}
use borrow.Author.Tests.{ne_eqb}
use Rattle.meaning.specs.Words.{and, at, mem, index_of, lowest, rows, rows_from}
use Rattle.meaning.specs.Rows.{EdgeColumns, Tables, edges_of}
use Rattle.meaning.specs.Forest.{holds, parent_in, ancestor}
use Rattle.meaning.specs.Check.{share, edge_shared, mutation_above}
use Rattle.meaning.specs.Join.{BatchTables}
use Rattle.laws.specs.Members.{index_at, index_below}
use Rattle.bridge.specs.Columns.{any_same, lowest_same}
use Rattle.bridge.specs.Rename.{eqb_names}
use Rattle.bridge.specs.Parents.{parent_row}
use Rattle.ancestry.specs.Column.{Rising}
use Rattle.ancestry.specs.Decided.{row_of, parent_decided}
use Rattle.ancestry.specs.Index.{Whole}
use Rattle.overtaking.specs.Overtaken.{over, overtaken}
use Rattle.accepted.specs.Batches.{edges_with}
use Rattle.batches.specs.Joint.{rows_in, own_edges, joint_edges, all_births, all_times, Joint}
use Rattle.batches.proofs.Fronts.{get_right, get_map}
use Rattle.batches.proofs.Born.{index_right}
use Rattle.batches.proofs.Together.{before, edge_same, all_once, fresh_name, child_known, joint_rows, base_parent, base_child, joint_rising}
use Rattle.batches.proofs.Reading.{node_cell, rule_26}
use Rattle.batches.proofs.Agreeing.{same_ancestor, parent_behind}

-- what stands behind a column
behind : (a b : List ℕ) (m i : ℕ) → length a ≡ m → at (a ++ b) (m + i) ≡ at b i
behind a b m i e = let q : m + i - length a ≡ i = omega arith in get_right 0 a b (m + i) (omega arith) ∙ ap (at b) q

module _ (L : ℕ) (T : Tables) (B : BatchTables) (j : Joint L T B) where
  abbrev all : List ℕ
  all = all_births T B

  abbrev joint : EdgeColumns
  joint = joint_edges all T.edges B.edges

  abbrev own : EdgeColumns
  own = own_edges all B.edges

  abbrev base : ℕ
  base = length T.edges.left

  -- ---- the own edges stand behind the base's

  left_cell : (i : ℕ) → at joint.left (base + i) ≡ at own.left i
  left_cell i = behind T.edges.left own.left base i refl

  right_cell : (i : ℕ) → at joint.right (base + i) ≡ at own.right i
  right_cell i = behind T.edges.right own.right base i j.rising.even.right_long

  parent_cell : (i : ℕ) → at joint.parent (base + i) ≡ at own.parent i
  parent_cell i = behind T.edges.parent own.parent base i j.rising.even.parent_long

  child_cell : (i : ℕ) → at joint.child (base + i) ≡ at own.child i
  child_cell i = behind T.edges.child own.child base i j.rising.even.child_long

  inside : (i : ℕ) → i < length B.edges.left → base + i < length joint.left
  inside i l = omega (arith, joint_rows L T B j)

  pub own_rising : Rising (all_times T B) own
  own_rising = record {
    even = record {
      right_long = j.even.right_long;
      parent_long = length-map B.edges.parent (λ b. index_of b all) ∙ j.even.parent_long;
      child_long = length-map B.edges.child (λ b. index_of b all) ∙ j.even.child_long;
    };
    parent_row = λ i l. omega (arith, parent_cell i, rises.parent_row (base + i) (inside i l));
    child_row-is = λ i l. omega (arith, child_cell i, rises.child_row-is (base + i) (inside i l));
    age = λ i l. omega (arith, ap (at (all_times T B)) (parent_cell i), ap (at (all_times T B)) (child_cell i), rises.age (base + i) (inside i l));
  }
    where
      rises : Rising (all_times T B) joint
      rises = joint_rising L T B j

  pub own_whole : Whole own L
  own_whole = record { held = λ i l. (j.edge i l).some_position; inside = λ i l. (j.edge i l).within }

  -- ---- no two of a child share a position, by rows as by births

  own_child : (i : ℕ) → i < length B.edges.left → at own.child i ≡ index_of (at B.edges.child i) all
  own_child i l = get_map (λ b. index_of b all) B.edges.child i 0 0 (omega (arith, j.even.child_long))

  same_child : (i k : ℕ) → i < length B.edges.left → k < length B.edges.left → eqb (at own.child i) (at own.child k) ≡ eqb (at B.edges.child i) (at B.edges.child k)
  same_child i k l m =
      ap₂ eqb (own_child i l) (own_child k m)
      ∙ sym (eqb_names (length all) (at all) (all_once L T B j) (index_of a all) (index_of b all) (index_below a all ka) (index_below b all kb))
      ∙ ap₂ eqb (index_at a all ka) (index_at b all kb)
    where
      a : ℕ
      a = at B.edges.child i

      b : ℕ
      b = at B.edges.child k

      ka : mem a all ≡ true
      ka = child_known L T B j i l

      kb : mem b all ≡ true
      kb = child_known L T B j k m

  same_shared : (i : ℕ) → i < length B.edges.left → edge_shared own i ≡ edge_shared B.edges i
  unfolding edge_shared share
  same_shared i l = any_same (λ k. share own k i) (λ k. share B.edges k i) i (λ k h. ap (λ t. and t (and (ltb (at B.edges.left k) (at B.edges.right i)) (ltb (at B.edges.left i) (at B.edges.right k)))) (same_child k i (omega arith) l))

  pub own_apart : ((i : ℕ) → i < length B.edges.left → edge_shared B.edges i ≡ false) → (i : ℕ) → i < length B.edges.left → edge_shared own i ≡ false
  own_apart h i l = same_shared i l ∙ h i l

  -- ---- the rows of the batch stand behind those of the base

  abbrev old : ℕ
  old = length T.nodes.time

  row_behind : (b : ℕ) → mem b B.nodes.birth ≡ true → old ≤ index_of b all
  row_behind b m = omega (arith, index_right b T.nodes.birth B.nodes.birth (fresh_name L T B j b m), j.base_long)

  own_child_behind : (i : ℕ) → i < length B.edges.left → old ≤ at own.child i
  own_child_behind i l = omega (arith, own_child i l, row_behind (at B.edges.child i) (j.edge i l).child_in)

  module _ (x : ℕ) where
    -- a batch row's parent is that by the own edges
    same_parent : (u : ℕ) → old ≤ u → parent_row joint x u ≡ parent_row own x u
    unfolding parent_row edges_of rows holds
    same_parent u h =
        ap (λ n. parent_in (rows_from (row_of joint) 0 n) x u) (joint_rows L T B j)
        ∙ parent_behind x u (row_of joint) (row_of own) base (length B.edges.left) misses (λ e l. edge_same _ _ _ _ _ _ _ _ (left_cell e) (right_cell e) (parent_cell e) (child_cell e))
      where
        misses : (e : ℕ) → e < base → and (eqb (at joint.child e) u) (and (leb (at joint.left e) x) (ltb x (at joint.right e))) ≡ false
        misses e l =
            let q : eqb (at joint.child e) u ≡ false = ne_eqb (at joint.child e) u (λ q. absurd (omega (arith, base_child L T B j e l, j.rising.child_row-is e l))) in
            rw q

    -- a base row has none
    no_parent : (u : ℕ) → u < old → parent_row own x u ≡ none
    no_parent u h = go (parent_row own x u) refl
      where
        go : (o : Option ℕ) → parent_row own x u ≡ o → parent_row own x u ≡ none
        go none e = e
        go (some p) e = let r : _ = parent_decided own x u p e in absurd (omega (arith, own_child_behind r.0 r.1.row, r.1.own))

    -- a base row's parent is a base row
    base_stays : (u p : ℕ) → u < old → parent_row joint x u ≡ some p → p < old
    base_stays u p h e = go (parent_decided joint x u p e).0 (parent_decided joint x u p e).1.row (parent_decided joint x u p e).1.own (parent_decided joint x u p e).2
      where
        go : (e : ℕ) → e < length joint.left → at joint.child e ≡ u → at joint.parent e ≡ p → p < old
        go e l c q = ⊎_elim
            (λ (k : e < base). omega (arith, base_parent L T B j e k, j.rising.parent_row e k))
            (λ (k : base ≤ e).
            let i : e - base < length B.edges.left = omega (arith, joint_rows L T B j) in
            let w : base + (e - base) ≡ e = omega arith in
            absurd (omega (arith, own_child_behind (e - base) i, child_cell (e - base), ap (at joint.child) w)))
            (before e base)

    own_ancestor : (a b : ℕ) → old ≤ a → old ≤ b → ancestor (parent_row own x) a b ≡ ancestor (parent_row joint x) a b
    own_ancestor = same_ancestor (parent_row own x) (parent_row joint x) old same_parent no_parent base_stays

  -- ---- 26 by the own edges is 26 by all

  module _ (node_long : length B.muts.node ≡ length B.muts.site) (node_in : (i : ℕ) → i < length B.muts.site → mem (at B.muts.node i) B.nodes.birth ≡ true) where
    abbrev node : List ℕ
    node = rows_in all B.muts.node

    node_behind : (i : ℕ) → i < length B.muts.site → old ≤ at node i
    node_behind i l = omega (arith, node_cell L T B j node_long node_in i l, row_behind (at B.muts.node i) (node_in i l))

    own_overtaken : (i : ℕ) → i < length B.muts.site → overtaken own T.sites.position B.muts.site node i ≡ overtaken joint T.sites.position B.muts.site node i
    unfolding overtaken over
    own_overtaken i l = any_same _ _ i (λ k h. ap (and (eqb (at B.muts.site k) (at B.muts.site i))) (own_ancestor (at T.sites.position (at B.muts.site i)) (at node i) (at node k) (node_behind i l) (node_behind k (omega arith))))

    pub own_26 : lowest (overtaken own T.sites.position B.muts.site node) (length B.muts.site) ≡ lowest (mutation_above (edges_with T B) T.sites.position (λ b. b) B.muts) (length B.muts.site)
    own_26 = lowest_same _ _ (length B.muts.site) own_overtaken ∙ rule_26 L T B j node_long node_in
