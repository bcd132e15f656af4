-- Mutations in the order of their sites, the lower row first: each is above an earlier one of its site exactly where its row is.
use mathlib.Core.Path.{◌≡◌, sym, ap, ap₂, subst, ◌∙◌}
use mathlib.Core.Bool.{Bool, true}
use mathlib.Core.List.{List, map}
use mathlib.Core.Logic.{⊎_elim}
use Prim.Native.Nat.{ℕ, suc, ◌<◌}
use native.Mathlib.Omega.{arith}
use lib.Dec.{eqb}
use lib.ListN.{length, length-map}
use borrow.Author.Tests.{eq-eqb, eqb-true}
use Rattle.std.specs.Prelude.{Option}
use Rattle.meaning.specs.Words.{and, at, any_below, lowest, lowest_row, row_below}
use Rattle.meaning.specs.Rows.{EdgeColumns}
use Rattle.meaning.specs.Answer.{put}
use Rattle.meaning.specs.Forest.{Ages, ancestor}
use Rattle.laws.specs.Bools.{bool_ext, and_of, and_yes}
use Rattle.laws.specs.Counting.{below_of, of_below}
use Rattle.laws.specs.Members.{at_map}
use Rattle.bridge.specs.Columns.{lowest_same}
use Rattle.bridge.specs.Parents.{parent_row}
use Rattle.order.specs.Lex.{trichotomy}
use Rattle.order.specs.Order.{Inside}
use Rattle.order.specs.Ranks.{Ranked}
use Rattle.overtaking.specs.Overtaken.{over, overtaken, overtaken_row, Lined, Ordered}
use Rattle.batches.specs.Asked.{Unlined}
use Rattle.batches.proofs.Fronts.{put_whole}

module _ (E : EdgeColumns) (position site node : List ℕ) where
  -- mutation j is of row k's site, and row k's node is above its node
  abbrev under : ℕ → ℕ → Bool
  under k j = and (eqb (at site j) (at site k)) (ancestor (parent_row E (at position (at site k))) (at node k) (at node j))

  overtaken_of : (k : ℕ) → overtaken E position site node k ≡ true → (j : ℕ) × (j < k) × (at site j ≡ at site k) × (ancestor (parent_row E (at position (at site k))) (at node k) (at node j) ≡ true)
  unfolding overtaken over
  overtaken_of k h =
      let r : _ = below_of (under k) k h in
      let s : _ = and_of (eqb (at site r.0) (at site k)) (ancestor (parent_row E (at position (at site k))) (at node k) (at node r.0)) r.2 in
      (r.0, r.1, eqb-true (at site r.0) (at site k) s.0, s.1)

  of_overtaken : (k j : ℕ) → j < k → at site j ≡ at site k → ancestor (parent_row E (at position (at site k))) (at node k) (at node j) ≡ true → overtaken E position site node k ≡ true
  unfolding overtaken over
  of_overtaken k j l e a = of_below (under k) k j l (and_yes (eq-eqb (at site j) (at site k) e) a)

module _ (E : EdgeColumns) (position site node row : List ℕ) (r : Ranked site row) where
  abbrev rowsite : List ℕ
  rowsite = map (at site) row

  abbrev rownode : List ℕ
  rownode = map (at node) row

  pub sites_long : length rowsite ≡ length site
  sites_long = length-map row (at site) ∙ r.long

  pub nodes_long : length rownode ≡ length site
  nodes_long = length-map row (at node) ∙ r.long

  site_cell : (p : ℕ) → p < length site → at rowsite p ≡ at site (at row p)
  site_cell p l = at_map (at site) row p (omega (arith, r.long))

  node_cell : (p : ℕ) → p < length site → at rownode p ≡ at node (at row p)
  node_cell p l = at_map (at node) row p (omega (arith, r.long))

  -- ancestors of a mutation's place are those of its row
  same_test : (p q : ℕ) → p < length site → q < length site → ancestor (parent_row E (at position (at rowsite p))) (at rownode p) (at rownode q) ≡ ancestor (parent_row E (at position (at site (at row p)))) (at node (at row p)) (at node (at row q))
  same_test p q l m =
      ap (λ s. ancestor (parent_row E (at position s)) (at rownode p) (at rownode q)) (site_cell p l)
      ∙ ap₂ (ancestor (parent_row E (at position (at site (at row p))))) (node_cell p l) (node_cell q m)

  place_row : (p : ℕ) → p < length site → overtaken E position rowsite rownode p ≡ true → overtaken E position site node (at row p) ≡ true
  place_row p l h =
      let s : _ = overtaken_of E position rowsite rownode p h in
      let m : s.0 < length site = omega (arith, s.1) in
      let e : at site (at row s.0) ≡ at site (at row p) = sym (site_cell s.0 m) ∙ s.2 ∙ site_cell p l in
      of_overtaken E position site node (at row p) (at row s.0) (r.ties s.0 p s.1 l e) e (sym (same_test p s.0 l m) ∙ s.3)

  -- of two rows of a site the lower one has the earlier place
  earlier : (p q : ℕ) → p < length site → q < length site → at site (at row q) ≡ at site (at row p) → at row q < at row p → q < p
  earlier p q l m e h = ⊎_elim (λ (x : q < p). x)
      (λ y. ⊎_elim (λ (x : q ≡ p). absurd (omega (arith, ap (at row) x))) (λ (x : p < q). absurd (omega (arith, r.ties p q x m (sym e)))) y)
      (trichotomy q p)

  row_place : (p : ℕ) → p < length site → overtaken E position site node (at row p) ≡ true → overtaken E position rowsite rownode p ≡ true
  row_place p l h = go (overtaken_of E position site node (at row p) h)
    where
      go : (j : ℕ) × (j < at row p) × (at site j ≡ at site (at row p)) × (ancestor (parent_row E (at position (at site (at row p)))) (at node (at row p)) (at node j) ≡ true) → overtaken E position rowsite rownode p ≡ true
      go s =
          let w : _ = r.place s.0 (omega (arith, s.1, r.row p l)) in
          let e : at site (at row w.0) ≡ at site (at row p) = ap (at site) w.2 ∙ s.2 in
          let q : w.0 < p = earlier p w.0 l w.1 e (omega (arith, w.2, s.1)) in
          of_overtaken E position rowsite rownode p w.0 q
          (site_cell w.0 w.1 ∙ e ∙ sym (site_cell p l))
          (same_test p w.0 l w.1 ∙ ap (λ j. ancestor (parent_row E (at position (at site (at row p)))) (at node (at row p)) (at node j)) w.2 ∙ s.3)

  pub rows_overtaken : (k : ℕ) → k < length site → overtaken_row E position rowsite rownode row k ≡ overtaken E position site node k
  unfolding overtaken_row
  rows_overtaken k l = bool_ext down up
    where
      test : ℕ → Bool
      test p = and (eqb (at row p) k) (overtaken E position rowsite rownode p)

      down : any_below test (length rowsite) ≡ true → overtaken E position site node k ≡ true
      down h =
          let s : _ = below_of test (length rowsite) h in
          let t : _ = and_of (eqb (at row s.0) k) (overtaken E position rowsite rownode s.0) s.2 in
          subst (λ j. overtaken E position site node j ≡ true) (eqb-true (at row s.0) k t.0) (place_row s.0 (omega (arith, s.1, sites_long)) t.1)

      up : overtaken E position site node k ≡ true → any_below test (length rowsite) ≡ true
      up h =
          let w : _ = r.place k l in
          of_below test (length rowsite) w.0 (omega (arith, w.1, sites_long)) (and_yes (eq-eqb (at row w.0) k w.2) (row_place w.0 w.1 (subst (λ j. overtaken E position site node j ≡ true) (sym w.2) h)))

  pub lowest_overtaken : lowest (overtaken_row E position rowsite rownode row) (length rowsite) ≡ lowest (overtaken E position site node) (length site)
  lowest_overtaken = ap (lowest (overtaken_row E position rowsite rownode row)) sites_long ∙ lowest_same (overtaken_row E position rowsite rownode row) (overtaken E position site node) (length site) rows_overtaken

  -- they are lined up as rule 10 asks
  pub by_site_lined : (sites nodes : ℕ) → ((i : ℕ) → i < length site → at site i < sites) → ((i : ℕ) → i < length site → at node i < nodes) → Lined sites nodes rowsite rownode
  by_site_lined sites nodes f g = record {
    node_long = nodes_long ∙ sym sites_long;
    site_row = λ p l. let m : p < length site = omega (arith, sites_long) in omega (arith, site_cell p m, f (at row p) (r.row p m));
    node_row = λ p l. let m : p < length site = omega (arith, sites_long) in omega (arith, node_cell p m, g (at row p) (r.row p m));
    rise = λ p l. let m : suc p < length site = omega (arith, sites_long) in omega (arith, site_cell p (omega arith), site_cell (suc p) m, r.rising p (suc p) (omega arith) m);
  }

-- ---- as the search holds them

-- the rows by site name rows
pub ranked_inside : {l idx : List ℕ} (n : ℕ) → n ≡ length l → Ranked l idx → Inside n idx
ranked_inside n e r = record { row = λ p h. omega (arith, r.row p (omega (arith, r.long))) }

module _ {len : ℕ} {time : List ℕ} {E : EdgeColumns} {position site node : List ℕ} (k : Unlined len time E position site node) where
  -- their sites and nodes stand in columns that are as long
  module _ {row heldsite heldnode : List ℕ} (oldsite oldnode : List ℕ) (r : Ranked site row) (ls : length oldsite ≡ length site) (es : heldsite ≡ put (map (at site) row) oldsite) (ln : length oldnode ≡ length site) (en : heldnode ≡ put (map (at node) row) oldnode) where
    sites_are : heldsite ≡ map (at site) row
    sites_are = es ∙ put_whole (map (at site) row) oldsite (ls ∙ sym (sites_long E position site node row r))

    nodes_are : heldnode ≡ map (at node) row
    nodes_are = en ∙ put_whole (map (at node) row) oldnode (ln ∙ sym (nodes_long E position site node row r))

    pub held_ordered : ((v : ℕ) → at time v < Ages) → Ordered time position heldsite heldnode
    held_ordered young = record {
      young = young;
      rightwards = k.rightwards;
      lined = rw (sites_are, nodes_are) (by_site_lined E position site node row r (length position) (length time) k.site_row k.node_row);
      few = omega (arith, k.few);
      few_sites = omega (arith, k.sites);
    }

    pub held_long : length row ≡ length heldsite
    held_long = r.long ∙ sym (ap length sites_are ∙ sites_long E position site node row r)

    pub held_lowest : (x : Option ℕ) → x ≡ lowest_row (overtaken_row E position heldsite heldnode row) (length heldsite) → x ≡ lowest_row (overtaken E position site node) (length site)
    held_lowest x e =
        let n : length heldsite ≡ length site = ap length sites_are ∙ sites_long E position site node row r in
        e ∙ ap₂ row_below n (ap₂ (λ s v. lowest (overtaken_row E position s v row) (length s)) sites_are nodes_are ∙ lowest_overtaken E position site node row r)
