-- Base and batch by rows: births stay apart, times and edges are read back, and parents are older than children.
use mathlib.Core.Path.{◌≡◌, refl, sym, ap, ap₂, subst, ◌∙◌}
use mathlib.Core.Bool.{Bool, true, false}
use mathlib.Core.List.{List}
use mathlib.Core.Logic.{◌⊎◌, inl, inr, ⊎_elim}
use Prim.Native.Nat.{ℕ, ◌+◌, ◌-◌, ◌<◌, ◌≤◌}
use native.Mathlib.Omega.{arith}
use lib.Dec.{ltb}
use lib.ListN.{length, length-append}
use borrow.Author.Tests.{ltb-true, ltb-false}
use Rattle.meaning.specs.Words.{at, mem, index_of}
use Rattle.meaning.specs.Rows.{EdgeColumns, Tables, Edge}
use Rattle.meaning.specs.Join.{BatchTables, time_in}
use Rattle.laws.specs.Bools.{clash, truth}
use Rattle.laws.specs.Members.{at_mem, index_at, index_below, mem_left, mem_right, mem_split}
use Rattle.bridge.specs.Columns.{Apart}
use Rattle.ancestry.specs.Column.{Rising}
use Rattle.batches.specs.Joint.{rows_in, joint_edges, all_births, all_times, Joint}
use Rattle.batches.proofs.Fronts.{get_left, get_right, get_map, length_mapped}
use Rattle.batches.proofs.Born.{index_there, index_left, index_right, time_base, time_batch}

-- below n, or not
pub before : (i n : ℕ) → (i < n) ⊎ (n ≤ i)
before i n = go (ltb i n) refl
  where
    go : (t : Bool) → ltb i n ≡ t → (i < n) ⊎ (n ≤ i)
    go true e = inl (ltb-true i n e)
    go false e = inr (ltb-false i n e)

pub edge_same : (l r p c l' r' p' c' : ℕ) → l ≡ l' → r ≡ r' → p ≡ p' → c ≡ c' → ◌≡◌ {A = Edge} (record { left = l; right = r; parent = p; child = c }) (record { left = l'; right = r'; parent = p'; child = c' })
edge_same l r p c l' r' p' c' a b d e =
    ap₂ (λ x y. record { left = x; right = y; parent = p; child = c }) a b
    ∙ ap₂ (λ x y. record { left = l'; right = r'; parent = x; child = y }) d e

module _ (L : ℕ) (T : Tables) (B : BatchTables) (j : Joint L T B) where
  abbrev all : List ℕ
  all = all_births T B

  abbrev times : List ℕ
  times = all_times T B

  abbrev joint : EdgeColumns
  joint = joint_edges all T.edges B.edges

  pub all_long : length all ≡ length times
  all_long = length-append T.nodes.birth B.nodes.birth ∙ ap₂ ◌+◌ j.base_long j.long ∙ sym (length-append T.nodes.time B.nodes.time)

  -- ---- births

  base_apart : (u v : ℕ) → u < length T.nodes.birth → v < length B.nodes.birth → at T.nodes.birth u ≡ at B.nodes.birth v → ⊥
  base_apart u v k l e = clash (subst (λ b. mem b T.nodes.birth ≡ true) e (at_mem T.nodes.birth u k)) (j.fresh v l)

  -- a birth of the batch is none of the base's
  pub fresh_name : (b : ℕ) → mem b B.nodes.birth ≡ true → mem b T.nodes.birth ≡ false
  fresh_name b m = subst (λ x. mem x T.nodes.birth ≡ false) (index_at b B.nodes.birth m) (j.fresh (index_of b B.nodes.birth) (index_below b B.nodes.birth m))

  -- no birth of base or batch stands twice
  pub all_once : Apart all
  all_once u v k l e = go (before u n) (before v n)
    where
      n : ℕ
      n = length T.nodes.birth

      whole : length all ≡ n + length B.nodes.birth
      whole = length-append T.nodes.birth B.nodes.birth

      old : (w : ℕ) → w < n → at all w ≡ at T.nodes.birth w
      old w h = get_left 0 T.nodes.birth B.nodes.birth w h

      new : (w : ℕ) → n ≤ w → at all w ≡ at B.nodes.birth (w - n)
      new w h = get_right 0 T.nodes.birth B.nodes.birth w h

      go : (u < n) ⊎ (n ≤ u) → (v < n) ⊎ (n ≤ v) → u ≡ v
      go (inl p) (inl q) = j.base_once u v p q (sym (old u p) ∙ e ∙ old v q)
      go (inl p) (inr q) = absurd (base_apart u (v - n) p (omega (arith, whole)) (sym (old u p) ∙ e ∙ new v q))
      go (inr p) (inl q) = absurd (base_apart v (u - n) q (omega (arith, whole)) (sym (old v q) ∙ sym e ∙ new u p))
      go (inr p) (inr q) = let r : u - n ≡ v - n = j.once (u - n) (v - n) (omega (arith, whole)) (omega (arith, whole)) (sym (new u p) ∙ e ∙ new v q) in omega arith

  -- the row of the birth of a row is that row
  pub row_again : (u : ℕ) → u < length all → index_of (at all u) all ≡ u
  row_again u l =
      let m : mem (at all u) all ≡ true = at_mem all u l in
      all_once (index_of (at all u) all) u (index_below (at all u) all m) l (index_at (at all u) all m)

  -- ---- times

  pub time_joint : (b : ℕ) → mem b all ≡ true → time_in T.nodes B.nodes b ≡ at times (index_of b all)
  time_joint b m = ⊎_elim
      (λ (k : mem b T.nodes.birth ≡ true).
      let i : index_of b T.nodes.birth < length T.nodes.time = omega (arith, index_below b T.nodes.birth k, j.base_long) in
      time_base T.nodes B.nodes j.base_long j.long b i
      ∙ sym (ap (at times) (index_left b T.nodes.birth B.nodes.birth k) ∙ get_left 0 T.nodes.time B.nodes.time (index_of b T.nodes.birth) i))
      (λ (k : mem b T.nodes.birth ≡ false).
      let new : mem b B.nodes.birth ≡ true = ⊎_elim (λ (h : mem b T.nodes.birth ≡ true). absurd (clash h k)) (λ h. h) (mem_split b T.nodes.birth B.nodes.birth m) in
      let i : index_of b B.nodes.birth < length B.nodes.time = omega (arith, index_below b B.nodes.birth new, j.long) in
      let o : length T.nodes.time ≤ index_of b T.nodes.birth = past b k in
      let q : index_of b all ≡ length T.nodes.time + index_of b B.nodes.birth = index_right b T.nodes.birth B.nodes.birth k ∙ ap (λ n. n + index_of b B.nodes.birth) j.base_long in
      let r : index_of b all - length T.nodes.time ≡ index_of b B.nodes.birth = omega arith in
      time_batch T.nodes B.nodes j.base_long j.long b o i
      ∙ sym (get_right 0 T.nodes.time B.nodes.time (index_of b all) (omega arith) ∙ ap (at B.nodes.time) r))
      (truth (mem b T.nodes.birth))
    where
      past : (b : ℕ) → mem b T.nodes.birth ≡ false → length T.nodes.time ≤ index_of b T.nodes.birth
      past b k = ⊎_elim (λ (h : index_of b T.nodes.birth < length T.nodes.time). absurd (clash (index_there b T.nodes.birth (omega (arith, j.base_long))) k)) (λ h. h) (before (index_of b T.nodes.birth) (length T.nodes.time))

  -- ---- edges

  pub parent_known : (i : ℕ) → i < length B.edges.left → mem (at B.edges.parent i) all ≡ true
  parent_known i l = ⊎_elim (λ (h : mem (at B.edges.parent i) T.nodes.birth ≡ true). mem_left (at B.edges.parent i) T.nodes.birth B.nodes.birth h) (λ (h : mem (at B.edges.parent i) B.nodes.birth ≡ true). mem_right (at B.edges.parent i) T.nodes.birth B.nodes.birth h) (j.edge i l).parent_in-is

  pub child_known : (i : ℕ) → i < length B.edges.left → mem (at B.edges.child i) all ≡ true
  child_known i l = mem_right (at B.edges.child i) T.nodes.birth B.nodes.birth (j.edge i l).child_in

  pub joint_rows : length joint.left ≡ length T.edges.left + length B.edges.left
  joint_rows = length-append T.edges.left B.edges.left

  -- a base edge keeps its rows
  module _ (i : ℕ) (h : i < length T.edges.left) where
    pub base_parent : at joint.parent i ≡ at T.edges.parent i
    base_parent = get_left 0 T.edges.parent (rows_in all B.edges.parent) i (omega (arith, j.rising.even.parent_long))

    pub base_child : at joint.child i ≡ at T.edges.child i
    base_child = get_left 0 T.edges.child (rows_in all B.edges.child) i (omega (arith, j.rising.even.child_long))

  -- a batch edge has its births' rows
  module _ (i : ℕ) (h : length T.edges.left ≤ i) (k : i < length joint.left) where
    pub batch_parent : at joint.parent i ≡ index_of (at B.edges.parent (i - length T.edges.left)) all
    batch_parent =
        let n : length T.edges.parent ≡ length T.edges.left = j.rising.even.parent_long in
        let q : i - length T.edges.parent ≡ i - length T.edges.left = omega arith in
        get_right 0 T.edges.parent (rows_in all B.edges.parent) i (omega arith)
        ∙ get_map (λ b. index_of b all) B.edges.parent (i - length T.edges.parent) 0 0 (omega (arith, joint_rows, j.even.parent_long))
        ∙ ap (λ e. index_of (at B.edges.parent e) all) q

    pub batch_child : at joint.child i ≡ index_of (at B.edges.child (i - length T.edges.left)) all
    batch_child =
        let n : length T.edges.child ≡ length T.edges.left = j.rising.even.child_long in
        let q : i - length T.edges.child ≡ i - length T.edges.left = omega arith in
        get_right 0 T.edges.child (rows_in all B.edges.child) i (omega arith)
        ∙ get_map (λ b. index_of b all) B.edges.child (i - length T.edges.child) 0 0 (omega (arith, joint_rows, j.even.child_long))
        ∙ ap (λ e. index_of (at B.edges.child e) all) q

  -- the rows that the edges name exist
  pub joint_parent_row : (i : ℕ) → i < length joint.left → at joint.parent i < length times
  joint_parent_row i l = ⊎_elim
      (λ (h : i < length T.edges.left). omega (arith, base_parent i h, j.rising.parent_row i h, length-append T.nodes.time B.nodes.time))
      (λ (h : length T.edges.left ≤ i). omega (arith, batch_parent i h l, all_long, index_below (at B.edges.parent (i - length T.edges.left)) all (parent_known (i - length T.edges.left) (omega (arith, joint_rows)))))
      (before i (length T.edges.left))

  pub joint_child_row : (i : ℕ) → i < length joint.left → at joint.child i < length times
  joint_child_row i l = ⊎_elim
      (λ (h : i < length T.edges.left). omega (arith, base_child i h, j.rising.child_row-is i h, length-append T.nodes.time B.nodes.time))
      (λ (h : length T.edges.left ≤ i). omega (arith, batch_child i h l, all_long, index_below (at B.edges.child (i - length T.edges.left)) all (child_known (i - length T.edges.left) (omega (arith, joint_rows)))))
      (before i (length T.edges.left))

  old_time : (u : ℕ) → u < length T.nodes.time → at times u ≡ at T.nodes.time u
  old_time u h = get_left 0 T.nodes.time B.nodes.time u h

  joint_age : (i : ℕ) → i < length joint.left → at times (at joint.child i) < at times (at joint.parent i)
  joint_age i l = ⊎_elim
      (λ (h : i < length T.edges.left).
      let c : at times (at joint.child i) ≡ at T.nodes.time (at T.edges.child i) = ap (at times) (base_child i h) ∙ old_time (at T.edges.child i) (j.rising.child_row-is i h) in
      let p : at times (at joint.parent i) ≡ at T.nodes.time (at T.edges.parent i) = ap (at times) (base_parent i h) ∙ old_time (at T.edges.parent i) (j.rising.parent_row i h) in
      omega (arith, j.rising.age i h))
      (λ (h : length T.edges.left ≤ i).
      let k : i - length T.edges.left < length B.edges.left = omega (arith, joint_rows) in
      let c : at times (at joint.child i) ≡ time_in T.nodes B.nodes (at B.edges.child (i - length T.edges.left)) = ap (at times) (batch_child i h l) ∙ sym (time_joint (at B.edges.child (i - length T.edges.left)) (child_known (i - length T.edges.left) k)) in
      let p : at times (at joint.parent i) ≡ time_in T.nodes B.nodes (at B.edges.parent (i - length T.edges.left)) = ap (at times) (batch_parent i h l) ∙ sym (time_joint (at B.edges.parent (i - length T.edges.left)) (parent_known (i - length T.edges.left) k)) in
      omega (arith, (j.edge (i - length T.edges.left) k).older))
      (before i (length T.edges.left))

  pub joint_rising : Rising times joint
  joint_rising = record {
    even = record {
      right_long = length-append T.edges.right B.edges.right ∙ ap₂ ◌+◌ j.rising.even.right_long j.even.right_long ∙ sym joint_rows;
      parent_long = length_mapped T.edges.parent B.edges.parent (λ b. index_of b all) ∙ ap₂ ◌+◌ j.rising.even.parent_long j.even.parent_long ∙ sym joint_rows;
      child_long = length_mapped T.edges.child B.edges.child (λ b. index_of b all) ∙ ap₂ ◌+◌ j.rising.even.child_long j.even.child_long ∙ sym joint_rows;
    };
    parent_row = joint_parent_row;
    child_row-is = joint_child_row;
    age = joint_age;
  }
