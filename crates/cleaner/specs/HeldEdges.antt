-- The finished edges, put in key order and with places for rows, are the edges of the result.
use Rattle.std.specs.Prelude.{◌≡◌, true, ℕ, zero, suc, ◌<◌, ◌≤◌, length, get_or, take}
use Rattle.std.proofs.Common.{sym, ◌∙◌, ⊎_elim, arith, length-take-le, get_or-take}
use Rattle.std.proofs.Math.Path.{ap, ap₂}
use mathlib.Core.List.{List, [], ◌∷◌, ◌++◌, map, map-map}
use Rattle.std.proofs.Math.Option.{some}
use Rattle.meaning.specs.Words.{at, mem, index_of, lex, rows, sort}
use Rattle.meaning.specs.Rows.{EdgeColumns, Tables, Edge, age_table}
use Rattle.meaning.specs.Answer.{limits}
use Rattle.meaning.specs.Clean.{row_in}
use Rattle.laws.specs.Members.{at_map}
use Rattle.encoding.specs.Edges.{is_of}
use Rattle.order.specs.Lex.{trichotomy}
use Rattle.order.specs.Order.{Inside, key, by_keys}
use Rattle.order.specs.Tables.{own_inside, permuted_inside, table_sorted}
use Rattle.keys.specs.Keys.{InTurns}
use Rattle.byrows.specs.Rows.{all_rows, sample_rows, up_row, row_key}
use Rattle.byrows.specs.Ground.{Ground, once}
use Rattle.byrows.specs.Kept.{Others}
use Rattle.byrows.specs.Standing.{parent_stands}
use Rattle.runs.specs.Runs.{InTurn, one_more, Collected, no_edge}
use Rattle.runs.specs.Collected.{by_row_key}
use Rattle.writing.specs.Renamed.{renamed}
use Rattle.cleaner.specs.Reading.{map_inside, rows_of, all_get}
use Rattle.cleaner.specs.Places.{kept_of, named}
use Rattle.cleaner.specs.Finishing.{RowIs, EdgesDone}

-- of two edges of one child the earlier begins further left
in_turn_at : (F : List Edge) → InTurn F → (a b : ℕ) → a < b → b < length F → (get_or F a no_edge).child ≡ (get_or F b no_edge).child → (get_or F a no_edge).left < (get_or F b no_edge).left
in_turn_at [] o a b h k p = absurd (omega arith)
in_turn_at (e ∷ F) o a zero h k p = absurd (omega arith)
in_turn_at (e ∷ F) (one_more x o) zero (suc b) h k p = all_get no_edge F b x (omega arith) p
in_turn_at (e ∷ F) (one_more x o) (suc a) (suc b) h k p = in_turn_at F o a b (omega arith) (omega arith) p

-- so edges with one child and one left are one
once_at : (F : List Edge) → InTurn F → (a b : ℕ) → a < length F → b < length F → (get_or F a no_edge).child ≡ (get_or F b no_edge).child → (get_or F a no_edge).left ≡ (get_or F b no_edge).left → a ≡ b
once_at F o a b h k p q = ⊎_elim
    (λ (l : a < b). absurd (omega (arith, in_turn_at F o a b l k p)))
    (λ r. ⊎_elim (λ (e : a ≡ b). e) (λ (l : b < a). absurd (omega (arith, in_turn_at F o b a l h (sym p)))) r)
    (trichotomy a b)

-- a cell read through the first k rows
through : (f : ℕ → ℕ) (l : List ℕ) (k i : ℕ) → k ≤ length l → i < k → at (map f (take k l)) i ≡ f (at l i)
through f l k i h b = at_map f (take k l) i (omega (arith, length-take-le k l h)) ∙ ap f (get_or-take k l i 0 b)

module _ (L : ℕ) (T : Tables) (S : List ℕ) (g : Ground limits L T S) (OR : List ℕ) (o : Others limits L T S g OR) where
  abbrev n : ℕ
  n = length T.nodes.birth

  abbrev SR : List ℕ
  SR = sample_rows T.nodes.birth S

  module _ (F : List Edge) (col : Collected (up_row T.edges n SR) n L F) (E : EdgeColumns) (k : ℕ) (counted : length F ≡ k) (cell : (i : ℕ) → i < k → RowIs E i (get_or F i no_edge)) (pl : k ≤ length E.parent) (cl : k ≤ length E.child) where
    abbrev f : ℕ → Edge
    f i = get_or F i no_edge

    ends : (i : ℕ) → i < k → ((f i).parent < n) × ((f i).child < n)
    ends i l = all_get no_edge F i col.inside (omega arith)

    -- the ends of the edges are rows
    pub parents_inside : Inside n (take k E.parent)
    parents_inside = record { row = λ i l. let j : i < k = omega (arith, length-take-le k E.parent pl) in omega (arith, get_or-take k E.parent i 0 j, (cell i j).parent, (ends i j).0) }

    pub children_inside : Inside n (take k E.child)
    children_inside = record { row = λ i l. let j : i < k = omega (arith, length-take-le k E.child cl) in omega (arith, get_or-take k E.child i 0 j, (cell i j).child, (ends i j).1) }

    -- each child's edges stand from left to right
    pub in_turns : InTurns E.left E.child k
    in_turns = record { rises = λ i j l h e. let a : i < k = omega arith in omega (arith, (cell i a).left, (cell j h).left, in_turn_at F col.in_turn i j l (omega arith) (sym (cell i a).child ∙ e ∙ (cell j h).child)) }

    stand : (i : ℕ) → i < k → (mem (f i).parent (SR ++ OR) ≡ true) × (mem (f i).child (SR ++ OR) ≡ true)
    stand i l =
        let w : _ = all_get no_edge F i col.whole (omega arith) in
        let x : (f i).left < L = omega (arith, w.wide, w.inside) in
        let u : up_row T.edges n SR (f i).left (f i).child ≡ some (f i).parent = is_of (up_row T.edges n SR (f i).left (f i).child) (f i).parent (w.holds (f i).left (omega arith) w.wide) in
        let s : _ = parent_stands limits L T S g (f i).left (f i).child (f i).parent u in
        (kept_of L T S g OR o (f i).parent (f i).left (ends i l).0 x s.1, kept_of L T S g OR o (f i).child (f i).left (ends i l).1 x s.0)

    module _ (places : List ℕ) (E' : EdgeColumns) (e : EdgesDone (age_table T.nodes.time T.nodes.birth) places k E E') where
      abbrev k0 : List ℕ
      k0 = map (at T.nodes.time) (take k E.parent)

      abbrev k1 : List ℕ
      k1 = map (at T.nodes.birth) (take k E.parent)

      abbrev k2 : List ℕ
      k2 = map (at T.nodes.birth) (take k E.child)

      abbrev k3 : List ℕ
      k3 = take k E.left

      key_is : (i : ℕ) → i < k → key k0 k1 k2 k3 i ≡ row_key T.nodes (f i)
      unfolding key row_key
      key_is i l = λ j.
          (through (at T.nodes.time) E.parent k i pl l ∙ ap (at T.nodes.time) (cell i l).parent) j
          ∷ (through (at T.nodes.birth) E.parent k i pl l ∙ ap (at T.nodes.birth) (cell i l).parent) j
          ∷ (through (at T.nodes.birth) E.child k i cl l ∙ ap (at T.nodes.birth) (cell i l).child) j
          ∷ (get_or-take k E.left i 0 l ∙ (cell i l).left) j
          ∷ []

      agree : (a b : ℕ) → a < k → b < k → by_keys k0 k1 k2 k3 a b ≡ by_row_key T.nodes (f a) (f b)
      unfolding by_keys
      agree a b p q = ap₂ lex (key_is a p) (key_is b q)

      apart : (a b : ℕ) → a < k → b < k → key k0 k1 k2 k3 a ≡ key k0 k1 k2 k3 b → a ≡ b
      unfolding row_key
      apart a b p q z = told (sym (key_is a p) ∙ z ∙ key_is b q)
        where
          told : row_key T.nodes (f a) ≡ row_key T.nodes (f b) → a ≡ b
          told y = once_at F col.in_turn a b (omega arith) (omega arith) (once limits L T S g (f a).child (f b).child (ends a p).1 (ends b q).1 (ap (λ (l : List ℕ). at l 2) y)) (ap (λ (l : List ℕ). at l 3) y)

      -- the order's edges are the sorted ones
      in_order : map f e.order ≡ sort (by_row_key T.nodes) F
      in_order = table_sorted k0 k1 k2 k3 k f (by_row_key T.nodes) e.order agree apart e.sorted ∙ ap (sort (by_row_key T.nodes)) (rows_of no_edge F k (sym counted))

      order_inside : Inside k e.order
      order_inside = permuted_inside k (rows (λ i. i) k) e.order e.sorted.permuted (own_inside k k (omega arith))

      field : (h : Edge → ℕ) (c : ℕ → ℕ) → ((i : ℕ) → i < k → c i ≡ h (f i)) → map h (sort (by_row_key T.nodes) F) ≡ map c e.order
      field h c q = ap (map h) (sym in_order) ∙ map-map h f e.order ∙ map_inside k (λ i. h (f i)) c e.order order_inside (λ v l. sym (q v l))

      module _ (long : n ≤ length places) (placed : take n places ≡ map (row_in (SR ++ OR)) (all_rows n)) where
        -- the edges of the result
        pub the_edges : ◌≡◌ {A = EdgeColumns} (record {
          left = map (λ (e : Edge). e.left) (sort (by_row_key T.nodes) F);
          right = map (λ (e : Edge). e.right) (sort (by_row_key T.nodes) F);
          parent = map (λ (e : Edge). index_of e.parent (SR ++ OR)) (sort (by_row_key T.nodes) F);
          child = map (λ (e : Edge). index_of e.child (SR ++ OR)) (sort (by_row_key T.nodes) F);
        }) (record {
          left = map (at E.left) e.order;
          right = map (at E.right) e.order;
          parent = map (λ i. renamed places (at E.parent i)) e.order;
          child = map (λ i. renamed places (at E.child i)) e.order;
        })
        the_edges = λ j. record {
          left = field (λ (e : Edge). e.left) (at E.left) (λ i l. (cell i l).left) j;
          right = field (λ (e : Edge). e.right) (at E.right) (λ i l. (cell i l).right) j;
          parent = field (λ (e : Edge). index_of e.parent (SR ++ OR)) (λ i. renamed places (at E.parent i)) (λ i l. ap (renamed places) (cell i l).parent ∙ named L T S g OR o places long placed (f i).parent (ends i l).0 (stand i l).0) j;
          child = field (λ (e : Edge). index_of e.child (SR ++ OR)) (λ i. renamed places (at E.child i)) (λ i l. ap (renamed places) (cell i l).child ∙ named L T S g OR o places long placed (f i).child (ends i l).1 (stand i l).1) j;
        }
