-- The groups of a join's rules: 20 and 21 by lengths, and what each group hands on to the next.
use mathlib.Core.Path.{◌≡◌, refl, sym, ap, ◌∙◌}
use mathlib.Core.Bool.{Bool, true, false, not}
use Prim.Native.Nat.{ℕ, ◌+◌, ◌≤◌}
use native.Mathlib.Omega.{arith}
use lib.Dec.{eqb, ltb}
use lib.ListN.{length}
use borrow.Author.Tests.{eqb-true, ltb-false}
use Rattle.meaning.specs.Words.{or}
use Rattle.meaning.specs.Rows.{Tables}
use Rattle.meaning.specs.Answer.{Answer, done, limits, refuse, accepted, checked_of}
use Rattle.meaning.specs.Check.{check_then}
use Rattle.meaning.specs.Join.{BatchTables, batch_shapes, batch_sizes, batch_rules}
use Rattle.meaning.specs.declared.Refusal.{Refusal}
use Rattle.meaning.specs.Answer.{Checked}
use Rattle.std.specs.Prelude.{Ok, Err}
use Rattle.laws.specs.Bools.{or_no, not_no}
use Rattle.rules.specs.Lengths.{unlike, table_if, refuse_table}
use Rattle.rules.proofs.ByLengths.{ragged_three, ragged_four}
use Rattle.checker.specs.Then.{after}
use Rattle.checker.specs.Found.{TablesSound}
use Rattle.checker.proofs.Order.{refuse_done}
use Rattle.checker.proofs.After.{Hands, hands, stops, goes_on, was_sound, after_refused, tables_after}
use Rattle.checker.proofs.Sound.{tables_sound}
use Rattle.checker.proofs.Rows.{apart, rising, rightwards}
use Rattle.batches.specs.Lengths.{batch_ragged, batch_large, ragged_of, large_of}
use Rattle.batches.specs.Asked.{read_base, BatchEven, BatchAsked}
use Rattle.batches.specs.Aged.{aged_nodes, aged_batch, rules_aged}
use Rattle.joint.specs.Asked.{BaseAsked}

refuse_hands : (a rest : Answer) (t : Bool) (n r : ℕ) → eqb n 0 ≡ false → refuse t n r (after a rest) ≡ after (refuse t n r a) rest
unfolding refuse after accepted
refuse_hands a rest true n r e = sym (after_refused rest e)
refuse_hands a rest false n r e = refl

-- the first of tables 1, 2 and 4 that is refused
first_of_three : (n : ℕ) (a b c : Bool) (rest : Answer) → refuse a n 1 (refuse b n 2 (refuse c n 4 rest)) ≡ refuse_table n (table_if a 1 (table_if b 2 (table_if c 4 0))) rest
unfolding refuse
first_of_three n true b c rest = refl
first_of_three n false true c rest = refl
first_of_three n false false true rest = refl
first_of_three n false false false rest = refl

-- ---- 20 and 21 by lengths

shapes_by_lengths : (B : BatchTables) (rest : Answer) → batch_shapes B rest ≡ refuse_table 20 (ragged_of B) rest
unfolding batch_shapes batch_ragged
shapes_by_lengths B rest =
    rw (
      ragged_three B.nodes.time B.nodes.birth B.nodes.population,
      ragged_four B.edges.left B.edges.right B.edges.parent B.edges.child,
      ragged_three B.muts.site B.muts.node B.muts.derived,
    ) (first_of_three 20
    (or (unlike (length B.nodes.birth) (length B.nodes.time)) (unlike (length B.nodes.population) (length B.nodes.time)))
    (or (unlike (length B.edges.right) (length B.edges.left)) (or (unlike (length B.edges.parent) (length B.edges.left)) (unlike (length B.edges.child) (length B.edges.left))))
    (or (unlike (length B.muts.node) (length B.muts.site)) (unlike (length B.muts.derived) (length B.muts.site)))
    rest)

sizes_by_lengths : (T : Tables) (B : BatchTables) (rest : Answer) → batch_sizes limits T B rest ≡ refuse_table 21 (large_of limits T B) rest
unfolding batch_sizes batch_large
sizes_by_lengths T B rest = first_of_three 21 (ltb limits.nodes (length T.nodes.time + length B.nodes.time)) (ltb limits.edges (length T.edges.left + length B.edges.left)) (ltb limits.mutations (length T.muts.site + length B.muts.site)) rest

pub by_lengths : (T : Tables) (B : BatchTables) (rest : Answer) → batch_shapes B (batch_sizes limits T B rest) ≡ refuse_table 20 (ragged_of B) (refuse_table 21 (large_of limits T B) rest)
by_lengths T B rest = shapes_by_lengths B (batch_sizes limits T B rest) ∙ ap (refuse_table 20 (ragged_of B)) (sizes_by_lengths T B rest)

-- ---- what 20 and 21 have found

alike : (a b : ℕ) → not (eqb a b) ≡ false → a ≡ b
alike a b h = eqb-true a b (not_no (eqb a b) h)

even_of : (B : BatchTables) (rest : Answer) → accepted (refuse_table 20 (ragged_of B) rest) ≡ true → BatchEven B × (accepted rest ≡ true)
unfolding batch_ragged
even_of B rest h =
    let n : Bool = or (unlike (length B.nodes.birth) (length B.nodes.time)) (unlike (length B.nodes.population) (length B.nodes.time)) in
    let e : Bool = or (unlike (length B.edges.right) (length B.edges.left)) (or (unlike (length B.edges.parent) (length B.edges.left)) (unlike (length B.edges.child) (length B.edges.left))) in
    let u : Bool = or (unlike (length B.muts.node) (length B.muts.site)) (unlike (length B.muts.derived) (length B.muts.site)) in
    let k : _ = ap accepted (first_of_three 20 n e u rest) ∙ h in
    let one : _ = refuse_done n 20 1 _ refl k in
    let two : _ = refuse_done e 20 2 _ refl one.1 in
    let four : _ = refuse_done u 20 4 rest refl two.1 in
    let edges : _ = or_no _ _ two.0 in
    let ends : _ = or_no _ _ edges.1 in
    let mutations : _ = or_no _ _ four.0 in (
      record {
        births = alike _ _ (or_no _ _ one.0).0;
        edges = record { right_long = alike _ _ edges.0; parent_long = alike _ _ ends.0; child_long = alike _ _ ends.1 };
        mutated = record { node_long = alike _ _ mutations.0; derived_long = alike _ _ mutations.1 };
      },
      four.1,
    )

sized_of : (T : Tables) (B : BatchTables) (rest : Answer) → accepted (refuse_table 21 (large_of limits T B) rest) ≡ true → (length T.nodes.time + length B.nodes.time ≤ limits.nodes) × (length T.edges.left + length B.edges.left ≤ limits.edges) × (length T.muts.site + length B.muts.site ≤ limits.mutations)
unfolding batch_large
sized_of T B rest h =
    let k : _ = ap accepted (first_of_three 21 (ltb limits.nodes (length T.nodes.time + length B.nodes.time)) (ltb limits.edges (length T.edges.left + length B.edges.left)) (ltb limits.mutations (length T.muts.site + length B.muts.site)) rest) ∙ h in
    let one : _ = refuse_done (ltb limits.nodes (length T.nodes.time + length B.nodes.time)) 21 1 _ refl k in
    let two : _ = refuse_done (ltb limits.edges (length T.edges.left + length B.edges.left)) 21 2 _ refl one.1 in
    let four : _ = refuse_done (ltb limits.mutations (length T.muts.site + length B.muts.site)) 21 4 rest refl two.1 in
    (ltb-false _ _ one.0, ltb-false _ _ two.0, ltb-false _ _ four.0)

module _ (T : Tables) (B : BatchTables) where
  -- 20 and 21, and then what comes after
  abbrev length_rules : Answer → Answer
  length_rules rest = refuse_table 20 (ragged_of B) (refuse_table 21 (large_of limits T B) rest)

  lengths_hand : Hands length_rules
  lengths_hand = hands length_rules (λ a rest.
      ap (refuse_table 20 (ragged_of B)) (refuse_hands a rest (not (eqb (large_of limits T B) 0)) 21 (large_of limits T B) refl)
      ∙ refuse_hands (refuse_table 21 (large_of limits T B) a) rest (not (eqb (ragged_of B) 0)) 20 (ragged_of B) refl)

  module _ (s : Checked) (e : checked_of s ≡ length_rules done) where
    pub lengths_stop : (r : Refusal) → s ≡ Err r → (rest : Answer) → checked_of s ≡ length_rules rest
    lengths_stop = stops length_rules lengths_hand s e

    pub lengths_go_on : s ≡ Ok tt → (t : Checked) (rest : Answer) → checked_of t ≡ rest → checked_of t ≡ length_rules rest
    lengths_go_on q t rest f = f ∙ sym (goes_on length_rules lengths_hand s e q rest)

    found_shape : s ≡ Ok tt → BatchEven B × (accepted (refuse_table 21 (large_of limits T B) done) ≡ true)
    found_shape q = even_of B (refuse_table 21 (large_of limits T B) done) (was_sound length_rules lengths_hand s e q)

    pub batch_even : s ≡ Ok tt → BatchEven B
    batch_even q = (found_shape q).0

    pub batch_asked : s ≡ Ok tt → BaseAsked (aged_nodes T.nodes) T.edges T.sites.position → BatchAsked (read_base T.nodes.time T.nodes.birth T.edges T.sites.position) (aged_batch B)
    batch_asked q b =
        let f : _ = found_shape q in
        let g : _ = sized_of T B done f.1 in
        record {
          base_long = b.long;
          base_once = b.once;
          rising = b.rising;
          shaped = record { births = f.0.births; edges = f.0.edges; mutated = f.0.mutated };
          few = g.0;
          edges = g.1;
          sites = b.sites;
          rightwards = b.rightwards;
          mutations = omega (arith, g.2);
        }

    pub batch_births : s ≡ Ok tt → length B.nodes.birth ≤ 1024
    batch_births q =
        let f : _ = found_shape q in
        let g : _ = sized_of T B done f.1 in
        omega (arith, g.0, f.0.births)

-- ---- 1 to 10 of the base

module _ (L : ℕ) (T : Tables) (t : Checked) (e : checked_of t ≡ check_then limits L T done) where
  base_hands : Hands (check_then limits L T)
  base_hands = hands (check_then limits L T) (tables_after limits L T)

  pub base_stops : (r : Refusal) → t ≡ Err r → (rest : Answer) → checked_of t ≡ check_then limits L T rest
  base_stops = stops (check_then limits L T) base_hands t e

  pub base_sound : t ≡ Ok tt → TablesSound limits L T
  base_sound q = (tables_sound limits L T done (was_sound (check_then limits L T) base_hands t e q)).0

  pub base_asked : t ≡ Ok tt → BaseAsked (aged_nodes T.nodes) T.edges T.sites.position
  base_asked q =
      let s : _ = base_sound q in
      record {
        long = s.shaped.birth_long;
        once = apart T.nodes.birth s.tree.once;
        rising = rising L T.nodes.time T.edges s.shaped.edges s.tree.whole;
        sites = s.sized.sites;
        rightwards = rightwards L T.sites.position s.sites.placed;
      }

  -- the rules read only nodes, edges and positions of the base, and no population
  pub base_goes_on : t ≡ Ok tt → (B : BatchTables) (u : Checked) → checked_of u ≡ refuse_table 20 (ragged_of B) (refuse_table 21 (large_of limits T B) (batch_rules L (read_base T.nodes.time T.nodes.birth T.edges T.sites.position) (aged_batch B) done)) → checked_of u ≡ check_then limits L T (batch_shapes B (batch_sizes limits T B (batch_rules L T B done)))
  base_goes_on q B u f =
      f
      ∙ ap (λ a. refuse_table 20 (ragged_of B) (refuse_table 21 (large_of limits T B) a)) (rules_aged L T B done)
      ∙ sym (goes_on (check_then limits L T) base_hands t e q (batch_shapes B (batch_sizes limits T B (batch_rules L T B done))) ∙ by_lengths T B (batch_rules L T B done))
