-- What each rule of a batch has found where it does not refuse, so that the next may be asked, and each way out of 22 to 26.
use mathlib.Core.Path.{◌≡◌, refl, sym, ap, fun_ext, ◌∙◌}
use mathlib.Core.Bool.{true, false, not}
use mathlib.Core.List.{List, []}
use Prim.Native.Nat.{ℕ, ◌<◌, ◌≤◌}
use native.Mathlib.Omega.{arith}
use lib.Dec.{leb, ltb}
use lib.ListN.{length}
use borrow.Author.Tests.{ltb-false, leb-false}
use Rattle.std.specs.Prelude.{Some, None}
use Rattle.meaning.specs.Words.{or, at, mem, lowest, lowest_row}
use Rattle.meaning.specs.Rows.{Tables, Edge}
use Rattle.meaning.specs.Answer.{Answer, answer, done, limits, refuse_row}
use Rattle.meaning.specs.Check.{repeated, edge_shared, mutation_above, overtakes}
use Rattle.meaning.specs.Join.{BatchTables, batch_birth, batch_edge, batch_mutation, batch_rules, time_in}
use Rattle.laws.specs.Bools.{or_of, or_no, not_no}
use Rattle.rules.specs.Lined.{Somewhere}
use Rattle.checker.proofs.Rows.{apart}
use Rattle.checker.proofs.Order.{row_found, row_none, none_found}
use Rattle.accepted.specs.Batches.{BatchEdgeRight, edges_with}
use Rattle.batches.specs.Joint.{Joint}
use Rattle.batches.specs.Asked.{Above, BatchAsked}
use Rattle.batches.specs.Aged.{joint_aged}

-- ---- what is left of the rules

abbrev only_26 : Tables → BatchTables → Answer
only_26 T B = refuse_row 26 (mutation_above (edges_with T B) T.sites.position (λ b. b) B.muts) (length B.muts.site) done

abbrev from_25 : Tables → BatchTables → Answer
from_25 T B = refuse_row 25 (batch_mutation (length T.sites.position) B.nodes.birth B.muts) (length B.muts.site) (only_26 T B)

abbrev from_24 : Tables → BatchTables → Answer
from_24 T B = refuse_row 24 (edge_shared B.edges) (length B.edges.left) (from_25 T B)

-- ---- what passes a rule

module _ (L : ℕ) (T : Tables) (B : BatchTables) where
  birth_parts : (i : ℕ) → batch_birth T.nodes.birth B.nodes.birth i ≡ false → (mem (at B.nodes.birth i) T.nodes.birth ≡ false) × (repeated B.nodes.birth i ≡ false)
  unfolding batch_birth
  birth_parts i h = or_no (mem (at B.nodes.birth i) T.nodes.birth) (repeated B.nodes.birth i) h

  edge_right : (i : ℕ) → batch_edge L T.nodes B.nodes B.edges i ≡ false → BatchEdgeRight L T.nodes B.nodes B.edges i
  unfolding batch_edge
  edge_right i h =
      let a : _ = or_no (not (mem (at B.edges.child i) B.nodes.birth)) _ h in
      let b : _ = or_no (not (or (mem (at B.edges.parent i) T.nodes.birth) (mem (at B.edges.parent i) B.nodes.birth))) _ a.1 in
      let c : _ = or_no (leb (at B.edges.right i) (at B.edges.left i)) _ b.1 in
      let d : _ = or_no (ltb L (at B.edges.right i)) _ c.1 in
      record {
        child_in = not_no (mem (at B.edges.child i) B.nodes.birth) a.0;
        parent_in-is = or_of (mem (at B.edges.parent i) T.nodes.birth) (mem (at B.edges.parent i) B.nodes.birth) (not_no (or (mem (at B.edges.parent i) T.nodes.birth) (mem (at B.edges.parent i) B.nodes.birth)) b.0);
        some_position = leb-false (at B.edges.right i) (at B.edges.left i) c.0;
        within = ltb-false L (at B.edges.right i) d.0;
        older = leb-false (time_in T.nodes B.nodes (at B.edges.parent i)) (time_in T.nodes B.nodes (at B.edges.child i)) d.1;
      }

  mutation_parts : (i : ℕ) → batch_mutation (length T.sites.position) B.nodes.birth B.muts i ≡ false → (at B.muts.site i < length T.sites.position) × (mem (at B.muts.node i) B.nodes.birth ≡ true)
  unfolding batch_mutation
  mutation_parts i h = let p : _ = or_no (leb (length T.sites.position) (at B.muts.site i)) _ h in (leb-false (length T.sites.position) (at B.muts.site i) p.0, not_no (mem (at B.muts.node i) B.nodes.birth) p.1)

  module _ (asked : BatchAsked T B) where
    -- no edge breaks 23, so every edge holds somewhere and 24 may be asked
    pub shared_asked : None ≡ lowest_row (batch_edge L T.nodes B.nodes B.edges) (length B.edges.left) → Somewhere B.edges × (length B.edges.left ≤ limits.edges)
    shared_asked e = (record { held = λ i k. (edge_right i (none_found _ _ e i k)).some_position }, omega (arith, asked.edges))

    -- none breaks 22 to 25
    module _ (b : None ≡ lowest_row (batch_birth T.nodes.birth B.nodes.birth) (length B.nodes.birth)) (e : None ≡ lowest_row (batch_edge L T.nodes B.nodes B.edges) (length B.edges.left)) where
      pub joint_found : Joint L T B
      joint_found = record {
        base_long = asked.base_long;
        long = asked.shaped.births;
        few = asked.few;
        base_once = asked.base_once;
        once = apart B.nodes.birth (λ i l. (birth_parts i (none_found _ _ b i l)).1);
        fresh = λ i l. (birth_parts i (none_found _ _ b i l)).0;
        rising = asked.rising;
        even = asked.shaped.edges;
        edge = λ i l. edge_right i (none_found _ _ e i l);
      }

      module _ (s : None ≡ lowest_row (edge_shared B.edges) (length B.edges.left)) (m : None ≡ lowest_row (batch_mutation (length T.sites.position) B.nodes.birth B.muts) (length B.muts.site)) where
        -- so 26 may be asked
        pub above_asked : Above L T.nodes.time T.nodes.birth T.edges T.sites.position B.nodes.time B.nodes.birth B.edges B.muts.site B.muts.node
        above_asked = record {
          joint = joint_aged L T B T.sites.position B.muts.site B.muts.node joint_found;
          edges = asked.edges;
          sites = asked.sites;
          mutations = asked.mutations;
          apart = λ i l. none_found _ _ s i l;
          rightwards = asked.rightwards;
          node_long = asked.shaped.mutated.node_long;
          site_row = λ i l. (mutation_parts i (none_found _ _ m i l)).0;
          node_in = λ i l. (mutation_parts i (none_found _ _ m i l)).1;
        }

-- 26 does not read the states
stateless_row : (E : List Edge) (position site node derived : List ℕ) (i : ℕ) → mutation_above E position (λ b. b) (record { site = site; node = node; derived = [] }) i ≡ mutation_above E position (λ b. b) (record { site = site; node = node; derived = derived }) i
unfolding mutation_above overtakes
stateless_row E position site node derived i = refl

pub stateless : (E : List Edge) (position site node derived : List ℕ) (n : ℕ) → lowest (mutation_above E position (λ b. b) (record { site = site; node = node; derived = [] })) n ≡ lowest (mutation_above E position (λ b. b) (record { site = site; node = node; derived = derived })) n
stateless E position site node derived n = ap (λ f. lowest f n) (fun_ext (stateless_row E position site node derived))

-- ---- the ways out of 22 to 26, by what the searches gave

module _ (L : ℕ) (T : Tables) (B : BatchTables) where
  pub refused_22 : (r : ℕ) → Some r ≡ lowest_row (batch_birth T.nodes.birth B.nodes.birth) (length B.nodes.birth) → answer 22 r ≡ batch_rules L T B done
  unfolding batch_rules
  refused_22 r e = sym (row_found (batch_birth T.nodes.birth B.nodes.birth) 22 (length B.nodes.birth) _ r e)

  module _ (b : None ≡ lowest_row (batch_birth T.nodes.birth B.nodes.birth) (length B.nodes.birth)) where
    past_22 : batch_rules L T B done ≡ refuse_row 23 (batch_edge L T.nodes B.nodes B.edges) (length B.edges.left) (from_24 T B)
    unfolding batch_rules
    past_22 = row_none (batch_birth T.nodes.birth B.nodes.birth) 22 (length B.nodes.birth) _ b

    pub refused_23 : (r : ℕ) → Some r ≡ lowest_row (batch_edge L T.nodes B.nodes B.edges) (length B.edges.left) → answer 23 r ≡ batch_rules L T B done
    refused_23 r e = sym (past_22 ∙ row_found (batch_edge L T.nodes B.nodes B.edges) 23 (length B.edges.left) (from_24 T B) r e)

    module _ (e : None ≡ lowest_row (batch_edge L T.nodes B.nodes B.edges) (length B.edges.left)) where
      past_23 : batch_rules L T B done ≡ from_24 T B
      past_23 = past_22 ∙ row_none (batch_edge L T.nodes B.nodes B.edges) 23 (length B.edges.left) (from_24 T B) e

      pub refused_24 : (r : ℕ) → Some r ≡ lowest_row (edge_shared B.edges) (length B.edges.left) → answer 24 r ≡ batch_rules L T B done
      refused_24 r h = sym (past_23 ∙ row_found (edge_shared B.edges) 24 (length B.edges.left) (from_25 T B) r h)

      module _ (s : None ≡ lowest_row (edge_shared B.edges) (length B.edges.left)) where
        past_24 : batch_rules L T B done ≡ from_25 T B
        past_24 = past_23 ∙ row_none (edge_shared B.edges) 24 (length B.edges.left) (from_25 T B) s

        pub refused_25 : (r : ℕ) → Some r ≡ lowest_row (batch_mutation (length T.sites.position) B.nodes.birth B.muts) (length B.muts.site) → answer 25 r ≡ batch_rules L T B done
        refused_25 r h = sym (past_24 ∙ row_found (batch_mutation (length T.sites.position) B.nodes.birth B.muts) 25 (length B.muts.site) (only_26 T B) r h)

        module _ (m : None ≡ lowest_row (batch_mutation (length T.sites.position) B.nodes.birth B.muts) (length B.muts.site)) where
          past_25 : batch_rules L T B done ≡ only_26 T B
          past_25 = past_24 ∙ row_none (batch_mutation (length T.sites.position) B.nodes.birth B.muts) 25 (length B.muts.site) (only_26 T B) m

          pub refused_26 : (r : ℕ) → Some r ≡ lowest_row (mutation_above (edges_with T B) T.sites.position (λ b. b) B.muts) (length B.muts.site) → answer 26 r ≡ batch_rules L T B done
          refused_26 r h = sym (past_25 ∙ row_found (mutation_above (edges_with T B) T.sites.position (λ b. b) B.muts) 26 (length B.muts.site) done r h)

          pub batch_passes : None ≡ lowest_row (mutation_above (edges_with T B) T.sites.position (λ b. b) B.muts) (length B.muts.site) → done ≡ batch_rules L T B done
          batch_passes h = sym (past_25 ∙ row_none (mutation_above (edges_with T B) T.sites.position (λ b. b) B.muts) 26 (length B.muts.site) done h)
