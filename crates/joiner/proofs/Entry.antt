-- The call: the checks' refusal, 13 with nothing written, or the result.
use mathlib.Core.Path.{◌≡◌, refl, sym, ap, ◌∙◌}
use mathlib.Core.Bool.{Bool, true, false}
use mathlib.Core.List.{[]}
use Prim.Native.Nat.{ℕ, ◌+◌}
use lib.Dec.{eqb, ltb}
use lib.ListN.{length}
use Rattle.meaning.specs.declared.Refusal.{Refusal}
use Rattle.meaning.specs.Answer.{Checked}
use Rattle.std.specs.Prelude.{Ok, Err}
use Rattle.meaning.specs.Words.{lowest}
use Rattle.meaning.specs.Rows.{Tables}
use Rattle.meaning.specs.Answer.{Answer, done, limits, refuse, refuse_row, accepted, room, lacks, refusal_of, checked_of}
use Rattle.meaning.specs.Lent.{Tabled, fit_then, block_then, counts_by, cells_by}
use Rattle.meaning.specs.Check.{check_then}
use Rattle.meaning.specs.Join.{BatchTables, JoinOutcome, joined_of, join_end, join_fit, batch_then, joined, batch_shapes, batch_sizes, batch_rules, joining}
use Rattle.accepted.specs.Refusals.{of_done}
use Rattle.accepted.specs.Endings.{join_refused}
use Rattle.accepted.specs.Rooms.{Fits, fits_of}
use Rattle.accepted.specs.Checked.{sound_of}
use Rattle.accepted.specs.Batches.{batch_sound_of}
use Rattle.checker.specs.Then.{after}
use Rattle.checker.proofs.After.{Hands, hands, after_refused, tables_after, refused, stops, goes_on, was_sound}
use Rattle.writing.specs.Room.{needs_of, lent_by}
use Rattle.writing.specs.Block.{room_within, room_within-is}
use Rattle.writing.specs.declared.Needs.{Needs}
use Rattle.joiner.specs.Joinable.{Joinable}
use Rattle.joiner.specs.Outcome.{after_checks, joining_by}
use Rattle.joiner.proofs.Result.{nodes_count, edges_count, sites_count, muts_count}

-- ---- each group hands on what comes after it

module _ (a rest : Answer) where
  refuse_on : (t : Bool) (n r : ℕ) → eqb n 0 ≡ false → refuse t n r (after a rest) ≡ after (refuse t n r a) rest
  unfolding refuse after accepted
  refuse_on true n r e = sym (after_refused rest e)
  refuse_on false n r e = refl

  row_on : (n : ℕ) (f : ℕ → Bool) (m : ℕ) → eqb n 0 ≡ false → refuse_row n f m (after a rest) ≡ after (refuse_row n f m a) rest
  unfolding refuse_row
  row_on n f m e = refuse_on (ltb (lowest f m) m) n (lowest f m) e

shapes_on : (B : BatchTables) (a rest : Answer) → batch_shapes B (after a rest) ≡ after (batch_shapes B a) rest
unfolding batch_shapes
shapes_on B a rest = simp refuse_on

sizes_on : (T : Tables) (B : BatchTables) (a rest : Answer) → batch_sizes limits T B (after a rest) ≡ after (batch_sizes limits T B a) rest
unfolding batch_sizes
sizes_on T B a rest = simp refuse_on

rules_on : (L : ℕ) (T : Tables) (B : BatchTables) (a rest : Answer) → batch_rules L T B (after a rest) ≡ after (batch_rules L T B a) rest
unfolding batch_rules
rules_on L T B a rest = simp row_on

fit_on : (new out : Tables) (a rest : Answer) → fit_then limits new out (after a rest) ≡ after (fit_then limits new out a) rest
unfolding fit_then
fit_on new out a rest = simp refuse_on

checks_on : (L : ℕ) (T : Tables) (B : BatchTables) (a rest : Answer) → batch_then limits L T B (after a rest) ≡ after (batch_then limits L T B a) rest
unfolding batch_then
checks_on L T B a rest =
    ap (λ x. check_then limits L T (batch_shapes B (batch_sizes limits T B x))) (rules_on L T B a rest)
    ∙ ap (λ x. check_then limits L T (batch_shapes B x)) (sizes_on T B (batch_rules L T B a) rest)
    ∙ ap (check_then limits L T) (shapes_on B (batch_sizes limits T B (batch_rules L T B a)) rest)
    ∙ tables_after limits L T (batch_shapes B (batch_sizes limits T B (batch_rules L T B a))) rest

-- ---- after the checks: the room

-- 13 by numbers: a join has no node map
fit_room : (new out : Tables) (cells : ℕ) → join_fit limits new out cells ≡ room_within (needs_of new []) (lent_by out []) cells
unfolding join_fit refuse lacks room
fit_room new out cells = room_within-is new [] out [] cells

-- the rows of the result, by those of base and batch
abbrev pub needs_in : Tables → BatchTables → Needs
needs_in T B = record {
  nodes = length T.nodes.time + length B.nodes.time;
  edges = length T.edges.left + length B.edges.left;
  sites = length T.sites.position;
  mutations = length T.muts.site + length B.muts.site;
  rows = 0;
}

module _ (L : ℕ) (T : Tables) (B : BatchTables) (k : Joinable L T B) (out : Tables) (cells : ℕ) (s : Checked) (e : checked_of s ≡ room_within (needs_in T B) (lent_by out []) cells) where
  answer_is : join_fit limits (joined L T B) out cells ≡ checked_of s
  answer_is =
      fit_room (joined L T B) out cells
      ∙ ap (λ (n : Needs). room_within n (lent_by out []) cells) (λ i. record { nodes = nodes_count L T B k i; edges = edges_count L T B k i; sites = sites_count L T B k i; mutations = muts_count L T B k i; rows = 0 })
      ∙ sym e

  -- a table or the block without room: nothing is written
  pub stored_refused : (r : Refusal) → s ≡ Err r → (o : Tabled) → o ≡ Err r → joined_of o out ≡ after_checks L T B out cells
  unfolding after_checks
  stored_refused r q o p =
      ap (λ (x : Tabled). joined_of x out) p
      ∙ sym (ap (λ (a : Answer). join_end a (joined L T B) out) (answer_is ∙ ap checked_of q) ∙ join_refused (refusal_of r) (refused r) (joined L T B) out)

  answer_done : s ≡ Ok tt → join_fit limits (joined L T B) out cells ≡ done
  answer_done q = answer_is ∙ ap checked_of q

  -- so the tables have room
  pub stored_fits : s ≡ Ok tt → Fits limits (joined L T B) out
  unfolding join_fit
  stored_fits q = (fits_of limits (joined L T B) out (block_then cells done) (of_done (join_fit limits (joined L T B) out cells) (answer_done q))).0

  -- all fits: the result stands at the front
  pub stored_done : s ≡ Ok tt → (now : Tables) → now ≡ cells_by done (joined L T B) out → record { answer = done; counts = record { nodes = length T.nodes.time + length B.nodes.time; edges = length T.edges.left + length B.edges.left; sites = length T.sites.position; mutations = length T.muts.site + length B.muts.site }; cells = now } ≡ after_checks L T B out cells
  unfolding after_checks join_end counts_by accepted
  stored_done q now w = sym (
      ap (λ (a : Answer). join_end a (joined L T B) out) (answer_done q)
      ∙ (λ i. record { answer = done; counts = record { nodes = nodes_count L T B k i; edges = edges_count L T B k i; sites = sites_count L T B k i; mutations = muts_count L T B k i }; cells = sym w i })
      )

-- ---- the call

module _ (L : ℕ) (T : Tables) (B : BatchTables) (c : Checked) (e : checked_of c ≡ check_then limits L T (batch_shapes B (batch_sizes limits T B (batch_rules L T B done)))) where
  hand : Hands (batch_then limits L T B)
  hand = hands (batch_then limits L T B) (checks_on L T B)

  found : checked_of c ≡ batch_then limits L T B done
  unfolding batch_then
  found = e

  -- what the checks do not refuse may be joined
  pub joinable : c ≡ Ok tt → Joinable L T B
  unfolding batch_then
  joinable q =
      let s : _ = sound_of limits L T (batch_shapes B (batch_sizes limits T B (batch_rules L T B done))) (was_sound (batch_then limits L T B) hand c found q) in
      record { sound = s.0; batch = (batch_sound_of limits L T B done s.1).0 }

  module _ (out : Tables) (cells : ℕ) where
    pub call_refused : (r : Refusal) → c ≡ Err r → (o : Tabled) → o ≡ Err r → joined_of o out ≡ joining limits L T B out cells
    call_refused r q o p = ap (λ (x : Tabled). joined_of x out) p ∙ sym (
        joining_by L T B out cells (refusal_of r) (sym (stops (batch_then limits L T B) hand c found r q (join_fit limits (joined L T B) out cells)) ∙ ap checked_of q)
        ∙ join_refused (refusal_of r) (refused r) (joined L T B) out
        )

    pub call_done : c ≡ Ok tt → (o : JoinOutcome) → o ≡ after_checks L T B out cells → o ≡ joining limits L T B out cells
    unfolding after_checks
    call_done q o f = f ∙ sym (joining_by L T B out cells (join_fit limits (joined L T B) out cells) (goes_on (batch_then limits L T B) hand c found q (join_fit limits (joined L T B) out cells)))
