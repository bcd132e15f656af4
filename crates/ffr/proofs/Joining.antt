-- What the call of joining gives and leaves, from the code's answer.
use mathlib.Core.Path.{◌≡◌, refl, sym, ap, ◌∙◌}
use mathlib.Core.Bool.{true}
use mathlib.Core.List.{List, [], ◌∷◌}
use Prim.Native.Nat.{ℕ, ◌<◌, ◌≤◌}
use native.Mathlib.Omega.{arith}
use lib.ListN.{length}
use Rattle.meaning.specs.declared.Refusal.{Refusal}
use Rattle.meaning.specs.Rows.{Tables}
use Rattle.meaning.specs.Answer.{Answer, done, limits, accepted, put, left_by, refusal_of}
use Rattle.meaning.specs.Lent.{fit_then, block_then}
use Rattle.meaning.specs.Check.{check_then}
use Rattle.meaning.specs.Join.{BatchTables, JoinOutcome, joined_of, joined, batch_shapes, batch_sizes, batch_rules, join_answer, joining}
use Rattle.meaning.specs.Called.{packed, block_by, JoinCall, join_call}
use Rattle.accepted.specs.Refusals.{Accepted, of_done}
use Rattle.accepted.specs.Checked.{sound_of}
use Rattle.accepted.specs.Batches.{batch_sound_of}
use Rattle.accepted.specs.Rooms.{fits_of, block_long}
use Rattle.meaning.specs.Lent.{Tabled}
use Rattle.std.specs.Prelude.{Ok, Err}
use Rattle.meaning.specs.declared.Counts as written
use Rattle.ffr.proofs.BatchRows.{low_join}
use Rattle.ffr.proofs.Packing.{counts_small, block_kept}
use Rattle.ffr.specs.Told.{Counted, Tellable, Told}

-- an outcome as C sees it
abbrev call_of : JoinOutcome → List ℕ → JoinCall
call_of o block = record { code = packed o.answer; cells = o.cells; block = block_by o.answer o.counts block }

module _ (L : ℕ) (T : Tables) (B : BatchTables) (out : Tables) (block : List ℕ) (x : Tabled) (cells : Tables) (e : joined_of x cells ≡ joining limits L T B out (length block)) where
  told : {y : Tabled} → x ≡ y → joined_of y cells ≡ joining limits L T B out (length block)
  told q = ap (λ (z : Tabled). joined_of z cells) (sym q) ∙ e

  called : {y : Tabled} → x ≡ y → call_of (joined_of y cells) block ≡ join_call limits L T B out block
  unfolding join_call
  called q = ap (λ (o : JoinOutcome). call_of o block) (told q)

  -- a refusal's row is a number of four bytes
  row_small : {r : Refusal} → x ≡ Err r → (refusal_of r).row < 4294967296
  unfolding joining
  row_small q = omega (arith, ap (λ (o : JoinOutcome). o.answer.row) (told q), low_join L T B out (length block))

  call_refused : {r : Refusal} {v : ℕ} → x ≡ Err r → v ≡ packed (refusal_of r) → ◌≡◌ {A = JoinCall} (record { code = v; cells = cells; block = block }) (join_call limits L T B out block)
  call_refused {r} q p = (λ i. record { code = p i; cells = cells; block = block_kept r (record { nodes = 0; edges = 0; sites = 0; mutations = 0 }) block i }) ∙ called q

  -- what comes after the check, after the batch's, and after the batch's rules
  abbrev fit_next : Answer
  fit_next = fit_then limits (joined L T B) out (block_then (length block) done)

  abbrev batch_then : Answer
  batch_then = batch_shapes B (batch_sizes limits T B (batch_rules L T B fit_next))

  -- after 0 the counts are numbers of four bytes, and the block has cells for them
  counted : {w : written.Counts} → x ≡ Ok w → Counted (record { nodes = w.nodes; edges = w.edges; sites = w.sites; mutations = w.mutations }) (length block)
  unfolding joining join_answer
  counted q =
      let h : Accepted (check_then limits L T batch_then) = of_done (check_then limits L T batch_then) (sym (ap (λ (o : JoinOutcome). o.answer) (told q))) in
      let p : _ = sound_of limits L T batch_then h in
      let b : _ = batch_sound_of limits L T B fit_next p.1 in
      let f : _ = fits_of limits (joined L T B) out (block_then (length block) done) b.1 in
      counts_small (check_then limits L T batch_then) (joined L T B) out (length block) _ (ap (λ (o : JoinOutcome). o.counts) (told q)) h f.0 (block_long (length block) f.1)

  call_done : {w : written.Counts} {block' : List ℕ} → x ≡ Ok w → block' ≡ put (w.nodes ∷ w.edges ∷ w.sites ∷ w.mutations ∷ []) block → ◌≡◌ {A = JoinCall} (record { code = 0; cells = cells; block = block' }) (join_call limits L T B out block)
  unfolding packed block_by left_by accepted
  call_done q p = (λ i. record { code = 0; cells = cells; block = p i }) ∙ called q

  -- the answer fits the number and the block
  pub tellable : (y : Tabled) → x ≡ y → Tellable y (length block)
  tellable (Err r) q = row_small q
  tellable (Ok w) q = counted q

  -- what C is told is what the call gives and leaves
  pub call_told : (y : Tabled) → x ≡ y → (v : ℕ) (block' : List ℕ) → Told y block v block' → ◌≡◌ {A = JoinCall} (record { code = v; cells = cells; block = block' }) (join_call limits L T B out block)
  call_told (Err r) q v block' t = (λ i. record { code = v; cells = cells; block = t.1 i }) ∙ call_refused q t.0
  call_told (Ok w) q v block' t = (λ i. record { code = t.0 i; cells = cells; block = block' }) ∙ call_done q t.1
