-- What the call of cleaning gives and leaves, from the code's answer.
use mathlib.Core.Path.{◌≡◌, refl, sym, ap, ◌∙◌}
use mathlib.Core.Bool.{true}
use mathlib.Core.List.{List, [], ◌∷◌}
use Prim.Native.Nat.{ℕ, ◌<◌, ◌≤◌}
use native.Mathlib.Omega.{arith}
use lib.ListN.{length}
use Rattle.meaning.specs.declared.Refusal.{Refusal}
use Rattle.meaning.specs.Rows.{Tables}
use Rattle.meaning.specs.Forest.{stands}
use Rattle.meaning.specs.Answer.{Answer, done, limits, accepted, refuse, lacks, put, left_by, refusal_of}
use Rattle.meaning.specs.Lent.{fit_then, block_then}
use Rattle.meaning.specs.Check.{check_all_then}
use Rattle.meaning.specs.Clean.{Outcome, outcome_of, cleaned, node_map, clean_answer, cleaning}
use Rattle.meaning.specs.Called.{packed, block_by, CleanCall, clean_call}
use Rattle.accepted.specs.Refusals.{Accepted, of_done, passed}
use Rattle.accepted.specs.Checked.{all_sound_of}
use Rattle.accepted.specs.Rooms.{fits_of, block_long}
use Rattle.meaning.specs.Lent.{Tabled}
use Rattle.std.specs.Prelude.{Ok, Err}
use Rattle.meaning.specs.declared.Counts as written
use Rattle.ffr.proofs.Rows.{low_clean}
use Rattle.ffr.proofs.Packing.{counts_small, block_kept}
use Rattle.ffr.specs.Told.{Counted, Tellable, Told}

-- an outcome as C sees it
abbrev call_of : Outcome → List ℕ → CleanCall
call_of o block = record { code = packed o.answer; cells = o.cells; map = o.map; block = block_by o.answer o.counts block }

module _ (L : ℕ) (T : Tables) (S : List ℕ) (out : Tables) (out_map block : List ℕ) (x : Tabled) (cells : Tables) (nodemap : List ℕ) (e : outcome_of x cells nodemap ≡ cleaning stands limits L T S out out_map (length block)) where
  told : {y : Tabled} → x ≡ y → outcome_of y cells nodemap ≡ cleaning stands limits L T S out out_map (length block)
  told q = ap (λ (z : Tabled). outcome_of z cells nodemap) (sym q) ∙ e

  called : {y : Tabled} → x ≡ y → call_of (outcome_of y cells nodemap) block ≡ clean_call stands limits L T S out out_map block
  unfolding clean_call
  called q = ap (λ (o : Outcome). call_of o block) (told q)

  -- a refusal's row is a number of four bytes
  row_small : {r : Refusal} → x ≡ Err r → (refusal_of r).row < 4294967296
  unfolding cleaning
  row_small q = omega (arith, ap (λ (o : Outcome). o.answer.row) (told q), low_clean stands L T S out out_map (length block))

  call_refused : {r : Refusal} {v : ℕ} → x ≡ Err r → v ≡ packed (refusal_of r) → ◌≡◌ {A = CleanCall} (record { code = v; cells = cells; map = nodemap; block = block }) (clean_call stands limits L T S out out_map block)
  call_refused {r} q p = (λ i. record { code = p i; cells = cells; map = nodemap; block = block_kept r (record { nodes = 0; edges = 0; sites = 0; mutations = 0 }) block i }) ∙ called q

  -- what comes after tables 1 to 4, and what after the check
  abbrev map_then : Answer
  map_then = refuse (lacks limits.nodes (out_map ∷ []) (length (node_map stands L T S))) 13 6 (block_then (length block) done)

  abbrev fit_next : Answer
  fit_next = fit_then limits (cleaned stands L T S) out map_then

  -- after 0 the counts are numbers of four bytes, and the block has cells for them
  counted : {w : written.Counts} → x ≡ Ok w → Counted (record { nodes = w.nodes; edges = w.edges; sites = w.sites; mutations = w.mutations }) (length block)
  unfolding cleaning clean_answer
  counted q =
      let h : Accepted (check_all_then limits L T S fit_next) = of_done (check_all_then limits L T S fit_next) (sym (ap (λ (o : Outcome). o.answer) (told q))) in
      let p : _ = all_sound_of limits L T S fit_next h in
      let f : _ = fits_of limits (cleaned stands L T S) out map_then p.2 in
      let b : _ = passed (lacks limits.nodes (out_map ∷ []) (length (node_map stands L T S))) 13 6 (block_then (length block) done) (omega arith) f.1 in
      counts_small (check_all_then limits L T S fit_next) (cleaned stands L T S) out (length block) _ (ap (λ (o : Outcome). o.counts) (told q)) h f.0 (block_long (length block) b.1)

  call_done : {w : written.Counts} {block' : List ℕ} → x ≡ Ok w → block' ≡ put (w.nodes ∷ w.edges ∷ w.sites ∷ w.mutations ∷ []) block → ◌≡◌ {A = CleanCall} (record { code = 0; cells = cells; map = nodemap; block = block' }) (clean_call stands limits L T S out out_map block)
  unfolding packed block_by left_by accepted
  call_done q p = (λ i. record { code = 0; cells = cells; map = nodemap; block = p i }) ∙ called q

  -- the answer fits the number and the block
  pub tellable : (y : Tabled) → x ≡ y → Tellable y (length block)
  tellable (Err r) q = row_small q
  tellable (Ok w) q = counted q

  -- what C is told is what the call gives and leaves
  pub call_told : (y : Tabled) → x ≡ y → (v : ℕ) (block' : List ℕ) → Told y block v block' → ◌≡◌ {A = CleanCall} (record { code = v; cells = cells; map = nodemap; block = block' }) (clean_call stands limits L T S out out_map block)
  call_told (Err r) q v block' t = (λ i. record { code = v; cells = cells; map = nodemap; block = t.1 i }) ∙ call_refused q t.0
  call_told (Ok w) q v block' t = (λ i. record { code = t.0 i; cells = cells; map = nodemap; block = block' }) ∙ call_done q t.1
