-- What the call of a panel gives and leaves, from the code's answer.
use mathlib.Core.Path.{◌≡◌, refl, sym, ap, ◌∙◌}
use mathlib.Core.Bool.{Bool, true, false, not}
use mathlib.Core.List.{List, [], ◌∷◌, ◌++◌, map}
use Prim.Native.Nat.{ℕ, ◌<◌}
use native.Mathlib.Omega.{arith}
use lib.Dec.{leb, ltb}
use lib.ListN.{length}
use Rattle.meaning.specs.Words.{each, mem}
use Rattle.meaning.specs.Rows.{Tables, record_of}
use Rattle.meaning.specs.Answer.{Answer, Stated, limits, done, refuse, accepted, room, refusal_of}
use Rattle.meaning.specs.Allele.{allele, allele_answer, allele_at, missing_at, stated}
use Rattle.meaning.specs.Called.{packed}
use Rattle.meaning.specs.Panel.{PanelOutcome, PanelCall, panel_of, singles, first_refused, panel_answer, panel_end, panel, panel_call}
use Rattle.meaning.specs.declared.Refusal.{Refusal}
use Rattle.meaning.specs.Panel.{Panel}
use Rattle.std.specs.Prelude.{Ok, Err}
use Rattle.ffr.proofs.Rows.{Low, low_if, low_check}

-- ---- every row that the answer names is a number of four bytes

-- the first refusal of answers whose rows are small
low_first : (s : Stated) (l : List Stated) (rest : Answer) → Low s.answer → Low (first_refused l rest) → Low (first_refused (s ∷ l) rest)
unfolding first_refused
low_first s l rest h k = go (accepted s.answer)
  where
    go : (t : Bool) → Low (elim t [ true ↦ first_refused l rest | false ↦ s.answer ])
    go true = k
    go false = h

-- what is stated keeps the answer
answer_kept : (a : Answer) (m : Bool) (s : ℕ) → (stated a m s).answer ≡ a
unfolding stated
answer_kept a m s = go (accepted a) refl
  where
    go : (t : Bool) → accepted a ≡ t → (stated a m s).answer ≡ a
    go true e = rw (e, stated)
    go false e = rw (e, stated)

module _ (L : ℕ) (T : Tables) where
  -- what comes after the check of a single call
  abbrev birth_then : ℕ → Answer
  birth_then b = refuse (not (mem b T.nodes.birth)) 42 0 done

  abbrev site_then : ℕ → ℕ → Answer
  site_then i b = refuse (leb (length T.sites.position) i) 41 0 (birth_then b)

  low_rest : (i b : ℕ) → Low (site_then i b)
  low_rest i b = low_if (leb (length T.sites.position) i) 41 0 (birth_then b) (omega arith) (λ _. low_if (not (mem b T.nodes.birth)) 42 0 done (omega arith) (λ _. omega arith))

  low_named : (i b : ℕ) → Low (allele_answer limits L T i b)
  unfolding allele_answer
  low_named i b = low_check L T (site_then i b) (λ _. low_rest i b)

  low_single : (i b : ℕ) → Low (allele limits L T i b).answer
  unfolding allele
  low_single i b = let q : (allele limits L T i b).answer ≡ allele_answer limits L T i b = answer_kept (allele_answer limits L T i b) (missing_at (record_of L T) i b) (allele_at (record_of L T) i b) in omega (arith, ap (λ (a : Answer). a.row) q, low_named i b)

  low_row-is : (b : ℕ) (sites : List ℕ) (more : List Stated) (rest : Answer) → Low (first_refused more rest) → Low (first_refused (map (λ i. allele limits L T i b) sites ++ more) rest)
  low_row-is b [] more rest h = h
  low_row-is b (i ∷ l) more rest h = low_first (allele limits L T i b) (map (λ i. allele limits L T i b) l ++ more) rest (low_single i b) (low_row-is b l more rest h)

  low_singles : (sites fish : List ℕ) (rest : Answer) → Low rest → Low (first_refused (singles limits L T sites fish) rest)
  unfolding singles each first_refused
  low_singles sites [] rest h = h
  low_singles sites (b ∷ l) rest h = low_row-is b sites (singles limits L T sites l) rest (low_singles sites l rest h)

  module _ (sites fish states flags : List ℕ) where
    -- what comes after the check, and after the single calls
    abbrev room_then : Answer
    room_then = refuse (ltb (room (states ∷ flags ∷ [])) (length (singles limits L T sites fish))) 13 7 done

    low_room : Low room_then
    low_room = low_if (ltb (room (states ∷ flags ∷ [])) (length (singles limits L T sites fish))) 13 7 done (omega arith) (λ _. omega arith)

    low_panel : Low (panel_answer limits L T sites fish states flags)
    unfolding panel_answer
    low_panel = low_check L T (first_refused (singles limits L T sites fish) room_then) (λ _. low_singles sites fish room_then low_room)

-- ---- the call

-- an outcome as C sees it
abbrev call_of : PanelOutcome → PanelCall
call_of o = record { code = packed o.answer; states = o.states; flags = o.flags }

module _ (L : ℕ) (T : Tables) (sites fish states flags : List ℕ) (x : Panel) (states' flags' : List ℕ) (e : panel_of x states' flags' ≡ panel limits L T sites fish states flags) where
  told : {y : Panel} → x ≡ y → panel_of y states' flags' ≡ panel limits L T sites fish states flags
  told q = ap (λ (z : Panel). panel_of z states' flags') (sym q) ∙ e

  called : {y : Panel} → x ≡ y → call_of (panel_of y states' flags') ≡ panel_call limits L T sites fish states flags
  unfolding panel_call
  called q = ap call_of (told q)

  -- a refusal's row is a number of four bytes
  pub row_small : {r : Refusal} → x ≡ Err r → (refusal_of r).row < 4294967296
  unfolding panel panel_end
  row_small q = omega (arith, ap (λ (o : PanelOutcome). o.answer.row) (told q), low_panel L T sites fish states flags)

  pub call_refused : {r : Refusal} {v : ℕ} → x ≡ Err r → v ≡ packed (refusal_of r) → ◌≡◌ {A = PanelCall} (record { code = v; states = states'; flags = flags' }) (panel_call limits L T sites fish states flags)
  call_refused {r} q p = (λ i. record { code = p i; states = states'; flags = flags' }) ∙ called q

  pub call_done : {n : ℕ} → x ≡ Ok n → ◌≡◌ {A = PanelCall} (record { code = 0; states = states'; flags = flags' }) (panel_call limits L T sites fish states flags)
  unfolding packed
  call_done q = called q
