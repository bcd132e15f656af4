-- The call: the check's refusal, or what comes after it.
use mathlib.Core.Path.{◌≡◌, sym, ap, ◌∙◌}
use mathlib.Core.List.{List}
use Prim.Native.Nat.{ℕ, ◌<◌, ◌≤◌}
use native.Mathlib.Omega.{arith}
use lib.ListN.{length}
use Rattle.meaning.specs.declared.Refusal.{Refusal}
use Rattle.meaning.specs.Answer.{Checked}
use Rattle.std.specs.Prelude.{Ok, Err}
use Rattle.meaning.specs.Words.{at}
use Rattle.meaning.specs.Rows.{Tables}
use Rattle.meaning.specs.Forest.{Ages, stands}
use Rattle.meaning.specs.Answer.{Answer, done, limits, refusal_of, checked_of}
use Rattle.meaning.specs.Check.{check_all_then, check}
use Rattle.meaning.specs.Lent.{no_rows_written}
use Rattle.meaning.specs.Clean.{Outcome, clean_fit, cleaned, node_map, cleaning}
use Rattle.accepted.specs.Calls.{check_tells}
use Rattle.accepted.specs.Checked.{Shaped}
use Rattle.accepted.specs.Endings.{clean_refused}
use Rattle.byrows.specs.Ground.{Ground}
use Rattle.checker.proofs.After.{Hands, hands, all_after, refused, stops, goes_on, was_sound}
use Rattle.cleaner.specs.Outcome.{after_check, cleaning_by}

module _ (L : ℕ) (T : Tables) (S : List ℕ) (c : Checked) (e : checked_of c ≡ check limits L T S) where
  hand : Hands (check_all_then limits L T S)
  hand = hands (check_all_then limits L T S) (all_after limits L T S)

  found : checked_of c ≡ check_all_then limits L T S done
  unfolding check
  found = e

  -- tables that the check does not refuse are ground to clean on
  pub grounded : c ≡ Ok tt → ((i : ℕ) → i < length T.nodes.time → at T.nodes.time i < Ages) → Ground limits L T S
  unfolding check
  grounded q y = let k : _ = check_tells limits L T S (was_sound (check_all_then limits L T S) hand c found q) in record { sound = k.sound; listed = k.listed; young = y }

  -- and each table's columns are equally long
  pub shaped : c ≡ Ok tt → Shaped T
  unfolding check
  shaped q = (check_tells limits L T S (was_sound (check_all_then limits L T S) hand c found q)).sound.shape

  -- a column as long as the nodes may be has room for their order
  pub births_room : c ≡ Ok tt → (by : List ℕ) (n : ℕ) → n ≡ 1024 → length by ≡ n → length T.nodes.birth ≤ length by
  unfolding check
  births_room q by n m l = let k : _ = check_tells limits L T S (was_sound (check_all_then limits L T S) hand c found q) in omega (arith, k.sound.size.nodes, k.sound.shape.births)

  module _ (out : Tables) (out_map : List ℕ) (cells : ℕ) where
    abbrev rest : Answer
    rest = clean_fit limits (cleaned stands L T S) (node_map stands L T S) out out_map cells

    pub call_refused : (r : Refusal) → c ≡ Err r → ◌≡◌ {A = Outcome} (record { answer = refusal_of r; counts = no_rows_written; cells = out; map = out_map }) (cleaning stands limits L T S out out_map cells)
    call_refused r q = sym (
        cleaning_by L T S out out_map cells (refusal_of r) (sym (stops (check_all_then limits L T S) hand c found r q rest) ∙ ap checked_of q)
        ∙ clean_refused (refusal_of r) (refused r) (cleaned stands L T S) (node_map stands L T S) out out_map
        )

    pub call_done : c ≡ Ok tt → (o : Outcome) → o ≡ after_check L T S out out_map cells → o ≡ cleaning stands limits L T S out out_map cells
    unfolding after_check
    call_done q o f = f ∙ sym (cleaning_by L T S out out_map cells rest (goes_on (check_all_then limits L T S) hand c found q rest))
