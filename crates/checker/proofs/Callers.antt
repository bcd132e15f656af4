-- What a caller of `check_tables` or `check` leans on: after a refusal it answers the same, and after 0 it goes on, with no row broken.
use mathlib.Core.Path.{◌≡◌}
use mathlib.Core.List.{List}
use Prim.Native.Nat.{ℕ, ◌≤◌}
use lib.ListN.{length}
use Rattle.meaning.specs.Rows.{Tables}
use Rattle.meaning.specs.Answer.{Answer, Limits, done, checked_of}
use Rattle.meaning.specs.Check.{check_then, check_all_then, check}
use Rattle.meaning.specs.declared.Refusal.{Refusal}
use Rattle.meaning.specs.Answer.{Checked}
use Rattle.std.specs.Prelude.{Ok, Err}
use Rattle.checker.specs.Found.{TablesSound, SamplesSound}
use Rattle.checker.proofs.After.{Hands, hands, stops, goes_on, was_sound, tables_after, all_after}
use Rattle.checker.proofs.Sound.{tables_sound, all_sound}

-- 1 to 10, as `check_tables` ensures
module _ (m : Limits) (L : ℕ) (T : Tables) (r : Checked) (e : checked_of r ≡ check_then m L T done) where
  tables_hand : Hands (check_then m L T)
  tables_hand = hands (check_then m L T) (tables_after m L T)

  pub tables_refused : (q : Refusal) → r ≡ Err q → (rest : Answer) → checked_of r ≡ check_then m L T rest
  tables_refused = stops (check_then m L T) tables_hand r e

  pub tables_go_on : r ≡ Ok tt → (rest : Answer) → check_then m L T rest ≡ rest
  tables_go_on = goes_on (check_then m L T) tables_hand r e

  pub tables_found : r ≡ Ok tt → TablesSound m L T
  tables_found q = (tables_sound m L T done (was_sound (check_then m L T) tables_hand r e q)).0

-- 1 to 12, as `check` ensures
module _ (m : Limits) (L : ℕ) (T : Tables) (S : List ℕ) (r : Checked) (e : checked_of r ≡ check m L T S) where
  all_hand : Hands (check_all_then m L T S)
  all_hand = hands (check_all_then m L T S) (all_after m L T S)

  by_all : checked_of r ≡ check_all_then m L T S done
  unfolding check
  by_all = e

  pub all_refused : (q : Refusal) → r ≡ Err q → (rest : Answer) → checked_of r ≡ check_all_then m L T S rest
  all_refused = stops (check_all_then m L T S) all_hand r by_all

  pub all_go_on : r ≡ Ok tt → (rest : Answer) → check_all_then m L T S rest ≡ rest
  all_go_on = goes_on (check_all_then m L T S) all_hand r by_all

  pub all_found : r ≡ Ok tt → TablesSound m L T × (length S ≤ m.samples) × SamplesSound T.nodes.birth S
  all_found q = let f : _ = all_sound m L T S done (was_sound (check_all_then m L T S) all_hand r by_all q) in (f.0, f.1, f.2)
