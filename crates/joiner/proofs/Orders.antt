-- The orders of births that the checks of base and batch leave, and the room for them in the lent columns.
use mathlib.Core.Path.{◌≡◌, ap, ◌∙◌}
use mathlib.Core.List.{List}
use Prim.Native.Nat.{ℕ, ◌≤◌}
use native.Mathlib.Omega.{arith}
use lib.ListN.{length}
use Rattle.meaning.specs.Rows.{Tables}
use Rattle.meaning.specs.Answer.{limits, accepted, checked_of}
use Rattle.meaning.specs.Join.{BatchTables}
use Rattle.meaning.specs.declared.Refusal.{Refusal}
use Rattle.meaning.specs.Answer.{Checked}
use Rattle.std.specs.Prelude.{Err}
use Rattle.laws.specs.Bools.{clash}
use Rattle.order.specs.Ranks.{Ranked}
use Rattle.checker.specs.Found.{TablesSound}
use Rattle.checker.proofs.After.{refused}
use Rattle.joiner.specs.Joinable.{Joinable}
use Rattle.joiner.specs.Orders.{BirthsOrdered}

-- a refusal leaves no order
pub refusal_unordered : (birth by_birth : List ℕ) (c : Checked) (r : Refusal) → c ≡ Err r → BirthsOrdered c birth by_birth
unfolding accepted
refusal_unordered birth by_birth c r e = record { births = λ q. absurd (clash (ap (λ x. accepted (checked_of x)) q) (ap (λ x. accepted (checked_of x)) e ∙ refused r)) }

-- an order is there whatever a later group answers
pub ranked_ordered : (birth by_birth : List ℕ) (c : Checked) → Ranked birth by_birth → BirthsOrdered c birth by_birth
ranked_ordered birth by_birth c r = record { births = λ q. r }

-- ---- as many births as a column has cells

pub sound_few : (L : ℕ) (T : Tables) → TablesSound limits L T → length T.nodes.birth ≤ 1024
sound_few L T s = omega (arith, s.sized.nodes, s.shaped.birth_long)

module _ (L : ℕ) (T : Tables) (B : BatchTables) (k : Joinable L T B) where
  pub base_few : length T.nodes.birth ≤ 1024
  base_few = omega (arith, k.sound.shape.births, k.batch.size.nodes)

  pub batch_few : length B.nodes.birth ≤ 1024
  batch_few = omega (arith, k.batch.shape.births, k.batch.size.nodes)

-- a column that a call leaves has room as before
pub still_room : (n : ℕ) (old new : List ℕ) → n ≤ 1024 → length old ≡ 1024 → length new ≡ length old → n ≤ length new
still_room n old new h k e = omega arith
