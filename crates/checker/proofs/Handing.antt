-- The edges by child and the nodes by birth, as rules 7 and 4 leave them, handed on from group to group.
use mathlib.Core.Path.{◌≡◌, ap, ◌∙◌}
use mathlib.Core.List.{List, ◌++◌}
use Prim.Native.Nat.{ℕ, ◌≤◌}
use native.Mathlib.Omega.{arith}
use lib.ListN.{length, take}
use lib.Seq.{take_at, length-take-le}
use Rattle.meaning.specs.Rows.{EdgeColumns}
use Rattle.meaning.specs.Answer.{accepted, checked_of}
use Rattle.meaning.specs.declared.Refusal.{Refusal}
use Rattle.meaning.specs.Answer.{Checked}
use Rattle.std.specs.Prelude.{Ok, Err}
use Rattle.laws.specs.Bools.{clash}
use Rattle.order.specs.Ranks.{Ranked}
use Rattle.rules.specs.ByChild.{ByChild}
use Rattle.checker.specs.Found.{Ordered}
use Rattle.checker.proofs.After.{refused}

module _ (birth : List ℕ) (E : EdgeColumns) (by_child by_birth : List ℕ) where
  -- a refusal hands on nothing
  pub refusal_hands : (c : Checked) (r : Refusal) → c ≡ Err r → Ordered c birth E by_child by_birth
  unfolding accepted
  refusal_hands c r e = record { order = λ q. absurd (sound_not q); births = λ q. absurd (sound_not q) }
    where
      sound_not : c ≡ Ok tt → ⊥
      sound_not q = clash (ap (λ x. accepted (checked_of x)) q) (ap (λ x. accepted (checked_of x)) e ∙ refused r)

  -- the orders are there whatever a later group answers
  pub order_hands : (c : Checked) → ByChild E by_child → Ranked birth by_birth → Ordered c birth E by_child by_birth
  order_hands c b r = record { order = λ q. b; births = λ q. r }

-- ---- a longer column, whose front is lent

module _ (most n : ℕ) (by : List ℕ) (h : n ≤ most) (q : length by ≡ most) where
  pub front_fits : n ≤ length by
  front_fits = omega arith

  pub front_long : length (take n by) ≡ n
  front_long = length-take-le n by front_fits

-- the order is that of the front
pub front_order : (E : EdgeColumns) (by rest : List ℕ) → ByChild E by → ByChild E (take (length E.left) (by ++ rest))
front_order E by rest b = rw (take_at by rest (length E.left) b.long) b

pub front_ranked : (birth by rest : List ℕ) → Ranked birth by → Ranked birth (take (length birth) (by ++ rest))
front_ranked birth by rest r = rw (take_at by rest (length birth) r.long) r
