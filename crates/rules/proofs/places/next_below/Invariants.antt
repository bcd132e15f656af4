-- `next_below` meets its contract: the places passed have rows that are not below k.
use Prim.Native.Nat.{ℕ, ◌≤◌, ◌<◌}
use Rattle.meaning.specs.Words.{at}
use Rattle.rules.proofs.places.next_below.Given as goal

abbrev pub invariant-loop-p : goal.invariant-loop-p
invariant-loop-p l = (x : ℕ) → l.i ≤ x → x < l.p → l.k ≤ at l.idx x
