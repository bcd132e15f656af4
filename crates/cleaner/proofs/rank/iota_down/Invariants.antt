-- `iota_down` meets its contract. Invariant: each cell passed holds its row from the end. Measure: the cells left.
use mathlib.Core.Path.{◌≡◌}
use Prim.Native.Nat.{ℕ, ◌+◌, ◌≤◌, ◌<◌, ◌-◌}
use lib.ListN.{length}
use Rattle.meaning.specs.Words.{at}
use Rattle.cleaner.proofs.rank.iota_down.Given as goal

abbrev pub invariant-loop-i : goal.invariant-loop-i
invariant-loop-i l = (l.i ≤ l.n) × (length l.idx ≡ l.n) × (length l.initial.idx ≡ l.n) × ((k : ℕ) → k < l.i → at l.idx k ≡ l.n - (k + 1))
