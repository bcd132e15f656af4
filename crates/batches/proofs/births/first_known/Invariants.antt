-- `first_known` meets its contract: no row passed has a number of the base.
use Rattle.meaning.specs.Words.{at, mem}
use lib.ListN.{length}
use Rattle.laws.specs.Counting.{Sought}
use Rattle.batches.proofs.births.first_known.Given as goal

abbrev pub invariant-loop-i : goal.invariant-loop-i
invariant-loop-i l = Sought (λ k. mem (at l.l k) l.base) (length l.l) l.i
