-- `stored::measure::first_wide` meets its contract: no row passed is too wide. Assumes nothing.
use lib.ListN.{length}
use Rattle.laws.specs.Counting.{Sought}
use Rattle.meaning.specs.Files.{too_wide}
use Rattle.stored.proofs.measure.first_wide.Given as goal

abbrev pub invariant-loop-i : goal.invariant-loop-i
invariant-loop-i l = Sought (too_wide 2 l.a l.b) (length l.a) l.i
