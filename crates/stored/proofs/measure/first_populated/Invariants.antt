-- `stored::measure::first_populated` meets its contract: no row passed has a population. Assumes nothing.
use lib.ListN.{length}
use Rattle.laws.specs.Counting.{Sought}
use Rattle.meaning.specs.Files.{populated}
use Rattle.stored.proofs.measure.first_populated.Given as goal

abbrev pub invariant-loop-i : goal.invariant-loop-i
invariant-loop-i l = Sought (populated l.population) (length l.population) l.i
