-- `stored::measure::first_populated` meets its contract: no row passed has a population. Assumes nothing.
use lib.ListN.{length}
use Rattle.laws.specs.Counting.{sought_start, sought_miss, lowest_hit, lowest_missed}
use Rattle.meaning.specs.Files.{populated}
use Rattle.stored.proofs.Admitting.{populated_yes, populated_no}
use native.Mathlib.Omega.{arith}
use Rattle.stored.proofs.measure.first_populated.Goals as goal

pub loop-i-init : goal.loop-i-init
loop-i-init c = sought_start (populated c.args.population.now) (length c.args.population.now)

pub returns-then-population-i-ne0 : goal.returns-then-population-i-ne0
returns-then-population-i-ne0 c = lowest_hit (populated c.args.population.now) (length c.args.population.now) c.loop-i.i c.loop-i-test.true c.loop-i.invariant (populated_yes c.args.population.now c.loop-i.i (omega arith))

pub loop-i-preserved : goal.loop-i-preserved
loop-i-preserved c = sought_miss (populated c.args.population.now) (length c.args.population.now) c.loop-i.i c.loop-i-test.true c.loop-i.invariant (populated_no c.args.population.now c.loop-i.i (omega arith))

pub returns : goal.returns
returns c = lowest_missed (populated c.args.population.now) (length c.args.population.now) c.loop-i.i c.loop-i.auto.i-end c.loop-i-test.false c.loop-i.invariant
