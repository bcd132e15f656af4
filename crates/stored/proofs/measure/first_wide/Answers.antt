-- `stored::measure::first_wide` meets its contract: no row passed is too wide. Assumes nothing.
use lib.ListN.{length}
use Rattle.laws.specs.Counting.{sought_start, sought_miss, lowest_hit, lowest_missed}
use Rattle.meaning.specs.Files.{too_wide}
use Rattle.stored.proofs.Admitting.{wide_left, wide_right, wide_neither}
use Rattle.stored.proofs.measure.first_wide.Goals.{then-a-i-gt65535-via-then-a-i-gt65535, then-a-i-gt65535-via-else-a-i-gt65535+then-b-i-gt65535}
use Rattle.stored.proofs.measure.first_wide.Goals as goal

pub loop-i-init : goal.loop-i-init
loop-i-init c = sought_start (too_wide 2 c.args.a.now c.args.b.now) (length c.args.a.now)

pub returns-then-a-i-gt65535 : goal.returns-then-a-i-gt65535
returns-then-a-i-gt65535 c = lowest_hit (too_wide 2 c.args.a.now c.args.b.now) (length c.args.a.now) c.loop-i.i c.loop-i-test.true c.loop-i.invariant (elim c.then-a-i-gt65535.branch [
  | then-a-i-gt65535-via-then-a-i-gt65535 w ↦ wide_left c.args.a.now c.args.b.now c.loop-i.i w.if-a-i-gt65535.true
  | then-a-i-gt65535-via-else-a-i-gt65535+then-b-i-gt65535 w ↦ wide_right c.args.a.now c.args.b.now c.loop-i.i w.if-b-i-gt65535.true
])

pub loop-i-preserved : goal.loop-i-preserved
loop-i-preserved c = sought_miss (too_wide 2 c.args.a.now c.args.b.now) (length c.args.a.now) c.loop-i.i c.loop-i-test.true c.loop-i.invariant (wide_neither c.args.a.now c.args.b.now c.loop-i.i c.if-a-i-gt65535.false c.if-b-i-gt65535.false)

pub returns : goal.returns
returns c = lowest_missed (too_wide 2 c.args.a.now c.args.b.now) (length c.args.a.now) c.loop-i.i c.loop-i.auto.i-end c.loop-i-test.false c.loop-i.invariant
