-- `stored::measure::uneven` meets its contract: the columns are tested table by table. Assumes nothing.
use Rattle.stored.specs.Answers.{Uneven}
use Rattle.stored.proofs.Admitting.{all_even, time_uneven, population_uneven, right_uneven, parent_uneven, child_uneven, sites_uneven, node_uneven, derived_uneven}
use Rattle.stored.proofs.measure.uneven.Goals as goal

pub returns-then-n : goal.returns-then-n
unfolding Uneven
returns-then-n c = λ T rest l. time_uneven c.args.n T l rest c.if-n.true

pub returns-then-n-2 : goal.returns-then-n-2
unfolding Uneven
returns-then-n-2 c = λ T rest l. population_uneven c.args.n T l rest c.if-n.false c.if-n-2.true

pub returns-then-n-3 : goal.returns-then-n-3
unfolding Uneven
returns-then-n-3 c = λ T rest l. right_uneven c.args.n T l rest c.if-n.false c.if-n-2.false c.if-n-3.true

pub returns-then-n-4 : goal.returns-then-n-4
unfolding Uneven
returns-then-n-4 c = λ T rest l. parent_uneven c.args.n T l rest c.if-n.false c.if-n-2.false c.if-n-3.false c.if-n-4.true

pub returns-then-n-5 : goal.returns-then-n-5
unfolding Uneven
returns-then-n-5 c = λ T rest l. child_uneven c.args.n T l rest c.if-n.false c.if-n-2.false c.if-n-3.false c.if-n-4.false c.if-n-5.true

pub returns-then-n-6 : goal.returns-then-n-6
unfolding Uneven
returns-then-n-6 c = λ T rest l. sites_uneven c.args.n T l rest c.if-n.false c.if-n-2.false c.if-n-3.false c.if-n-4.false c.if-n-5.false c.if-n-6.true

pub returns-then-n-7 : goal.returns-then-n-7
unfolding Uneven
returns-then-n-7 c = λ T rest l. node_uneven c.args.n T l rest c.if-n.false c.if-n-2.false c.if-n-3.false c.if-n-4.false c.if-n-5.false c.if-n-6.false c.if-n-7.true

pub returns-then-n-8 : goal.returns-then-n-8
unfolding Uneven
returns-then-n-8 c = λ T rest l. derived_uneven c.args.n T l rest c.if-n.false c.if-n-2.false c.if-n-3.false c.if-n-4.false c.if-n-5.false c.if-n-6.false c.if-n-7.false c.if-n-8.true

pub returns : goal.returns
unfolding Uneven
returns c = λ T l. all_even c.args.n T l c.if-n.false c.if-n-2.false c.if-n-3.false c.if-n-4.false c.if-n-5.false c.if-n-6.false c.if-n-7.false c.if-n-8.false
