-- `stored::measure::lacking` meets its contract: the tables are tested by their numbers. Assumes nothing.
use Rattle.stored.specs.Answers.{Lacking, at_nodes, at_edges, at_sites, at_muts, at_samples}
use Rattle.stored.proofs.measure.lacking.Goals as goal

pub returns-then-lent-need : goal.returns-then-lent-need
unfolding Lacking
returns-then-lent-need c = at_nodes c.if-lent-need.true

pub returns-then-lent-need-2 : goal.returns-then-lent-need-2
unfolding Lacking
returns-then-lent-need-2 c = at_edges c.if-lent-need.false c.if-lent-need-2.true

pub returns-then-lent-need-3 : goal.returns-then-lent-need-3
unfolding Lacking
returns-then-lent-need-3 c = at_sites c.if-lent-need.false c.if-lent-need-2.false c.if-lent-need-3.true

pub returns-then-lent-need-4 : goal.returns-then-lent-need-4
unfolding Lacking
returns-then-lent-need-4 c = at_muts c.if-lent-need.false c.if-lent-need-2.false c.if-lent-need-3.false c.if-lent-need-4.true

pub returns-then-lent-need-5 : goal.returns-then-lent-need-5
unfolding Lacking
returns-then-lent-need-5 c = at_samples c.if-lent-need.false c.if-lent-need-2.false c.if-lent-need-3.false c.if-lent-need-4.false c.if-lent-need-5.true

pub returns : goal.returns
unfolding Lacking
returns c = record { nodes = c.if-lent-need.false; edges = c.if-lent-need-2.false; sites = c.if-lent-need-3.false; muts = c.if-lent-need-4.false; samples = c.if-lent-need-5.false }
