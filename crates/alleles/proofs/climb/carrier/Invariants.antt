-- `climb::carrier` meets its contract: what a climb from the row that was come to tells is told of the first.
use Rattle.meaning.specs.Columns.{edges_in}
use Rattle.ancestry.specs.Column.{older}
use Rattle.alleles.proofs.Climbing.{Underway}
use Rattle.alleles.proofs.climb.carrier.Given as goal

abbrev pub invariant-loop-r : goal.invariant-loop-r
invariant-loop-r l = Underway l.time (edges_in l.index.edges) l.index.len l.index.ends.now l.has l.x l.u l.v l.least

abbrev pub decreases-loop-r : goal.decreases-loop-r
decreases-loop-r l = older l.time l.v
