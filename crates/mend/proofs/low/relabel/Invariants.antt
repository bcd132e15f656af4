-- `mend::low::relabel` meets its contract: what is done from the row that was come to is done from the first on.
use Rattle.ancestry.specs.Column.{older}
use Rattle.mend.proofs.Labelling.{Underway}
use Rattle.mend.proofs.low.relabel.Given as goal

abbrev pub invariant-loop-r : goal.invariant-loop-r
invariant-loop-r l = Underway l.time l.sample l.parent l.count l.initial.low l.low l.w l.q l.v

abbrev pub decreases-loop-r : goal.decreases-loop-r
decreases-loop-r l = older l.time l.v
