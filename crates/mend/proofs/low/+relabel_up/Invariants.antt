-- `mend::low::relabel_up` meets its contract: the rows of one call leave fewer older rows.
use Rattle.ancestry.specs.Column.{older}
use Rattle.mend.proofs.low.+relabel_up.Given as goal

abbrev pub decreases-relabel_up : goal.decreases-relabel_up
decreases-relabel_up l = older l.time.now l.q
