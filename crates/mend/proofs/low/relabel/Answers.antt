-- `mend::low::relabel` meets its contract: what is done from the row that was come to is done from the first on.
use Rattle.mend.proofs.Labelling.{set_out, told_done, told_from, go_on}
use Rattle.mend.proofs.low.relabel.Goals as goal

pub loop-r-init : goal.loop-r-init
loop-r-init c = set_out _ c.requires

pub relabel_up-requires : goal.relabel_up-requires
relabel_up-requires c = c.loop-r.invariant.labelling

pub returns-in-Break : goal.returns-in-Break
returns-in-Break c = told_done c.loop-r.invariant c.relabel_up.result c.relabel_up.ensures c.in-Break.is

pub loop-r-smaller : goal.loop-r-smaller
loop-r-smaller c = (told_from c.loop-r.invariant c.relabel_up.result c.relabel_up.ensures c.in-Continue.is).fewer

pub loop-r-preserved : goal.loop-r-preserved
loop-r-preserved c = go_on c.loop-r.invariant c.relabel_up.result c.relabel_up.ensures c.relabel_up.auto.low c.in-Continue.is
