-- `mend::low::relabel_up` meets its contract: the rows of one call leave fewer older rows.
use Rattle.mend.proofs.Labelling.{led_on}
use Rattle.mend.proofs.low.+relabel_up.Goals as goal

pub returns : goal.returns
returns t c = led_on _ c.in_ok-o.ensures c.relabel_up.result c.relabel_up.ensures
