-- `alleles` meets its contract: the same with working columns of its own.
use Rattle.panel.proofs.alleles.Goals as goal

pub returns : goal.returns
returns c = c.panel_lent.ensures
