-- `base_checked` meets its contract: the column of the edges by child stands on the stack.
use Rattle.joiner.proofs.checks.base_checked.Goals as goal

pub returns : goal.returns
returns c = (c.check_lent.ensures.0, record { births = λ q. c.check_lent.ensures.1.births q })
