-- `by_child` meets its contract: edges in order, of which none shares a position with an earlier one.
use Rattle.rules.proofs.Sorting.{edges_by_child}
use Rattle.rules.proofs.shared.by_child.Goals as goal

pub returns : goal.returns
returns c = edges_by_child _ _ c.requires.0 c.line_up.ensures.0 c.line_up.ensures.1 c.requires.3
