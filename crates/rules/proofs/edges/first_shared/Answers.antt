-- `first_shared` meets its contract: the edges are lined up, and stand by child where the search finds none.
use Rattle.meaning.specs.Check.{edge_shared}
use Rattle.rules.proofs.Sorting.{none_by_child}
use Rattle.rules.proofs.edges.first_shared.Goals as goal

pub returns : goal.returns
unfolding edge_shared
returns c = (c.first_lined.ensures, none_by_child _ _ _ c.requires.0 c.line_up.ensures.0 c.line_up.ensures.1 c.first_lined.ensures)
