-- `keeping::unmark` meets its contract: each cell holds the value.
use Rattle.keeping.proofs.Cells.{filled_rows}
use Rattle.keeping.proofs.unmark.Goals as goal

pub returns : goal.returns
returns c = filled_rows _ _ (c.fill.ensures.after (λ y e. e))
