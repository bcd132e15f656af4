-- `first_of` meets its contract: row e where none is noted, and else the one noted.
use mathlib.Core.Path.{sym}
use Rattle.carrying.proofs.Spanning.{first_new, first_old}
use Rattle.carrying.proofs.spans.first_of.Goals as goal

pub returns-then-past-eq0 : goal.returns-then-past-eq0
returns-then-past-eq0 c = sym (first_new _ _ _ c.if-past-eq0.true)

pub returns-else-past-eq0 : goal.returns-else-past-eq0
returns-else-past-eq0 c = sym (first_old _ _ _ c.if-past-eq0.false)
