-- `first_place` meets its contract.
use Rattle.ancestry.proofs.Finding.{begins_zero, begins_after}
use Rattle.ancestry.proofs.lookup.first_place.Goals as goal

pub returns-then-u-eq0 : goal.returns-then-u-eq0
returns-then-u-eq0 c = begins_zero _ _ c.if-u-eq0.true

pub returns : goal.returns
returns c = begins_after _ _ c.if-u-eq0.false
