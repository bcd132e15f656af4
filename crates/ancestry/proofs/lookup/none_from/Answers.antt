-- `none_from` meets its contract.
use Rattle.ancestry.proofs.Finding.{none_next, none_over}
use native.Mathlib.Omega.{arith}
use Rattle.ancestry.proofs.lookup.none_from.Goals as goal

pub returns-then-place-to : goal.returns-then-place-to
returns-then-place-to c = none_next _ _ _ _ _ c.cell_at.ensures (omega arith)

pub returns : goal.returns
returns c = none_over _ _ _ _ _ (omega arith)
