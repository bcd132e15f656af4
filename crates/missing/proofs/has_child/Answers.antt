-- `has_child` meets its contract: no edge gone over hangs a child below the row.
use mathlib.Core.Path.{◌∙◌, sym}
use native.Mathlib.Omega.{arith}
use Rattle.missing.proofs.Missing.{none_at_first, none_still, one_found, none_found}
use Rattle.missing.proofs.has_child.Goals as goal

pub loop-e-init : goal.loop-e-init
loop-e-init c = none_at_first _ _ _ _ _

pub returns-then-is_under : goal.returns-then-is_under
returns-then-is_under c = one_found _ _ _ _ _ _ c.loop-e-test.true (sym c.if-is_under.true ∙ c.is_under.ensures)

pub loop-e-preserved : goal.loop-e-preserved
loop-e-preserved c = none_still _ _ _ _ _ _ (sym c.if-is_under.false ∙ c.is_under.ensures) c.loop-e.invariant

pub returns : goal.returns
returns c = none_found _ _ _ _ _ _ (omega arith) c.loop-e-test.false c.loop-e.invariant
