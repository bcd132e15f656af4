-- `tell_row` meets its contract: none where the row is missing, and else the state that it carries.
use mathlib.Core.Path.{refl, ◌∙◌}
use Rattle.carrying.proofs.Telling.{still_up}
use Rattle.carrying.proofs.RowByRow.{ready_up, row_missing, row_carried}
use Rattle.carrying.proofs.column.tell_row.Goals as goal

pub is_missing-requires : goal.is_missing-requires
is_missing-requires c = (c.requires.0.asking, c.requires.1, c.requires.2, c.requires.3)

pub returns-then-is_missing-clause-row : goal.returns-then-is_missing-clause-row
returns-then-is_missing-clause-row c = row_missing _ _ _ _ _ _ c.requires.3 _ c.is_missing.ensures.answer c.if-is_missing.true

pub carried-requires : goal.carried-requires
carried-requires c = (still_up c.is_missing.ensures.long refl refl (ready_up c.requires.0), c.is_missing.ensures.known, c.requires.3)

pub returns-clause-row : goal.returns-clause-row
returns-clause-row c = row_carried _ _ _ _ _ _ c.requires.3 _ c.is_missing.ensures.answer c.if-is_missing.false c.carried.ensures.carried

pub returns-clause-long : goal.returns-clause-long
returns-clause-long c = c.carried.ensures.long ∙ c.is_missing.ensures.long
