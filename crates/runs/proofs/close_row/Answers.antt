-- `runs::close_row` meets its contract: a run of a parent is stored as a finished edge.
use Rattle.runs.proofs.Closing.{row_none, row_pushed, close_ready}
use Rattle.runs.proofs.close_row.Goals as goal

pub returns-then-row : goal.returns-then-row
returns-then-row c = row_none _ _ _ _ c.if-row.true

pub push-requires : goal.push-requires
push-requires c = close_ready _ (record { left = c.args.open_left.now; par = c.args.open_par.now }) _ c.requires.0 c.requires.1 c.requires.2 c.if-row.false

pub returns : goal.returns
returns c = row_pushed _ _ _ _ _ c.if-row.false c.push.ensures
