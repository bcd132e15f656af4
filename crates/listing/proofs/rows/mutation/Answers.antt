-- `listing::rows::mutation` meets its contract: the cells are read and written as one line. Assumes nothing.
use mathlib.Core.Path.{sym}
use Rattle.meaning.specs.Printed.{mutation_line}
use Rattle.listing.proofs.Pieces.{three_as}
use Rattle.listing.proofs.Writing.{wrote_as, room_as}
use Rattle.listing.proofs.rows.mutation.Goals as goal

pub line-requires : goal.line-requires
unfolding mutation_line
line-requires c = room_as c.args.page.now.len c.args.page.now.out.now (sym (three_as 77 c.cell-j.ensures c.cell-u.ensures c.state-s.ensures)) c.requires

pub returns-clause-wrote : goal.returns-clause-wrote
unfolding mutation_line
returns-clause-wrote c = wrote_as (three_as 77 c.cell-j.ensures c.cell-u.ensures c.state-s.ensures) c.line.ensures.wrote
