-- `listing::rows::edge` meets its contract: the cells are read and written as one line. Assumes nothing.
use mathlib.Core.Path.{sym}
use Rattle.meaning.specs.Printed.{edge_line}
use Rattle.listing.proofs.Pieces.{four_as}
use Rattle.listing.proofs.Writing.{wrote_as, room_as}
use Rattle.listing.proofs.rows.edge.Goals as goal

pub line-requires : goal.line-requires
unfolding edge_line
line-requires c = room_as c.args.page.now.len c.args.page.now.out.now (sym (four_as 69 c.cell-a.ensures c.cell-b.ensures c.cell-p.ensures c.cell-c.ensures)) c.requires

pub returns-clause-wrote : goal.returns-clause-wrote
unfolding edge_line
returns-clause-wrote c = wrote_as (four_as 69 c.cell-a.ensures c.cell-b.ensures c.cell-p.ensures c.cell-c.ensures) c.line.ensures.wrote
