-- `listing::rows::node` meets its contract: the cells are read and written as one line. Assumes nothing.
use mathlib.Core.Path.{sym}
use Rattle.meaning.specs.Printed.{node_line}
use Rattle.listing.proofs.Pieces.{row_as}
use Rattle.listing.proofs.Writing.{wrote_as, room_as}
use Rattle.listing.proofs.rows.node.Goals as goal

pub line-requires : goal.line-requires
unfolding node_line
line-requires c = room_as c.args.page.now.len c.args.page.now.out.now (sym (row_as 78 c.args.i c.cell-t.ensures c.cell-b.ensures c.stock-p.ensures)) c.requires

pub returns-clause-wrote : goal.returns-clause-wrote
unfolding node_line
returns-clause-wrote c = wrote_as (row_as 78 c.args.i c.cell-t.ensures c.cell-b.ensures c.stock-p.ensures) c.line.ensures.wrote
