-- `listing::rows::site` meets its contract: the cells are read and written as one line. Assumes nothing.
use mathlib.Core.Path.{sym}
use Rattle.meaning.specs.Printed.{site_line}
use Rattle.listing.proofs.Pieces.{two_as}
use Rattle.listing.proofs.Writing.{wrote_as, room_as}
use Rattle.listing.proofs.rows.site.Goals as goal

pub line-requires : goal.line-requires
unfolding site_line
line-requires c = room_as c.args.page.now.len c.args.page.now.out.now (sym (two_as 83 c.cell-x.ensures c.state-s.ensures)) c.requires

pub returns-clause-wrote : goal.returns-clause-wrote
unfolding site_line
returns-clause-wrote c = wrote_as (two_as 83 c.cell-x.ensures c.state-s.ensures) c.line.ensures.wrote
