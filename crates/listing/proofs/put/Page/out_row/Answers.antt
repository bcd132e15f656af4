-- `listing::put::Page::out_row` meets its contract: a `-` for none, and else the number. Assumes nothing.
use mathlib.Core.Path.{sym}
use Rattle.listing.proofs.Pieces.{out_none, out_some}
use Rattle.listing.proofs.Writing.{wrote_as, room_as}
use Rattle.listing.proofs.put.Page.out_row.Goals as goal

pub byte-requires : goal.byte-requires
byte-requires c = room_as c.args.self.now.len c.args.self.now.out.now (out_none c.args.row c.if-row.true) c.requires

pub returns-then-row-clause-wrote : goal.returns-then-row-clause-wrote
returns-then-row-clause-wrote c = wrote_as (sym (out_none c.args.row c.if-row.true)) c.byte.ensures.wrote

pub number-requires : goal.number-requires
number-requires c = room_as c.args.self.now.len c.args.self.now.out.now (out_some c.args.row c.if-row.false) c.requires

pub returns-clause-wrote : goal.returns-clause-wrote
returns-clause-wrote c = wrote_as (sym (out_some c.args.row c.if-row.false)) c.number.ensures.wrote
