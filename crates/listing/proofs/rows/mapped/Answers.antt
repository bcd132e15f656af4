-- `listing::rows::mapped` meets its contract: the pieces of the line, one after the other. Assumes nothing.
use mathlib.Core.Path.{sym}
use mathlib.Core.List.{[], ◌∷◌, ◌++◌}
use Rattle.meaning.specs.Printed.{decimal, out_row}
use Rattle.listing.proofs.Pieces.{map_pieces}
use Rattle.listing.proofs.Writing.{wrote_then, wrote_as, room_first, room_then, room_as}
use Rattle.listing.proofs.rows.mapped.Goals as goal

pub byte-requires : goal.byte-requires
byte-requires c = room_first c.args.page.now.len ((88 ∷ [])) ((32 ∷ decimal c.args.i) ++ ((32 ∷ []) ++ (out_row c.cell-row.result ++ ((10 ∷ []))))) c.args.page.now.out.now (room_as c.args.page.now.len c.args.page.now.out.now (map_pieces c.args.map.now c.args.i c.cell-row.result c.cell-row.ensures) c.requires)

pub field-requires : goal.field-requires
field-requires c = room_first c.byte.new.self.len ((32 ∷ decimal c.args.i)) ((32 ∷ []) ++ (out_row c.cell-row.result ++ ((10 ∷ [])))) c.byte.new.self.out.now (room_then ((32 ∷ decimal c.args.i) ++ ((32 ∷ []) ++ (out_row c.cell-row.result ++ ((10 ∷ []))))) c.byte.ensures.wrote (room_as c.args.page.now.len c.args.page.now.out.now (map_pieces c.args.map.now c.args.i c.cell-row.result c.cell-row.ensures) c.requires))

pub byte-requires-2 : goal.byte-requires-2
byte-requires-2 c = room_first c.field.new.self.len ((32 ∷ [])) (out_row c.cell-row.result ++ ((10 ∷ []))) c.field.new.self.out.now (room_then ((32 ∷ []) ++ (out_row c.cell-row.result ++ ((10 ∷ [])))) c.field.ensures.wrote (room_then ((32 ∷ decimal c.args.i) ++ ((32 ∷ []) ++ (out_row c.cell-row.result ++ ((10 ∷ []))))) c.byte.ensures.wrote (room_as c.args.page.now.len c.args.page.now.out.now (map_pieces c.args.map.now c.args.i c.cell-row.result c.cell-row.ensures) c.requires)))

pub out_row-requires : goal.out_row-requires
out_row-requires c = room_first c.byte-2.new.self.len (out_row c.cell-row.result) ((10 ∷ [])) c.byte-2.new.self.out.now (room_then (out_row c.cell-row.result ++ ((10 ∷ []))) c.byte-2.ensures.wrote (room_then ((32 ∷ []) ++ (out_row c.cell-row.result ++ ((10 ∷ [])))) c.field.ensures.wrote (room_then ((32 ∷ decimal c.args.i) ++ ((32 ∷ []) ++ (out_row c.cell-row.result ++ ((10 ∷ []))))) c.byte.ensures.wrote (room_as c.args.page.now.len c.args.page.now.out.now (map_pieces c.args.map.now c.args.i c.cell-row.result c.cell-row.ensures) c.requires))))

pub byte-requires-3 : goal.byte-requires-3
byte-requires-3 c = room_then ((10 ∷ [])) c.out_row.ensures.wrote (room_then (out_row c.cell-row.result ++ ((10 ∷ []))) c.byte-2.ensures.wrote (room_then ((32 ∷ []) ++ (out_row c.cell-row.result ++ ((10 ∷ [])))) c.field.ensures.wrote (room_then ((32 ∷ decimal c.args.i) ++ ((32 ∷ []) ++ (out_row c.cell-row.result ++ ((10 ∷ []))))) c.byte.ensures.wrote (room_as c.args.page.now.len c.args.page.now.out.now (map_pieces c.args.map.now c.args.i c.cell-row.result c.cell-row.ensures) c.requires))))

pub returns-clause-wrote : goal.returns-clause-wrote
returns-clause-wrote c = wrote_as (sym (map_pieces c.args.map.now c.args.i c.cell-row.result c.cell-row.ensures)) (wrote_then c.byte.ensures.wrote (wrote_then c.field.ensures.wrote (wrote_then c.byte-2.ensures.wrote (wrote_then c.out_row.ensures.wrote c.byte-3.ensures.wrote))))
