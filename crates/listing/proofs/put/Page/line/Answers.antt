-- `listing::put::Page::line` meets its contract: the letter, the numbers, the line feed. Assumes nothing.
use mathlib.Core.Path.{sym}
use mathlib.Core.List.{List, [], ◌∷◌, ◌++◌}
use Prim.Native.Nat.{ℕ}
use lib.ListN.{length}
use Rattle.meaning.specs.Printed.{lines}
use Rattle.listing.specs.Written.{spaced}
use Rattle.listing.proofs.Going.{numbers_spaced}
use Rattle.listing.proofs.Writing.{wrote_then, wrote_as, room_first, room_then, room_as}
use Rattle.listing.proofs.put.Page.line.Goals as goal

-- the numbers of a line
abbrev middle : List ℕ → List ℕ
middle ns = lines (spaced ns) (length ns)

pub byte-requires : goal.byte-requires
byte-requires c = room_first c.args.self.now.len (c.args.letter ∷ []) ((middle c.args.ns.now) ++ (10 ∷ [])) c.args.self.now.out.now (room_as c.args.self.now.len c.args.self.now.out.now (numbers_spaced c.args.letter c.args.ns.now) c.requires)

pub fields-requires : goal.fields-requires
fields-requires c = room_first c.byte.new.self.len (middle c.args.ns.now) (10 ∷ []) c.byte.new.self.out.now (room_then ((middle c.args.ns.now) ++ (10 ∷ [])) c.byte.ensures.wrote (room_as c.args.self.now.len c.args.self.now.out.now (numbers_spaced c.args.letter c.args.ns.now) c.requires))

pub byte-requires-2 : goal.byte-requires-2
byte-requires-2 c = room_then (10 ∷ []) c.fields.ensures.wrote (room_then ((middle c.args.ns.now) ++ (10 ∷ [])) c.byte.ensures.wrote (room_as c.args.self.now.len c.args.self.now.out.now (numbers_spaced c.args.letter c.args.ns.now) c.requires))

pub returns-clause-wrote : goal.returns-clause-wrote
returns-clause-wrote c = wrote_as (sym (numbers_spaced c.args.letter c.args.ns.now)) (wrote_then c.byte.ensures.wrote (wrote_then c.fields.ensures.wrote c.byte-2.ensures.wrote))
