-- `listing::refused_line` meets its contract: the pieces of the line, one after the other. Assumes nothing.
use Rattle.std.proofs.Common.{rules}
use mathlib.Core.Path.{sym, ap, ◌∙◌}
use mathlib.Core.List.{[], ◌∷◌, ◌++◌}
use Prim.Native.Nat.{ℕ, ◌+◌, ◌<◌, ◌≤◌}
use lib.ListN.{length}
use Rattle.meaning.specs.Printed.{decimal}
use Rattle.listing.proofs.Bounds.{refused_most}
use Rattle.listing.proofs.Pieces.{refused, refused_pieces}
use Rattle.listing.proofs.Writing.{wrote_then, wrote_as, wrote_front, printed_on, room_first, room_then}
use native.Mathlib.Omega.{arith}
use Rattle.listing.proofs.refused_line.Goals as goal

-- room for the whole line
room_whole : (n r out : ℕ) → n < 4294967296 → r < 18446744073709551616 → 40 ≤ out → 0 + length (refused ++ ((32 ∷ decimal n) ++ ((32 ∷ decimal r) ++ (10 ∷ [])))) ≤ out
room_whole n r out a b h = omega (arith, ap length (refused_pieces n r), refused_most n r a b, h)

pub word-requires : goal.word-requires
word-requires c = room_first (0) (refused) ((32 ∷ decimal c.args.number) ++ ((32 ∷ decimal c.args.row) ++ ((10 ∷ [])))) c.args.out.now (room_whole c.args.number c.args.row (length c.args.out.now) (omega (arith, c.ranges.number)) (omega (arith, c.ranges.row)) c.requires)

pub field-requires : goal.field-requires
field-requires c = room_first c.word.new.self.len ((32 ∷ decimal c.args.number)) ((32 ∷ decimal c.args.row) ++ ((10 ∷ []))) c.word.new.self.out.now (room_then ((32 ∷ decimal c.args.number) ++ ((32 ∷ decimal c.args.row) ++ ((10 ∷ [])))) c.word.ensures.wrote (room_whole c.args.number c.args.row (length c.args.out.now) (omega (arith, c.ranges.number)) (omega (arith, c.ranges.row)) c.requires))

pub field-requires-2 : goal.field-requires-2
field-requires-2 c = room_first c.field.new.self.len ((32 ∷ decimal c.args.row)) ((10 ∷ [])) c.field.new.self.out.now (room_then ((32 ∷ decimal c.args.row) ++ ((10 ∷ []))) c.field.ensures.wrote (room_then ((32 ∷ decimal c.args.number) ++ ((32 ∷ decimal c.args.row) ++ ((10 ∷ [])))) c.word.ensures.wrote (room_whole c.args.number c.args.row (length c.args.out.now) (omega (arith, c.ranges.number)) (omega (arith, c.ranges.row)) c.requires)))

pub byte-requires : goal.byte-requires
byte-requires c = room_then ((10 ∷ [])) c.field-2.ensures.wrote (room_then ((32 ∷ decimal c.args.row) ++ ((10 ∷ []))) c.field.ensures.wrote (room_then ((32 ∷ decimal c.args.number) ++ ((32 ∷ decimal c.args.row) ++ ((10 ∷ [])))) c.word.ensures.wrote (room_whole c.args.number c.args.row (length c.args.out.now) (omega (arith, c.ranges.number)) (omega (arith, c.ranges.row)) c.requires)))

pub returns : goal.returns
returns c = let n : _ = sym (c.byte.ensures.same ∙ c.field-2.ensures.same ∙ c.field.ensures.same ∙ c.word.ensures.same) in printed_on (wrote_front (wrote_as (sym (refused_pieces c.args.number c.args.row)) (wrote_then c.word.ensures.wrote (wrote_then c.field.ensures.wrote (wrote_then c.field-2.ensures.wrote c.byte.ensures.wrote))))) (search rules)
