-- `listing::too_long` meets its contract: the bytes of the line. Assumes nothing.
use mathlib.Core.Path.{sym}
use Rattle.std.proofs.Common.{rules}
use Rattle.meaning.specs.Printed.{rest, line, too_long}
use Rattle.listing.proofs.Writing.{wrote_front, printed_on}
use Rattle.listing.proofs.too_long.Goals as goal

pub returns : goal.returns
unfolding too_long line rest
returns c = let n : _ = sym (c.word.ensures.same) in printed_on (wrote_front c.word.ensures.wrote) (search rules)
