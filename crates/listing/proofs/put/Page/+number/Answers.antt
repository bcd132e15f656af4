-- `listing::put::Page::number` meets its contract: all digits but the last, then the last. The number is the measure. Assumes nothing.
use mathlib.Core.Path.{sym, ap}
use mathlib.Core.List.{[], ◌∷◌}
use Prim.Native.Nat.{◌+◌, ◌/◌, ◌%◌}
use lib.ListN.{length, length-append}
use Rattle.meaning.specs.Printed.{decimal}
use Rattle.listing.proofs.Digits.{decimal_last, decimal_more}
use Rattle.listing.proofs.Writing.{wrote_length, wrote_then, wrote_as}
use native.Mathlib.Omega.{arith}
use Rattle.listing.proofs.put.Page.+number.Goals as goal

pub byte-requires : goal.byte-requires
byte-requires t c = omega (arith, ap length (decimal_last c.args.n c.if-n-lt10.true), c.requires)

pub returns-then-n-lt10-clause-wrote : goal.returns-then-n-lt10-clause-wrote
returns-then-n-lt10-clause-wrote t c = wrote_as (sym (decimal_last c.args.n c.if-n-lt10.true)) c.byte.ensures.wrote

pub number-requires : goal.number-requires
number-requires t c = (omega arith, omega (arith, c.requires, ap length (decimal_more c.args.n c.if-n-lt10.false), length-append (decimal (c.args.n / 10)) ((48 + c.args.n % 10) ∷ [])))

pub byte-requires-2 : goal.byte-requires-2
byte-requires-2 t c = omega (arith, c.requires, ap length (decimal_more c.args.n c.if-n-lt10.false), length-append (decimal (c.args.n / 10)) ((48 + c.args.n % 10) ∷ []), c.number.ensures.wrote.next, wrote_length c.number.ensures.wrote)

pub returns-clause-wrote : goal.returns-clause-wrote
returns-clause-wrote t c = wrote_as (sym (decimal_more c.args.n c.if-n-lt10.false)) (wrote_then c.number.ensures.wrote c.byte-2.ensures.wrote)
