-- `listing::put::Page::field` meets its contract: a space, then the number. Assumes nothing.
use Rattle.listing.proofs.Writing.{wrote_length, wrote_then}
use native.Mathlib.Omega.{arith}
use Rattle.listing.proofs.put.Page.field.Goals as goal

pub number-requires : goal.number-requires
number-requires c = omega (arith, c.requires, c.byte.ensures.wrote.next, wrote_length c.byte.ensures.wrote)

pub returns-clause-wrote : goal.returns-clause-wrote
returns-clause-wrote c = wrote_then c.byte.ensures.wrote c.number.ensures.wrote
