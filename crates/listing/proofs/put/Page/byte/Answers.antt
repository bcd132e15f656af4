-- `listing::put::Page::byte` meets its contract: one cell is set. Assumes nothing.
use Rattle.listing.proofs.Writing.{wrote_byte}
use native.Mathlib.Omega.{arith}
use Rattle.listing.proofs.put.Page.byte.Goals as goal

pub returns-clause-wrote : goal.returns-clause-wrote
returns-clause-wrote c = wrote_byte c.args.self.now.len c.args.b c.args.self.now.out.now (omega arith)
