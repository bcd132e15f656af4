-- `mend::up::cede` meets its contract: three writes, one after the other.
use Rattle.std.proofs.Common.{sym, arith}
use Rattle.mend.specs.Listing.{listed_same}
use Rattle.mend.proofs.Touching.{noted_three}
use Rattle.mend.proofs.up.cede.Goals as goal

pub put_up-a-requires : goal.put_up-a-requires
put_up-a-requires c = (c.requires.1, c.requires.3)

pub put_up-b-requires : goal.put_up-b-requires
put_up-b-requires c = let e : _ = c.put_up-a.auto.up in (omega (arith, c.requires.2), listed_same (sym e) c.put_up-a.ensures.1.listing)

pub put_up-requires : goal.put_up-requires
put_up-requires c = let e : _ = c.put_up-b.auto.up in let d : _ = c.put_up-a.auto.up in (omega (arith, c.requires.0), listed_same (sym e) c.put_up-b.ensures.1.listing)

pub returns : goal.returns
returns c = let a : _ = c.args in noted_three a.z a.s a.w a.o 4294967295 4294967295 c.put_up-a.ensures c.put_up-b.ensures c.put_up.ensures
