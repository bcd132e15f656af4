-- `cleaner::out::reorder` meets its contract: gathered in the spare column, and copied back.
use Rattle.meaning.specs.Words.{at}
use Rattle.cleaner.proofs.Storing.{inside_more}
use Rattle.cleaner.proofs.Finishing.{copied_back}
use native.Mathlib.Omega.{arith}
use Rattle.cleaner.proofs.edges_out.reorder.Goals as goal

pub gather-requires : goal.gather-requires
gather-requires c = (c.requires.0, c.requires.2, inside_more c.requires.1 c.requires.3)

pub copy-requires : goal.copy-requires
copy-requires c = (omega (arith, c.gather.auto.out, c.requires.2), c.requires.1)

pub returns : goal.returns
returns c = copied_back (at c.args.col.now) c.args.order.now c.args.spare.now c.gather.new.out c.args.col.now c.copy.new.out c.args.k c.requires.0 (c.gather.ensures 0) c.copy.ensures
