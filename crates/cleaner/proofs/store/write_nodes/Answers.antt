-- `cleaner::store::write_nodes` meets its contract: one column after the other.
use Rattle.cleaner.proofs.Storing.{inside_more}
use native.Mathlib.Omega.{arith}
use Rattle.cleaner.proofs.store.write_nodes.Goals as goal

pub gather-requires-2 : goal.gather-requires-2
gather-requires-2 c = (c.requires.0, c.requires.2, inside_more (omega (arith, c.args.ages.even.birth_long)) c.requires.4)

pub gather-requires-3 : goal.gather-requires-3
gather-requires-3 c = (c.requires.0, c.requires.3, inside_more (omega (arith, c.requires.5)) c.requires.4)

pub returns : goal.returns
returns c = (c.gather.ensures 0, c.gather-2.ensures 0, c.gather-3.ensures 0)
