-- `ffr::pack::put_block` meets its contract: four cells, one after the other.
use lib.ListN.{length-set}
use Rattle.ffr.proofs.Packing.{four}
use native.Mathlib.Omega.{arith}
use Rattle.ffr.proofs.pack.put_block.Goals as goal

pub bounds-block-1 : goal.bounds-block-1
bounds-block-1 c = simp length-set (omega (arith, c.requires.0))

pub bounds-block-2 : goal.bounds-block-2
bounds-block-2 c = simp length-set (omega (arith, c.requires.0))

pub bounds-block-3 : goal.bounds-block-3
bounds-block-3 c = simp length-set (omega (arith, c.requires.0))

pub returns : goal.returns
returns c = four c.args.block.now _ _ _ _ c.requires.0
