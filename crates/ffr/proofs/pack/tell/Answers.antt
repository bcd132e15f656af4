-- `ffr::pack::tell` meets its contract: a refusal packed, or the rows written in the block.
use Rattle.std.proofs.Common.{arith}
use lib.ListN.{length}
use Rattle.ffr.proofs.Packing.{row_of, told_counts, refused_told, done_told}
use Rattle.ffr.proofs.pack.tell.Goals as goal

pub pack-requires : goal.pack-requires
pack-requires c = row_of (length c.args.block.now) c.in-Err.is c.requires

pub put_block-requires : goal.put_block-requires
put_block-requires c = let k : _ = told_counts (length c.args.block.now) c.in-Ok.is c.requires in (k.block, omega arith, omega arith, omega arith, omega arith)

pub returns-in-Err : goal.returns-in-Err
returns-in-Err c = refused_told c.args.block.now c.in-Err.is c.pack.ensures

pub returns-in-Ok : goal.returns-in-Ok
returns-in-Ok c = done_told c.args.block.now c.in-Ok.is c.put_block.ensures
