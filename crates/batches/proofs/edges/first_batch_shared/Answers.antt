-- `first_batch_shared` meets its contract: the column for rule 7 stands on the stack.
use mathlib.Core.Path.{sym}
use Rattle.order.specs.Tables.{front_long}
use native.Mathlib.Omega.{arith}
use Rattle.batches.proofs.edges.first_batch_shared.Goals as goal

pub slice_bounds-first_shared-end : goal.slice_bounds-first_shared-end
slice_bounds-first_shared-end c = front_long 4096 _ c.requires.1

pub first_shared-requires : goal.first_shared-requires
first_shared-requires c = (c.requires.0, sym (front_long 4096 _ c.requires.1), omega (arith, c.requires.1))

pub returns : goal.returns
returns c = c.first_shared.ensures.0
