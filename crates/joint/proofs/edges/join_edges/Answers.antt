-- `join_edges` meets its contract: the working column of rows stands on the stack.
use mathlib.Core.Path.{sym}
use Prim.Native.Nat.{◌+◌}
use lib.ListN.{length}
use Rattle.order.specs.Tables.{front_long}
use Rattle.joint.proofs.edges.join_edges.Goals as goal

pub slice_bounds-put_edges-end : goal.slice_bounds-put_edges-end
slice_bounds-put_edges-end c = front_long 4096 (length c.args.base_edges.left.now + length c.args.edges.left.now) c.requires.found.few

pub put_edges-requires : goal.put_edges-requires
put_edges-requires c = (c.requires, sym (front_long 4096 (length c.args.base_edges.left.now + length c.args.edges.left.now) c.requires.found.few))
