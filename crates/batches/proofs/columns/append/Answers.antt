-- `append` meets its contract: the second column is written over what follows the first.
use lib.ListN.{length}
use Prim.Native.Nat.{◌+◌, ◌-◌}
use native.Mathlib.Omega.{arith}
use Rattle.batches.proofs.Fronts.{appended}
use Rattle.batches.proofs.columns.append.Goals as goal

pub returns : goal.returns
returns g c = appended c.args.a.now c.args.b.now c.args.out.now _ _ (length c.args.a.now + length c.args.b.now - length c.args.a.now) (omega arith) c.copy.ensures c.copy-2.ensures
