-- `form::fill::samples` meets its contract: the column from its field. Assumes nothing.
use Prim.Native.Nat.{◌+◌}
use Rattle.form.proofs.Filling.{fields_of}
use native.Mathlib.Omega.{arith}
use Rattle.form.proofs.fill.samples.Goals as goal

pub fill32-requires : goal.fill32-requires
fill32-requires c = (fields_of 4 2 6 c.args.s.now c.args.start (c.args.start + 2) c.args.n (omega arith) (omega arith) (omega arith) c.requires.0, c.requires.1)
