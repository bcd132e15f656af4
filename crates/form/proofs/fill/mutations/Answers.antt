-- `form::fill::mutations` meets its contract: each column from its field. Assumes nothing.
use Prim.Native.Nat.{◌+◌}
use Rattle.form.proofs.Filling.{fields_of}
use native.Mathlib.Omega.{arith}
use Rattle.form.proofs.fill.mutations.Goals as goal

pub fill16-requires : goal.fill16-requires
fill16-requires c = (fields_of 2 2 7 c.args.s.now c.args.start (c.args.start + 2) c.args.n (omega arith) (omega arith) (omega arith) c.requires.0, c.requires.1)

pub fill16-requires-2 : goal.fill16-requires-2
fill16-requires-2 c = (fields_of 2 4 7 c.args.s.now c.args.start (c.args.start + 2 + 2) c.args.n (omega arith) (omega arith) (omega arith) c.requires.0, c.requires.2)

pub fill8-requires : goal.fill8-requires
fill8-requires c = (fields_of 1 6 7 c.args.s.now c.args.start (c.args.start + 2 + 2 + 2) c.args.n (omega arith) (omega arith) (omega arith) c.requires.0, c.requires.3)
