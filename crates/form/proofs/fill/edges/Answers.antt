-- `form::fill::edges` meets its contract: each column from its field. Assumes nothing.
use Prim.Native.Nat.{◌+◌}
use Rattle.form.proofs.Filling.{fields_of}
use native.Mathlib.Omega.{arith}
use Rattle.form.proofs.fill.edges.Goals as goal

pub fill32-requires : goal.fill32-requires
fill32-requires c = (fields_of 4 2 14 c.args.s.now c.args.start (c.args.start + 2) c.args.n (omega arith) (omega arith) (omega arith) c.requires.0, c.requires.1)

pub fill32-requires-2 : goal.fill32-requires-2
fill32-requires-2 c = (fields_of 4 6 14 c.args.s.now c.args.start (c.args.start + 2 + 4) c.args.n (omega arith) (omega arith) (omega arith) c.requires.0, c.requires.2)

pub fill16-requires : goal.fill16-requires
fill16-requires c = (fields_of 2 10 14 c.args.s.now c.args.start (c.args.start + 2 + 4 + 4) c.args.n (omega arith) (omega arith) (omega arith) c.requires.0, c.requires.3)

pub fill16-requires-2 : goal.fill16-requires-2
fill16-requires-2 c = (fields_of 2 12 14 c.args.s.now c.args.start (c.args.start + 2 + 4 + 4 + 2) c.args.n (omega arith) (omega arith) (omega arith) c.requires.0, c.requires.4)
