-- `runs::write` meets its contract: beyond the cells nothing is written, which is what `set` does.
use mathlib.Core.Path.{sym}
use lib.Seq.{set_out}
use native.Mathlib.Omega.{arith}
use Rattle.runs.proofs.write.Goals as goal

pub returns-then-fl-k : goal.returns-then-fl-k
returns-then-fl-k c = (
  sym (set_out _ _ _ c.if-fl-k.true),
  sym (set_out _ _ _ (omega (arith, c.if-fl-k.true, c.requires.0))),
  sym (set_out _ _ _ (omega (arith, c.if-fl-k.true, c.requires.1))),
  sym (set_out _ _ _ (omega (arith, c.if-fl-k.true, c.requires.2))),
)
