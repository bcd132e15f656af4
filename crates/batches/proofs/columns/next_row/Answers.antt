-- `next_row` meets its contract: the row before is that of the same birth, or it is looked for.
use mathlib.Core.Path.{sym, ap, ◌∙◌}
use mathlib.Core.List.{◌++◌}
use Prim.Native.Nat.{◌-◌}
use native.Mathlib.Omega.{arith}
use Rattle.meaning.specs.Words.{index_of}
use Rattle.batches.proofs.columns.next_row.Goals as goal

pub returns-then-names-i : goal.returns-then-names-i
returns-then-names-i c = c.requires.3 (c.args.i - 1) (omega (arith, c.if-i-ne0.true)) ∙ ap (λ b. index_of b (c.args.nodes.base.ages.birth.now ++ c.args.nodes.batch.ages.birth.now)) (sym c.if-names-i.true)

pub returns : goal.returns
returns c = c.row_of.ensures
