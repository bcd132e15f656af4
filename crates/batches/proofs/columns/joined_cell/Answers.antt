-- `joined_cell` meets its contract: the cell stands in the first column or, counted on, in the second.
use mathlib.Core.Path.{sym, ◌∙◌}
use native.Mathlib.Omega.{arith}
use Rattle.std.proofs.lemmas.List.{get_or_default}
use Rattle.batches.proofs.Fronts.{get_left, get_right}
use Rattle.batches.proofs.columns.joined_cell.Goals as goal

pub returns-then-i-a : goal.returns-then-i-a
returns-then-i-a g c = λ other. c.index-a-i.is ∙ get_or_default c.args.a.now c.args.i _ other c.if-i-a.true ∙ sym (get_left other c.args.a.now c.args.b.now c.args.i c.if-i-a.true)

pub returns : goal.returns
returns g c = λ other. c.index-b-i.is ∙ get_or_default c.args.b.now _ _ other (omega (arith, c.requires, c.if-i-a.false)) ∙ sym (get_right other c.args.a.now c.args.b.now c.args.i c.if-i-a.false)
