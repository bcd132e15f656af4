-- `segments::find_in_columns` meets its contract: no segment before i holds x.
use Rattle.std.proofs.Common.{sym, ◌∙◌, arith}
use Rattle.segments.specs.Search.{onward_start}
use Rattle.segments.specs.Columns.{column_next, column_first, column_none}
use Rattle.segments.proofs.find_in_columns.Goals as goal

pub loop-i-init : goal.loop-i-init
loop-i-init c = (omega (arith, c.min.ensures, c.min-n.ensures), onward_start _ _)

pub returns-then-holds : goal.returns-then-holds
returns-then-holds c = let a = c.args in let w = c.loop-i.invariant in
    column_first a.left.now a.right.now a.row.now a.x c.loop-i.i (omega (arith, c.loop-i-test.true, w.0)) w.1 (sym c.holds.ensures ∙ c.if-holds.true)

pub loop-i-preserved : goal.loop-i-preserved
loop-i-preserved c = let a = c.args in let w = c.loop-i.invariant in
    (w.0, column_next a.left.now a.right.now a.row.now a.x c.loop-i.i (omega (arith, c.loop-i-test.true, w.0)) w.1 (sym c.holds.ensures ∙ c.if-holds.false))

pub returns : goal.returns
returns c = let a = c.args in let w = c.loop-i.invariant in
    column_none a.left.now a.right.now a.row.now a.x c.loop-i.i (omega (arith, c.loop-i.auto.i-end, w.0)) (omega (arith, c.loop-i-test.false, w.0)) w.1
