-- `child_from` meets its contract: no edge gone over hangs a child below the row from x on before the end.
use mathlib.Core.Path.{sym, ◌∙◌}
use Rattle.carrying.proofs.Childless.{none_at_first, none_holds, none_still, one_holds}
use native.Mathlib.Omega.{arith}
use Rattle.carrying.proofs.kids.child_from.Goals as goal

pub loop-e-init : goal.loop-e-init
loop-e-init c = none_at_first c.args.edges.even.parent_long c.requires _

pub is_under-requires : goal.is_under-requires
is_under-requires c =
    let l : _ = c.args.edges.even in (
      omega (arith, c.loop-e-test.true, l.parent_long, c.requires.inside),
      omega (arith, c.loop-e-test.true, l.right_long, l.parent_long, c.requires.inside),
      omega (arith, c.loop-e-test.true, c.requires.inside),
    )

pub bounds-edges-e : goal.bounds-edges-e
bounds-edges-e c = omega (arith, c.loop-e-test.true, c.args.edges.even.right_long, c.args.edges.even.parent_long, c.requires.inside)

pub returns-then-is_under : goal.returns-then-is_under
returns-then-is_under c = one_holds (omega (arith, c.loop-e-test.true, c.args.edges.even.parent_long, c.requires.inside)) (sym c.if-is_under.true ∙ c.is_under.ensures)

pub sooner-end-requires : goal.sooner-end-requires
sooner-end-requires c = omega (arith, c.loop-e-test.true, c.args.edges.even.parent_long, c.requires.inside)

pub loop-e-preserved : goal.loop-e-preserved
loop-e-preserved c = none_still c.loop-e.invariant (sym c.if-is_under.false ∙ c.is_under.ensures) _ c.sooner-end.ensures

pub returns : goal.returns
returns c = none_holds c.args.edges.even.parent_long c.requires c.loop-e-test.false c.loop-e.invariant
