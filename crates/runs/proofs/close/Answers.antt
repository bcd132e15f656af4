-- `runs::close` meets its contract: the open runs are finished row by row.
use Rattle.runs.proofs.Closing.{closing_start, closing_next, closing_end}
use native.Mathlib.Omega.{arith}
use Rattle.runs.proofs.close.Goals as goal

pub loop-c-init : goal.loop-c-init
loop-c-init c = closing_start _ _ _ c.requires.1

pub close_row-made-requires : goal.close_row-made-requires
close_row-made-requires c = (c.requires.0, c.loop-c.invariant.room, c.loop-c-test.true)

pub loop-c-preserved : goal.loop-c-preserved
loop-c-preserved c = closing_next _ _ _ _ _ _ c.requires.0 c.loop-c-test.true c.loop-c.invariant c.close_row-made.ensures c.close_row-made.auto.stood

pub shape_of-fl : goal.shape_of-fl
shape_of-fl c = omega (arith, c.loop-c.invariant.onward.lefts)

pub shape_of-fr : goal.shape_of-fr
shape_of-fr c = omega (arith, c.loop-c.invariant.onward.rights)

pub shape_of-fp : goal.shape_of-fp
shape_of-fp c = omega (arith, c.loop-c.invariant.onward.parents)

pub shape_of-fc : goal.shape_of-fc
shape_of-fc c = omega (arith, c.loop-c.invariant.onward.children)

pub shape_of-stood : goal.shape_of-stood
shape_of-stood c = omega (arith, c.loop-c.invariant.room.stood_long, c.requires.1.stood_long)

pub returns : goal.returns
returns c = closing_end _ _ _ _ _ c.loop-c-test.false c.loop-c.invariant
