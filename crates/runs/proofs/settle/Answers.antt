-- `runs::settle` meets its contract: the rows touched are dealt with one by one.
use Rattle.runs.proofs.Changing.{under_start, under_next, under_end, bared_start, bared_next, bared_end}
use native.Mathlib.Omega.{arith}
use Rattle.runs.proofs.settle.Goals as goal

pub loop-i-init : goal.loop-i-init
loop-i-init c = (under_start _ _ _ _ _ c.requires.0, bared_start _ _ _)

pub bounds-listed-c : goal.bounds-listed-c
bounds-listed-c c = omega (arith, c.loop-i.invariant.1.long, c.requires.3, c.requires.2 c.loop-i.i c.loop-i-test.true)

pub settle_row-made-requires : goal.settle_row-made-requires
settle_row-made-requires c = (c.loop-i.invariant.0.ready, c.requires.2 c.loop-i.i c.loop-i-test.true)

pub loop-i-preserved : goal.loop-i-preserved
loop-i-preserved c = (
  under_next _ _ _ _ _ _ _ _ _ _ c.loop-i.invariant.0 (c.requires.2 c.loop-i.i c.loop-i-test.true) c.settle_row-made.ensures c.settle_row-made.auto.stood,
  bared_next _ _ _ _ _ c.requires.3 (c.requires.2 c.loop-i.i c.loop-i-test.true) c.loop-i.invariant.1,
)

pub shape_of-listed : goal.shape_of-listed
shape_of-listed c = omega (arith, c.loop-i.invariant.1.long)

pub shape_of-open_left : goal.shape_of-open_left
shape_of-open_left c = omega (arith, c.loop-i.invariant.0.ready.runs.left_long, c.requires.0.runs.left_long)

pub shape_of-open_par : goal.shape_of-open_par
shape_of-open_par c = omega (arith, c.loop-i.invariant.0.ready.runs.par_long, c.requires.0.runs.par_long)

pub shape_of-fl : goal.shape_of-fl
shape_of-fl c = omega (arith, c.loop-i.invariant.0.onward.lefts)

pub shape_of-fr : goal.shape_of-fr
shape_of-fr c = omega (arith, c.loop-i.invariant.0.onward.rights)

pub shape_of-fp : goal.shape_of-fp
shape_of-fp c = omega (arith, c.loop-i.invariant.0.onward.parents)

pub shape_of-fc : goal.shape_of-fc
shape_of-fc c = omega (arith, c.loop-i.invariant.0.onward.children)

pub shape_of-stood : goal.shape_of-stood
shape_of-stood c = omega (arith, c.loop-i.invariant.0.ready.room.stood_long, c.requires.0.room.stood_long)

pub returns : goal.returns
returns c = (under_end _ _ _ _ _ _ _ _ _ c.loop-i-test.false c.loop-i.invariant.0, bared_end _ _ _ _ _ _ c.loop-i-test.false c.loop-i.invariant.1)
