-- `sweep::walk` meets its contract: each turn brings the sweep to the next change, and at the end of the chromosome it is done.
use mathlib.Core.Path.{refl, sym, ◌∙◌}
use native.Mathlib.Omega.{arith}
use Rattle.sweep.proofs.Ending.{came_none, came_then, steady_on, close_ready, done}
use Rattle.sweep.proofs.walk.Goals as goal

pub loop-at-init : goal.loop-at-init
loop-at-init c = (came_none c.requires, refl)

pub step-reached-requires : goal.step-reached-requires
step-reached-requires c = (steady_on (sym c.loop-at.invariant.1) c.loop-at.invariant.0.steady, c.loop-at-test.true)

pub loop-at-smaller : goal.loop-at-smaller
loop-at-smaller c = omega (arith, c.step-reached.ensures.1, c.loop-at-test.true)

pub loop-at-preserved : goal.loop-at-preserved
loop-at-preserved c = (came_then c.loop-at.invariant.1 c.loop-at.invariant.0 c.step-reached.ensures.0, c.step-reached.auto.touched ∙ c.loop-at.invariant.1)

pub close-edges-requires : goal.close-edges-requires
close-edges-requires c = close_ready c.loop-at.invariant.0.steady

pub shape_of-par : goal.shape_of-par
shape_of-par c = omega (arith, c.loop-at.invariant.0.steady.tree.kept.mended.shape.times, c.requires.tree.kept.mended.shape.times)

pub shape_of-count : goal.shape_of-count
shape_of-count c = omega (arith, c.loop-at.invariant.0.steady.tree.kept.mended.shape.times, c.requires.tree.kept.mended.shape.times, c.loop-at.invariant.0.steady.tree.kept.mended.shape.counts, c.requires.tree.kept.mended.shape.counts)

pub shape_of-sum : goal.shape_of-sum
shape_of-sum c = omega (arith, c.loop-at.invariant.0.steady.tree.kept.mended.shape.times, c.requires.tree.kept.mended.shape.times, c.loop-at.invariant.0.steady.tree.kept.mended.shape.sums, c.requires.tree.kept.mended.shape.sums)

pub shape_of-low : goal.shape_of-low
shape_of-low c = omega (arith, c.loop-at.invariant.0.steady.tree.kept.mended.shape.times, c.requires.tree.kept.mended.shape.times, c.loop-at.invariant.0.steady.tree.kept.low.long, c.requires.tree.kept.low.long)

pub shape_of-up : goal.shape_of-up
shape_of-up c = omega (arith, c.loop-at.invariant.0.steady.tree.kept.mended.shape.times, c.requires.tree.kept.mended.shape.times, c.loop-at.invariant.0.steady.tree.kept.up.long, c.requires.tree.kept.up.long)

pub shape_of-touched : goal.shape_of-touched
shape_of-touched c = c.loop-at.invariant.1

pub shape_of-listed : goal.shape_of-listed
shape_of-listed c = omega (arith, c.loop-at.invariant.0.steady.marks_long, c.requires.marks_long)

pub shape_of-open_left : goal.shape_of-open_left
shape_of-open_left c = omega (arith, c.loop-at.invariant.0.steady.runs.left_long, c.requires.runs.left_long)

pub shape_of-open_par : goal.shape_of-open_par
shape_of-open_par c = omega (arith, c.loop-at.invariant.0.steady.runs.par_long, c.requires.runs.par_long)

pub shape_of-fl : goal.shape_of-fl
shape_of-fl c = c.close-edges.auto.fl ∙ c.loop-at.invariant.0.later.onward.lefts

pub shape_of-fr : goal.shape_of-fr
shape_of-fr c = c.close-edges.auto.fr ∙ c.loop-at.invariant.0.later.onward.rights

pub shape_of-fp : goal.shape_of-fp
shape_of-fp c = c.close-edges.auto.fp ∙ c.loop-at.invariant.0.later.onward.parents

pub shape_of-fc : goal.shape_of-fc
shape_of-fc c = c.close-edges.auto.fc ∙ c.loop-at.invariant.0.later.onward.children

pub shape_of-stood : goal.shape_of-stood
shape_of-stood c = omega (arith, c.close-edges.auto.stood, c.loop-at.invariant.0.steady.room.stood_long, c.requires.room.stood_long)

pub shape_of-mrow : goal.shape_of-mrow
shape_of-mrow c = c.loop-at.invariant.0.later.beyond.rows_long

pub shape_of-mlow : goal.shape_of-mlow
shape_of-mlow c = c.loop-at.invariant.0.later.beyond.lows_long

pub returns : goal.returns
returns c = done c.loop-at.invariant.0 c.loop-at-test.false c.close-edges.ensures
