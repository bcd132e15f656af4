-- `block::scatter` meets its contract: one cell after another, each in a row of its own.
use native.Mathlib.Omega.{arith}
use Rattle.blocks.proofs.Scattering.{none_scattered, one_more, all_scattered, cell_inside, row_inside}
use Rattle.blocks.proofs.block.scatter.Goals as goal

pub loop-a-init : goal.loop-a-init
loop-a-init c = (omega arith, none_scattered _ _ _ _ _)

pub overflow_add-block : goal.overflow_add-block
overflow_add-block c = omega (arith, row_inside _ _ _ _ _ _ c.requires.1 c.requires.2 c.loop-a-test.true)

pub overflow_mul-block : goal.overflow_mul-block
overflow_mul-block c = omega (arith, cell_inside _ _ _ _ _ _ c.requires.1 c.requires.2 c.loop-a-test.true)

pub overflow_add-block-in-loop-a : goal.overflow_add-block-in-loop-a
overflow_add-block-in-loop-a c = omega (arith, cell_inside _ _ _ _ _ _ c.requires.1 c.requires.2 c.loop-a-test.true)

pub bounds-block-base : goal.bounds-block-base
bounds-block-base c = omega (arith, cell_inside _ _ _ _ _ _ c.requires.1 c.requires.2 c.loop-a-test.true, c.loop-a.invariant.1.long)

pub loop-a-preserved : goal.loop-a-preserved
loop-a-preserved c = (omega (arith, c.loop-a-test.true), one_more _ _ _ _ _ _ _ c.requires.1 (omega (arith, cell_inside _ _ _ _ _ _ c.requires.1 c.requires.2 c.loop-a-test.true, c.loop-a.invariant.1.long)) c.loop-a.invariant.1)

pub returns : goal.returns
returns c = all_scattered _ _ _ _ _ _ _ _ c.loop-a.invariant.0 c.loop-a-test.false c.loop-a.invariant.1
