-- `block::scatter` meets its contract: one cell after another, each in a row of its own.
use Prim.Native.Nat.{◌≤◌}
use Rattle.blocks.specs.Block.{Scattered}
use Rattle.blocks.proofs.block.scatter.Given as goal

abbrev pub invariant-loop-a : goal.invariant-loop-a
invariant-loop-a l = (l.a ≤ l.k) × Scattered l.sites l.base l.a l.j l.column l.initial.block l.block
