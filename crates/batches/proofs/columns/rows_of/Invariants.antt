-- `rows_of` meets its contract: after i cells the front of out has the rows of the first i births.
use mathlib.Core.List.{◌++◌}
use Rattle.batches.specs.Joint.{rows_in}
use Rattle.batches.proofs.Fronts.{Front}
use Rattle.batches.proofs.columns.rows_of.Given as goal

abbrev pub invariant-loop-i : goal.invariant-loop-i
invariant-loop-i l = Front (rows_in (l.fn.nodes.base.ages.birth.now ++ l.fn.nodes.batch.ages.birth.now) l.names) l.initial.out l.i l.out
