-- `gather_both` meets its contract: after i cells the front of out has the cells that the first i rows name.
use mathlib.Core.List.{◌++◌}
use Rattle.batches.proofs.Fronts.{Gathered}
use Rattle.batches.proofs.columns.gather_both.Given as goal

abbrev pub invariant-loop-i : goal.invariant-loop-i
invariant-loop-i g l = Gathered (l.a ++ l.b) l.idx l.initial.out l.out l.i
