-- `writing::gather` meets its contract: the cells at the first i rows stand at the front.
use lib.ListN.{take}
use Rattle.writing.proofs.Filling.{Gathered}
use Rattle.writing.proofs.gather.Given as goal

abbrev pub invariant-loop-i : goal.invariant-loop-i
invariant-loop-i g l = Gathered l.src (take l.k l.rows) l.initial.out l.out l.i
