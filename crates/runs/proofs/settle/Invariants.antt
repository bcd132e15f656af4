-- `runs::settle` meets its contract: the rows touched are dealt with one by one.
use lib.ListN.{length}
use Rattle.runs.specs.Promises.{Bared}
use Rattle.runs.proofs.Changing.{Underway}
use Rattle.runs.proofs.settle.Given as goal

abbrev pub invariant-loop-i : goal.invariant-loop-i
invariant-loop-i l = Underway l.x l.up l.touched (record { left = l.initial.open_left; par = l.initial.open_par }) (record { left = l.initial.fl; right = l.initial.fr; parent = l.initial.fp; child = l.initial.fc; stood = l.initial.stood; count = l.count }) l.i (record { left = l.open_left; par = l.open_par }) (record { left = l.fl; right = l.fr; parent = l.fp; child = l.fc; stood = l.stood; count = l.made }) × Bared (length l.up) l.touched l.i l.initial.listed l.listed
