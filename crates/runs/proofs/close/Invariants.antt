-- `runs::close` meets its contract: the open runs are finished row by row.
use Rattle.runs.proofs.Closing.{Closing}
use Rattle.runs.proofs.close.Given as goal

abbrev pub invariant-loop-c : goal.invariant-loop-c
invariant-loop-c l = Closing l.len (record { left = l.open_left; par = l.open_par }) (record { left = l.initial.fl; right = l.initial.fr; parent = l.initial.fp; child = l.initial.fc; stood = l.initial.stood; count = l.count }) l.c (record { left = l.fl; right = l.fr; parent = l.fp; child = l.fc; stood = l.stood; count = l.made })
