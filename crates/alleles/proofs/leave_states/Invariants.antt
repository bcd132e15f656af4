-- `leave_states` meets its contract: with the mutations that are left, the columns come to what they are to be.
use Rattle.meaning.specs.Columns.{mutations_in}
use Rattle.alleles.proofs.Filling.{Underway}
use Rattle.alleles.proofs.leave_states.Given as goal

abbrev pub invariant-loop-j : goal.invariant-loop-j
invariant-loop-j l = Underway (mutations_in l.mutations) l.i l.initial.has l.initial.state l.j l.has l.state
