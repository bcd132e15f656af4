-- `mark_site` meets its contract: with the mutation rows that are left, the columns come to what they are to be.
use Rattle.meaning.specs.Columns.{mutations_in}
use Rattle.carrying.proofs.Marking.{Underway}
use Rattle.carrying.proofs.marks.mark_site.Given as goal

abbrev pub invariant-loop-j : goal.invariant-loop-j
invariant-loop-j l = Underway (mutations_in l.mutations) l.i l.t l.initial.own l.initial.told l.initial.state l.j l.own l.told l.state
