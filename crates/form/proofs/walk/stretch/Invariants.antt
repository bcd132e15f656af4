-- `form::walk::stretch` meets its contract: the loop counts the whole records that it has passed. Assumes nothing.
use Rattle.meaning.specs.Words.{at}
use Rattle.form.proofs.Walking.{Counting}
use Rattle.form.proofs.walk.stretch.Given as goal

abbrev pub invariant-loop-count : goal.invariant-loop-count
invariant-loop-count l = Counting (at l.k.mark 0) (at l.k.mark 1) l.k.size l.k.most l.s l.start l.count l.end
