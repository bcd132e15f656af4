-- `words::number` meets its contract: each turn writes one row more.
use Rattle.words.proofs.Giving.{Given}
use Rattle.words.proofs.number.Given as goal

abbrev pub invariant-loop-i : goal.invariant-loop-i
invariant-loop-i l = Given (λ u. u) l.k l.n l.i l.initial.words l.words
