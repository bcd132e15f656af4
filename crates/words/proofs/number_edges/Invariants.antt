-- `words::number_edges` meets its contract: each turn writes one row more.
use Rattle.words.proofs.Giving.{GivenEdges}
use Rattle.words.proofs.number_edges.Given as goal

abbrev pub invariant-loop-e : goal.invariant-loop-e
invariant-loop-e l = GivenEdges (λ e. e) l.k l.n l.m l.e l.initial.words l.words
