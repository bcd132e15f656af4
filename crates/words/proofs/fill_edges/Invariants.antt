-- `words::fill_edges` meets its contract: each turn writes one row more.
use Rattle.words.proofs.Giving.{GivenEdges}
use Rattle.words.proofs.fill_edges.Given as goal

abbrev pub invariant-loop-e : goal.invariant-loop-e
invariant-loop-e l = GivenEdges (λ e. l.v) l.k l.n l.m l.e l.initial.words l.words
