-- `words::number_edges_down` meets its contract: each turn writes one row more.
use Prim.Native.Nat.{◌+◌, ◌-◌}
use Rattle.words.proofs.Giving.{GivenEdges}
use Rattle.words.proofs.number_edges_down.Given as goal

abbrev pub invariant-loop-e : goal.invariant-loop-e
invariant-loop-e l = GivenEdges (λ e. l.m - (e + 1)) l.k l.n l.m l.e l.initial.words l.words
