-- `some_related` meets its contract: of the rows below k, no two up to place p are related.
use Prim.Native.Nat.{◌-◌}
use lib.ListN.{length}
use Rattle.rules.proofs.Neighbours.{Passed}
use Rattle.rules.proofs.lined.some_related.Given as goal

abbrev pub invariant-loop-p : goal.invariant-loop-p
invariant-loop-p g l = Passed (g.R.Relation.relates l.rows) (g.R.Relation.many l.rows) l.idx l.k l.p

abbrev pub decreases-loop-p : goal.decreases-loop-p
decreases-loop-p g l = length l.idx - l.p
