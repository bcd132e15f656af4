-- `first_lined` meets its contract: the lowest row lies from low on, up to high.
use Prim.Native.Nat.{◌≤◌, ◌-◌}
use Rattle.meaning.specs.Words.{lowest}
use Rattle.rules.specs.Lined.{related}
use Rattle.rules.proofs.lined.first_lined.Given as goal

abbrev pub invariant-loop-low : goal.invariant-loop-low
invariant-loop-low g l =
    (l.low ≤ lowest (related (g.R.Relation.relates l.rows)) (g.R.Relation.many l.rows))
    × (lowest (related (g.R.Relation.relates l.rows)) (g.R.Relation.many l.rows) ≤ l.high)
    × (l.high ≤ g.R.Relation.many l.rows)

abbrev pub decreases-loop-low : goal.decreases-loop-low
decreases-loop-low g l = l.high - l.low
