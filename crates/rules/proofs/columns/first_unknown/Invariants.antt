-- `first_unknown` meets its contract: every sample before the one looked at names a node.
use lib.ListN.{length}
use Rattle.meaning.specs.Check.{sample_unknown}
use Rattle.laws.specs.Counting.{Sought}
use Rattle.rules.proofs.columns.first_unknown.Given as goal

abbrev pub invariant-loop-i : goal.invariant-loop-i
invariant-loop-i l = Sought (sample_unknown l.birth l.samples) (length l.samples) l.i
