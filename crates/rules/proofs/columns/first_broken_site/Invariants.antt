-- `first_broken_site` meets its contract: no site before the one looked at is broken.
use lib.ListN.{length}
use Rattle.meaning.specs.Check.{site_broken}
use Rattle.laws.specs.Counting.{Sought}
use Rattle.rules.proofs.columns.first_broken_site.Given as goal

abbrev pub invariant-loop-i : goal.invariant-loop-i
invariant-loop-i l = Sought (site_broken l.len l.position) (length l.position) l.i
