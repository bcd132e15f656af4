-- `first_broken_mutation` meets its contract: no mutation before the one looked at is broken.
use Rattle.meaning.specs.Columns.{mutations_in}
use lib.ListN.{length}
use Rattle.meaning.specs.Check.{mutation_broken}
use Rattle.laws.specs.Counting.{Sought}
use Rattle.rules.proofs.mutations.first_broken_mutation.Given as goal

abbrev pub invariant-loop-i : goal.invariant-loop-i
invariant-loop-i l = Sought (mutation_broken l.sites l.nodes (mutations_in l.fn.mutations)) (length l.fn.mutations.site.now) l.i
