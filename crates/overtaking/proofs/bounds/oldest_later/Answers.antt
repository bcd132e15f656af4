-- `oldest_later` meets its contract: the rows up to the site's last are met, or any time is no older than the answer.
use native.Mathlib.Omega.{arith}
use Rattle.meaning.specs.Words.{at}
use Rattle.overtaking.proofs.Bounding.{met_next, bounded_met}
use Rattle.overtaking.proofs.bounds.oldest_later.Goals as goal

pub loop-k-init : goal.loop-k-init
loop-k-init c = record { rows = λ j h l. absurd (omega arith) }

pub returns-then-mutations-k : goal.returns-then-mutations-k
returns-then-mutations-k c = bounded_met c.args.mutations.ordered.lined (omega arith) c.loop-k-test.true c.if-mutations-k.true c.loop-k.invariant

pub loop-k-preserved : goal.loop-k-preserved
loop-k-preserved c = met_next _ (omega arith) c.loop-k.invariant

pub returns-then-k-i-gt-MOST : goal.returns-then-k-i-gt-MOST
returns-then-k-i-gt-MOST c = record { later = λ j f. omega (arith, c.args.mutations.ordered.young (at c.args.mutations.node.now j)) }
