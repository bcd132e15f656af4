-- `first_batch_mutation` meets its contract: no mutation before the one looked at is broken.
use mathlib.Core.Path.{sym, ◌∙◌}
use native.Mathlib.Omega.{arith}
use Rattle.laws.specs.Counting.{sought_start, sought_miss, lowest_hit, lowest_missed}
use Rattle.batches.proofs.mutations.first_batch_mutation.Goals as goal

pub loop-i-init : goal.loop-i-init
loop-i-init c = λ derived. sought_start _ _

pub returns-then-batch_mutation_at : goal.returns-then-batch_mutation_at
returns-then-batch_mutation_at c = λ derived. lowest_hit _ _ _ c.loop-i-test.true (c.loop-i.invariant derived) (sym (c.batch_mutation_at.ensures derived) ∙ c.if-batch_mutation_at.true)

pub loop-i-preserved : goal.loop-i-preserved
loop-i-preserved c = λ derived. sought_miss _ _ _ c.loop-i-test.true (c.loop-i.invariant derived) (sym (c.batch_mutation_at.ensures derived) ∙ c.if-batch_mutation_at.false)

pub returns : goal.returns
returns c = λ derived. lowest_missed _ _ _ (omega arith) c.loop-i-test.false (c.loop-i.invariant derived)
