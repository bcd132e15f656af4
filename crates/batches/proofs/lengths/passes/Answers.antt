-- `passes` meets its contract: the sum is not formed, so it cannot wrap.
use mathlib.Core.Path.{◌∙◌}
use borrow.Author.Tests.{lt-ltb}
use Rattle.batches.proofs.Tests.{sum_passes, sum_differs}
use Rattle.batches.proofs.lengths.passes.Goals as goal

pub returns-then-most-a : goal.returns-then-most-a
returns-then-most-a c = lt-ltb c.args.most c.args.a c.if-most-a.true ∙ sum_passes c.args.most c.args.a c.args.b c.if-most-a.true

pub returns-else-most-a : goal.returns-else-most-a
returns-else-most-a c = sum_differs _ _ _ c.if-most-a.false
