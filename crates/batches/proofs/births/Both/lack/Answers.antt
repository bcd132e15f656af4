-- `lack` meets its contract: the base is looked at first, then the batch.
use mathlib.Core.Path.{sym, ap, ◌∙◌}
use mathlib.Core.Bool.{not}
use Rattle.batches.proofs.Tests.{in_base, not_in_base}
use Rattle.batches.proofs.births.Both.lack.Goals as goal

pub returns-then-have : goal.returns-then-have
returns-then-have c = in_base _ _ _ (sym c.have.ensures ∙ c.if-have.true)

pub returns : goal.returns
returns c = ap not c.have-2.ensures ∙ not_in_base _ _ _ (sym c.have.ensures ∙ c.if-have.false)
