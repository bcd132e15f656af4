-- `lengths_checked` meets its contract: the table that the lengths give is refused, where they give one.
use mathlib.Core.Path.{sym, ◌∙◌}
use Rattle.rules.proofs.ByLengths.{told_table, no_table}
use Rattle.batches.proofs.whole.lengths_checked.Goals as goal

pub returns-in-Some : goal.returns-in-Some
returns-in-Some c = sym (told_table _ _ _ _ (sym c.in-Some.is ∙ c.ragged_batch.ensures))

pub returns-in-Some-large_batch : goal.returns-in-Some-large_batch
returns-in-Some-large_batch c = sym (no_table _ _ _ (sym c.in_default.is ∙ c.ragged_batch.ensures) ∙ told_table _ _ _ _ (sym c.in-Some-large_batch.is ∙ c.large_batch.ensures))

pub returns : goal.returns
returns c = sym (no_table _ _ _ (sym c.in_default.is ∙ c.ragged_batch.ensures) ∙ no_table _ _ _ (sym c.in_default-large_batch.is ∙ c.large_batch.ensures))
