-- `large_batch` meets its contract: each way out is one table.
use mathlib.Core.Path.{sym, ◌∙◌}
use Rattle.rules.specs.Lengths.{table_of}
use Rattle.batches.specs.Lengths.{batch_large}
use Rattle.batches.proofs.lengths.large_batch.Goals as goal

pub returns-then-passes : goal.returns-then-passes
unfolding batch_large table_of
returns-then-passes c = simp (sym c.passes.ensures ∙ c.if-passes.true)

pub returns-then-passes-2 : goal.returns-then-passes-2
unfolding batch_large table_of
returns-then-passes-2 c = simp (sym c.passes.ensures ∙ c.if-passes.false, sym c.passes-2.ensures ∙ c.if-passes-2.true)

pub returns-then-passes-3 : goal.returns-then-passes-3
unfolding batch_large table_of
returns-then-passes-3 c = simp (sym c.passes.ensures ∙ c.if-passes.false, sym c.passes-2.ensures ∙ c.if-passes-2.false, sym c.passes-3.ensures ∙ c.if-passes-3.true)

pub returns : goal.returns
unfolding batch_large table_of
returns c = simp (sym c.passes.ensures ∙ c.if-passes.false, sym c.passes-2.ensures ∙ c.if-passes-2.false, sym c.passes-3.ensures ∙ c.if-passes-3.false)
