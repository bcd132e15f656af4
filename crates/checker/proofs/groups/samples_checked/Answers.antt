-- `samples_checked` meets its contract: each way out is one rule.
use mathlib.Core.Path.{sym, ◌∙◌}
use Rattle.meaning.specs.Check.{sample_rules}
use Rattle.checker.proofs.Order.{row_found, row_none}
use Rattle.checker.proofs.groups.samples_checked.Goals as goal

pub returns-in-Some : goal.returns-in-Some
unfolding sample_rules
returns-in-Some c = sym (row_found _ _ _ _ _ c.in-Some.ensures)

pub returns-in-Some-first_twice : goal.returns-in-Some-first_twice
unfolding sample_rules
returns-in-Some-first_twice c = sym (row_none _ _ _ _ c.in_default.ensures ∙ row_found _ _ _ _ _ c.in-Some-first_twice.ensures)

pub returns : goal.returns
unfolding sample_rules
returns c = sym (row_none _ _ _ _ c.in_default.ensures ∙ row_none _ _ _ _ c.in_default-first_twice.ensures)
