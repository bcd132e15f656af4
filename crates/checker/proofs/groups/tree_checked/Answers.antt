-- `tree_checked` meets its contract: each way out is one rule, and rules 6 and 7 are asked of rows that rule 5 has passed.
use mathlib.Core.Path.{refl, sym, ◌∙◌}
use Rattle.meaning.specs.Check.{tree_rules}
use Rattle.checker.proofs.Order.{row_found, row_none, none_found}
use Rattle.checker.proofs.Rows.{named, somewhere}
use Rattle.checker.proofs.Handing.{refusal_hands, order_hands}
use native.Mathlib.Omega.{arith}
use Rattle.checker.proofs.groups.tree_checked.Goals as goal

pub returns-in-Some : goal.returns-in-Some
unfolding tree_rules
returns-in-Some c = (sym (row_found _ _ _ _ _ c.in-Some.ensures.0), refusal_hands _ _ _ _ _ _ refl)

pub returns-in-Some-first_broken_edge : goal.returns-in-Some-first_broken_edge
unfolding tree_rules
returns-in-Some-first_broken_edge c = (sym (row_none _ _ _ _ c.in_default.ensures.0 ∙ row_found _ _ _ _ _ c.in-Some-first_broken_edge.ensures), refusal_hands _ _ _ _ _ _ refl)

pub first_unordered-requires : goal.first_unordered-requires
first_unordered-requires c = named _ _ _ c.args.edges.even (none_found _ _ c.in_default-first_broken_edge.ensures) _

pub returns-in-Some-first_unordered : goal.returns-in-Some-first_unordered
unfolding tree_rules
returns-in-Some-first_unordered c = (sym (row_none _ _ _ _ c.in_default.ensures.0 ∙ row_none _ _ _ _ c.in_default-first_broken_edge.ensures ∙ row_found _ _ _ _ _ c.in-Some-first_unordered.ensures), refusal_hands _ _ _ _ _ _ refl)

pub first_shared-requires : goal.first_shared-requires
first_shared-requires c = (somewhere _ _ _ c.args.edges.even (none_found _ _ c.in_default-first_broken_edge.ensures), c.requires.0, omega (arith, c.requires.1))

pub returns-in-Some-first_shared : goal.returns-in-Some-first_shared
unfolding tree_rules
returns-in-Some-first_shared c = (sym (row_none _ _ _ _ c.in_default.ensures.0 ∙ row_none _ _ _ _ c.in_default-first_broken_edge.ensures ∙ row_none _ _ _ _ c.in_default-first_unordered.ensures ∙ row_found _ _ _ _ _ c.in-Some-first_shared.ensures.0), refusal_hands _ _ _ _ _ _ refl)

pub returns : goal.returns
unfolding tree_rules
returns c = (sym (row_none _ _ _ _ c.in_default.ensures.0 ∙ row_none _ _ _ _ c.in_default-first_broken_edge.ensures ∙ row_none _ _ _ _ c.in_default-first_unordered.ensures ∙ row_none _ _ _ _ c.in_default-first_shared.ensures.0), order_hands _ _ _ _ _ (c.in_default-first_shared.ensures.1 refl) c.first_repeated.ensures.1)
