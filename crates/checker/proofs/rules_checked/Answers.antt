-- `rules_checked` meets its contract: 3, then 4 to 7, then 8 to 10, with the two orders in the fronts of the lent columns.
use Rattle.std.proofs.Common.{sym, ap, ◌∙◌}
use Rattle.laws.specs.Passing.{passed_on}
use Rattle.meaning.specs.Answer.{checked_of}
use mathlib.Core.Path.{refl}
use Rattle.checker.proofs.Whole.{length_refused, trees_refused, trees_found, sites_last}
use Rattle.checker.proofs.Handing.{refusal_hands, order_hands, front_order, front_ranked}
use Rattle.checker.proofs.rules_checked.Goals as goal

pub returns-then-length_broken : goal.returns-then-length_broken
returns-then-length_broken c = (length_refused _ _ (sym c.length_broken.ensures ∙ c.if-length_broken.true), refusal_hands _ _ _ _ _ _ refl)

pub sites_checked-requires : goal.sites_checked-requires
sites_checked-requires c = (c.requires.0, trees_found _ _ _ _ c.tree_checked.ensures.0 c.in_ok-tree_checked.was, front_order _ _ _ (c.tree_checked.ensures.1.order c.in_ok-tree_checked.was))

pub returns-in_err-tree_checked : goal.returns-in_err-tree_checked
returns-in_err-tree_checked c = let q : _ = passed_on c.from_residual.ensures.1 in
    (ap checked_of (q ∙ sym c.in_err-tree_checked.was) ∙ trees_refused _ _ (sym c.length_broken.ensures ∙ c.if-length_broken.false) _ c.tree_checked.ensures.0 _ c.in_err-tree_checked.was, refusal_hands _ _ _ _ _ _ q)

pub returns : goal.returns
returns c = (sites_last _ _ (sym c.length_broken.ensures ∙ c.if-length_broken.false) _ c.tree_checked.ensures.0 c.in_ok-tree_checked.was c.sites_checked.result c.sites_checked.ensures, order_hands _ _ _ _ _ (front_order _ _ _ (c.tree_checked.ensures.1.order c.in_ok-tree_checked.was)) (front_ranked _ _ _ (c.tree_checked.ensures.1.births c.in_ok-tree_checked.was)))
