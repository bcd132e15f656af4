-- `all_rules_checked` meets its contract: 3 to 10, then 11 and 12, with the nodes by birth in the front of the lent column.
use Rattle.std.proofs.Common.{sym, ap, ◌∙◌}
use Rattle.laws.specs.Passing.{passed_on}
use Rattle.meaning.specs.Answer.{checked_of}
use Rattle.checker.proofs.Whole.{rules_refused, samples_last}
use Rattle.checker.proofs.Handing.{refusal_hands, order_hands}
use Rattle.checker.proofs.all_rules_checked.Goals as goal

pub returns-in_err-rules_checked : goal.returns-in_err-rules_checked
returns-in_err-rules_checked c = let q : _ = passed_on c.from_residual.ensures.1 in
    (ap checked_of (q ∙ sym c.in_err-rules_checked.was) ∙ rules_refused _ _ _ _ c.rules_checked.ensures.0 _ c.in_err-rules_checked.was, refusal_hands _ _ _ _ _ _ q)

pub returns : goal.returns
returns c = (samples_last _ _ _ _ c.rules_checked.ensures.0 c.in_ok-rules_checked.was c.samples_checked.result c.samples_checked.ensures, order_hands _ _ _ _ _ (c.rules_checked.ensures.1.order c.in_ok-rules_checked.was) (c.rules_checked.ensures.1.births c.in_ok-rules_checked.was))
