-- `check_lent` meets its contract: 1 and 2, then 3 to 10.
use mathlib.Core.Path.{refl, ap, ◌∙◌}
use Rattle.std.specs.Prelude.{Err}
use Rattle.laws.specs.Passing.{passed_on}
use Rattle.meaning.specs.Answer.{checked_of}
use Rattle.checker.proofs.Whole.{table_refused, lent_sized, lent_rules}
use Rattle.checker.proofs.Handing.{refusal_hands}
use Rattle.checker.proofs.check_lent.Goals as goal

pub rules_checked-requires : goal.rules_checked-requires
rules_checked-requires c = (lent_sized c.args.lent c.in_ok-tables.tables c.in_ok-tables.ensures, c.requires.0, c.requires.1)

pub returns-in_err-tables : goal.returns-in_err-tables
returns-in_err-tables c = let q : _ = passed_on c.from_residual.ensures.1 in
    (ap checked_of q ∙ table_refused _ _ _ (Err _) c.in_err-tables.ensures _ refl, refusal_hands _ _ _ _ _ _ q)

pub returns : goal.returns
returns c = lent_rules c.args.lent c.in_ok-tables.tables c.in_ok-tables.ensures _ _ _ _ c.rules_checked.ensures
