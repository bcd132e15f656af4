-- `check_all_lent` meets its contract: 1 and 2, then the number of samples, then 3 to 12.
use mathlib.Core.Path.{refl, sym, ap, ◌∙◌}
use Rattle.std.specs.Prelude.{Ok, Err}
use Rattle.laws.specs.Passing.{passed_on}
use Rattle.meaning.specs.Answer.{checked_of}
use Rattle.checker.proofs.Whole.{lengths_refused, samples_many, lent_sized, lent_all}
use Rattle.checker.proofs.Handing.{refusal_hands}
use Rattle.checker.proofs.check_all_lent.Goals as goal

pub returns-in_err-tables : goal.returns-in_err-tables
returns-in_err-tables c = let q : _ = passed_on c.from_residual.ensures.1 in
    (ap checked_of q ∙ lengths_refused _ _ _ _ (Err _) c.in_err-tables.ensures _ refl, refusal_hands _ _ _ _ _ _ q)

pub returns-then-samples-gt-MOST : goal.returns-then-samples-gt-MOST
returns-then-samples-gt-MOST c = (samples_many _ _ _ _ (Ok tt) (sym c.in_ok-tables.ensures.0) refl c.if-samples-gt-MOST.true, refusal_hands _ _ _ _ _ _ refl)

pub all_rules_checked-requires : goal.all_rules_checked-requires
all_rules_checked-requires c = (lent_sized c.args.lent c.in_ok-tables.tables c.in_ok-tables.ensures, c.if-samples-gt-MOST.false, c.requires.0, c.requires.1)

pub returns : goal.returns
returns c = lent_all c.args.lent c.in_ok-tables.tables c.in_ok-tables.ensures _ _ _ _ _ c.if-samples-gt-MOST.false c.all_rules_checked.ensures
