-- `keeping::is_other` meets its contract: the second mark is looked at where the first is 1.
use Rattle.keeping.proofs.Collecting.{other_yes, other_no}
use Rattle.keeping.proofs.is_other.Goals as goal

pub returns-then-stood-u-eq1 : goal.returns-then-stood-u-eq1
returns-then-stood-u-eq1 c = other_yes c.args.stood.now c.args.sample.now c.args.u c.if-stood-u-eq1.true

pub returns : goal.returns
returns c = other_no c.args.stood.now c.args.sample.now c.args.u c.if-stood-u-eq1.false
