-- `overtakes` meets its contract: the row's own stamp is looked at before its ancestors are stamped.
use Rattle.overtaking.proofs.Ready.{own_stamp}
use Rattle.overtaking.proofs.stamps.overtakes.Goals as goal

pub returns-clause-answer : goal.returns-clause-answer
returns-clause-answer c = own_stamp c.args.mutations.ordered c.requires.2 c.requires.1
