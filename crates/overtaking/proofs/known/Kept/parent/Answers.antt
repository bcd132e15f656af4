-- `Kept::parent` meets its contract: the answer that is kept still holds, or a new one is kept with its end.
use Rattle.overtaking.proofs.Knowing.{known_stretch}
use Rattle.overtaking.proofs.known.Kept.parent.Goals as goal

pub returns-clause-known : goal.returns-clause-known
returns-clause-known c = (known_stretch _ _ _ c.parent_from-s.ensures c.requires.2 c.args.self.now.even c.requires.1).1
