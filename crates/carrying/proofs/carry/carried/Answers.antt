-- `carried` meets its contract: what is found is told.
use mathlib.Core.Path.{refl}
use Rattle.carrying.proofs.Telling.{still_up, found_told}
use Rattle.carrying.proofs.carry.carried.Goals as goal

pub find-s-requires : goal.find-s-requires
find-s-requires c = (c.requires.0, c.requires.1, c.requires.2)

pub tell_up-requires : goal.tell_up-requires
tell_up-requires c = (still_up c.find-s.ensures.long refl refl c.requires.0, c.find-s.ensures.known, c.requires.2)

pub returns-clause-carried : goal.returns-clause-carried
returns-clause-carried c = found_told c.find-s.ensures.found c.tell_up.ensures.told
