-- `leave_state` meets its contract.
use mathlib.Core.Path.{refl}
use Rattle.carrying.proofs.marks.leave_state.Goals as goal

pub bounds-own-v : goal.bounds-own-v
bounds-own-v c = c.requires.0

pub bounds-told-v : goal.bounds-told-v
bounds-told-v c = c.requires.1

pub bounds-state-v : goal.bounds-state-v
bounds-state-v c = c.requires.2

pub returns : goal.returns
returns c = (refl, refl, refl)
