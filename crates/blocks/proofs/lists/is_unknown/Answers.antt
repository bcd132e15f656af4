-- `lists::is_unknown` meets its contract.
use mathlib.Core.Path.{ap}
use mathlib.Core.Bool.{not}
use Rattle.blocks.proofs.lists.is_unknown.Goals as goal

pub known-requires : goal.known-requires
known-requires c = record { ranked = λ e. c.requires }

pub returns : goal.returns
returns c = ap not c.known.ensures
