-- known meets its contract: a number has a place where some row has it.
use mathlib.Core.Path.{◌∙◌}
use Rattle.order.specs.Ranks.{place_known}
use Rattle.order.proofs.ranks.known.Goals as goal

pub returns : goal.returns
returns c = c.is_some.ensures ∙ place_known c.args.b c.args.l.now c.row_of.result c.row_of.ensures
