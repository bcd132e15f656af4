-- `overtaking::least_row_above` meets its contract: no site has two mutations, or the edges are put by child.
use mathlib.Core.Path.{sym, ◌∙◌}
use Rattle.overtaking.proofs.OlderFirst.{no_row_overtaken}
use Rattle.overtaking.proofs.least_row_above.Goals as goal

pub returns-then-not-some_younger_first : goal.returns-then-not-some_younger_first
returns-then-not-some_younger_first c = no_row_overtaken _ c.args.mutations.ordered.lined (sym c.some_younger_first.ensures ∙ c.if-not-some_younger_first.true) _ c.requires.2 c.args.mutations.ordered.young _
