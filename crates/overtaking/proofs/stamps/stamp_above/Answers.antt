-- `stamp_above` meets its contract: by the one branch the next row has another site, by the other the ancestors are stamped.
use mathlib.Core.Path.{sym, ◌∙◌}
use Rattle.overtaking.proofs.Ready.{going_ends, going_more}
use Rattle.overtaking.proofs.stamps.stamp_above.Goals as goal

pub returns-then-ends_site-clause-gone : goal.returns-then-ends_site-clause-gone
returns-then-ends_site-clause-gone c = going_ends c.args.mutations.ordered c.requires.2 (sym c.ends_site.ensures ∙ c.if-ends_site.true)

pub returns-clause-gone : goal.returns-clause-gone
returns-clause-gone c = going_more c.args.mutations.ordered c.requires.2 (sym c.ends_site.ensures ∙ c.if-ends_site.false) c.oldest_later.ensures c.stamp_up.ensures.stamped c.stamp_up.ensures.known
