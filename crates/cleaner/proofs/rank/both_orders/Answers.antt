-- `cleaner::rank::both_orders` meets its contract: the rows by left, and by right with their help.
use mathlib.Core.Path.{sym, ◌∙◌}
use Rattle.order.specs.Tables.{own_inside, permuted_inside}
use native.Mathlib.Omega.{arith}
use Rattle.cleaner.proofs.rank.both_orders.Goals as goal

pub ranked_down-requires : goal.ranked_down-requires
ranked_down-requires c = (c.requires.0, c.requires.2, c.requires.1)

pub by_right-requires : goal.by_right-requires
by_right-requires c = (permuted_inside _ _ _ c.ranked_down.ensures.permuted (own_inside _ _ (omega arith)), c.ranked_down.auto.spare ∙ c.requires.1 ∙ sym c.args.edges.even.right_long, omega (arith, c.args.edges.even.right_long, c.requires.2))

pub returns : goal.returns
returns c = (c.ranked_down.ensures, c.by_right.ensures)
