-- rank meets its contract: a stable sort of the rows by their numbers, or for few rows a sort by numbers and rows.
use mathlib.Core.Path.{◌∙◌}
use native.Mathlib.Omega.{arith}
use Rattle.order.specs.Tables.{own_rows}
use Rattle.order.specs.Ranks.{ranked_stable}
use Rattle.order.proofs.ranks.rank.Goals as goal

pub one_key-requires : goal.one_key-requires
one_key-requires c = (own_rows _ _ _ c.iota.ensures c.requires.0, omega (arith, c.iota.auto.idx, c.requires.0, c.requires.1))

pub returns-then-digits_pay : goal.returns-then-digits_pay
returns-then-digits_pay c = ranked_stable _ _ _ _ c.iota.ensures c.requires.0 (c.one_key.auto.idx ∙ c.iota.auto.idx ∙ c.requires.0) c.one_key.ensures

pub rank_with-requires : goal.rank_with-requires
rank_with-requires c = (omega (arith, c.digits_pay.ensures.1 c.if-digits_pay.false c.requires.1), c.requires.0, c.requires.1)
