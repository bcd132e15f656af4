-- rank_by meets its contract: all rows, sorted by their numbers and by themselves.
use mathlib.Core.Path.{◌∙◌}
use Rattle.order.specs.Tables.{own_rows}
use Rattle.order.specs.Ranks.{ranked_from}
use Rattle.order.proofs.ranks.rank_by.Goals as goal

pub sort_rows-requires : goal.sort_rows-requires
sort_rows-requires c = (record { second = c.iota.auto.idx ∙ c.requires.0; third = c.iota.auto.idx ∙ c.requires.0; fourth = c.iota.auto.idx ∙ c.requires.0 }, own_rows _ _ _ c.iota-2.ensures c.requires.1)

pub returns : goal.returns
returns c = ranked_from _ _ _ _ _ _ c.iota.ensures c.requires.0 c.iota-2.ensures c.requires.1 (c.sort_rows.auto.idx ∙ c.iota-2.auto.idx ∙ c.requires.1) c.sort_rows.ensures
