-- `line_up` meets its contract: all edges, sorted by (child, left).
use mathlib.Core.Path.{sym, ◌∙◌}
use Rattle.order.specs.Tables.{own_rows}
use Rattle.rules.proofs.Sorting.{edges_lined, edges_ascend, edge_keys}
use Rattle.rules.proofs.shared.line_up.Goals as goal

pub sort_two-requires : goal.sort_two-requires
sort_two-requires c = (edge_keys _ c.args.edges.even, own_rows _ _ _ c.iota.ensures (c.requires.1 ∙ sym c.args.edges.even.child_long))

pub returns : goal.returns
returns c = (edges_lined _ _ _ _ c.requires.0 c.iota.ensures c.requires.1 (c.sort_two.auto.idx ∙ c.iota.auto.idx ∙ c.requires.1) c.sort_two.ensures, edges_ascend _ _ _ c.sort_two.ensures)
