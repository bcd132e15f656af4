-- `listing::tables::edges` meets its contract: the loop has written the rows that it has passed. Assumes nothing.
use mathlib.Core.Path.{refl, ◌∙◌}
use lib.ListN.{length}
use Rattle.meaning.specs.Columns.{lent_in}
use Rattle.meaning.specs.Printed.{edge_line}
use Rattle.listing.proofs.Going.{going_start, going_room, going_more, going_end}
use Rattle.listing.proofs.tables.edges.Goals as goal

pub loop-i-init : goal.loop-i-init
loop-i-init c = record { going = going_start (edge_line (lent_in c.args.lent).edges) (length c.args.lent.left.now) c.args.page.now.len c.args.page.now.out.now c.requires; same = refl }

pub edge-requires : goal.edge-requires
edge-requires c = going_room (edge_line (lent_in c.args.lent).edges) (length c.args.lent.left.now) c.args.page.now.len c.args.page.now.out.now c.requires c.loop-i.invariant.going c.loop-i-test.true

pub loop-i-preserved : goal.loop-i-preserved
loop-i-preserved c = record { going = going_more (edge_line (lent_in c.args.lent).edges) (length c.args.lent.left.now) c.args.page.now.len c.args.page.now.out.now c.requires c.loop-i.invariant.going c.loop-i-test.true c.edge.ensures.wrote; same = c.edge.ensures.same ∙ c.loop-i.invariant.same }

pub returns-clause-wrote : goal.returns-clause-wrote
returns-clause-wrote c = going_end (edge_line (lent_in c.args.lent).edges) (length c.args.lent.left.now) c.args.page.now.len c.args.page.now.out.now c.requires c.loop-i.invariant.going c.loop-i-test.false
