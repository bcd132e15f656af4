-- `listing::tables::mapping` meets its contract: the loop has written the rows that it has passed. Assumes nothing.
use mathlib.Core.Path.{refl, ◌∙◌}
use lib.ListN.{length}
use Rattle.meaning.specs.Printed.{map_line}
use Rattle.listing.proofs.Going.{going_start, going_room, going_more, going_end}
use Rattle.listing.proofs.tables.mapping.Goals as goal

pub loop-i-init : goal.loop-i-init
loop-i-init c = record { going = going_start (map_line c.args.map.now) (length c.args.map.now) c.args.page.now.len c.args.page.now.out.now c.requires; same = refl }

pub mapped-requires : goal.mapped-requires
mapped-requires c = going_room (map_line c.args.map.now) (length c.args.map.now) c.args.page.now.len c.args.page.now.out.now c.requires c.loop-i.invariant.going c.loop-i-test.true

pub loop-i-preserved : goal.loop-i-preserved
loop-i-preserved c = record { going = going_more (map_line c.args.map.now) (length c.args.map.now) c.args.page.now.len c.args.page.now.out.now c.requires c.loop-i.invariant.going c.loop-i-test.true c.mapped.ensures.wrote; same = c.mapped.ensures.same ∙ c.loop-i.invariant.same }

pub returns-clause-wrote : goal.returns-clause-wrote
returns-clause-wrote c = going_end (map_line c.args.map.now) (length c.args.map.now) c.args.page.now.len c.args.page.now.out.now c.requires c.loop-i.invariant.going c.loop-i-test.false
