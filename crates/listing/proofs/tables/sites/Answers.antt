-- `listing::tables::sites` meets its contract: the loop has written the rows that it has passed. Assumes nothing.
use mathlib.Core.Path.{refl, ◌∙◌}
use lib.ListN.{length}
use Rattle.meaning.specs.Columns.{lent_in}
use Rattle.meaning.specs.Printed.{site_line}
use Rattle.listing.proofs.Going.{going_start, going_room, going_more, going_end}
use Rattle.listing.proofs.tables.sites.Goals as goal

pub loop-i-init : goal.loop-i-init
loop-i-init c = record { going = going_start (site_line (lent_in c.args.lent).sites) (length c.args.lent.position.now) c.args.page.now.len c.args.page.now.out.now c.requires; same = refl }

pub site-requires : goal.site-requires
site-requires c = going_room (site_line (lent_in c.args.lent).sites) (length c.args.lent.position.now) c.args.page.now.len c.args.page.now.out.now c.requires c.loop-i.invariant.going c.loop-i-test.true

pub loop-i-preserved : goal.loop-i-preserved
loop-i-preserved c = record { going = going_more (site_line (lent_in c.args.lent).sites) (length c.args.lent.position.now) c.args.page.now.len c.args.page.now.out.now c.requires c.loop-i.invariant.going c.loop-i-test.true c.site.ensures.wrote; same = c.site.ensures.same ∙ c.loop-i.invariant.same }

pub returns-clause-wrote : goal.returns-clause-wrote
returns-clause-wrote c = going_end (site_line (lent_in c.args.lent).sites) (length c.args.lent.position.now) c.args.page.now.len c.args.page.now.out.now c.requires c.loop-i.invariant.going c.loop-i-test.false
