-- `listing::tables::mutations` meets its contract: the loop has written the rows that it has passed. Assumes nothing.
use mathlib.Core.Path.{refl, ◌∙◌}
use lib.ListN.{length}
use Rattle.meaning.specs.Columns.{lent_in}
use Rattle.meaning.specs.Printed.{mutation_line}
use Rattle.listing.proofs.Going.{going_start, going_room, going_more, going_end}
use Rattle.listing.proofs.tables.mutations.Goals as goal

pub loop-i-init : goal.loop-i-init
loop-i-init c = record { going = going_start (mutation_line (lent_in c.args.lent).muts) (length c.args.lent.site.now) c.args.page.now.len c.args.page.now.out.now c.requires; same = refl }

pub mutation-requires : goal.mutation-requires
mutation-requires c = going_room (mutation_line (lent_in c.args.lent).muts) (length c.args.lent.site.now) c.args.page.now.len c.args.page.now.out.now c.requires c.loop-i.invariant.going c.loop-i-test.true

pub loop-i-preserved : goal.loop-i-preserved
loop-i-preserved c = record { going = going_more (mutation_line (lent_in c.args.lent).muts) (length c.args.lent.site.now) c.args.page.now.len c.args.page.now.out.now c.requires c.loop-i.invariant.going c.loop-i-test.true c.mutation.ensures.wrote; same = c.mutation.ensures.same ∙ c.loop-i.invariant.same }

pub returns-clause-wrote : goal.returns-clause-wrote
returns-clause-wrote c = going_end (mutation_line (lent_in c.args.lent).muts) (length c.args.lent.site.now) c.args.page.now.len c.args.page.now.out.now c.requires c.loop-i.invariant.going c.loop-i-test.false
