-- `listing::put::Page::fields` meets its contract: the loop has written the numbers that it has passed. Assumes nothing.
use mathlib.Core.Path.{refl, ◌∙◌}
use lib.ListN.{length}
use Rattle.listing.specs.Written.{spaced}
use Rattle.listing.proofs.Going.{going_start, going_room, going_more, going_end}
use Rattle.listing.proofs.put.Page.fields.Goals as goal

pub loop-n-init : goal.loop-n-init
loop-n-init c = record { going = going_start (spaced c.args.ns.now) (length c.args.ns.now) c.args.self.now.len c.args.self.now.out.now c.requires; same = refl }

pub field-requires : goal.field-requires
field-requires c = going_room (spaced c.args.ns.now) (length c.args.ns.now) c.args.self.now.len c.args.self.now.out.now c.requires c.loop-n.invariant.going c.loop-n-test.true

pub loop-n-preserved : goal.loop-n-preserved
loop-n-preserved c = record { going = going_more (spaced c.args.ns.now) (length c.args.ns.now) c.args.self.now.len c.args.self.now.out.now c.requires c.loop-n.invariant.going c.loop-n-test.true c.field.ensures.wrote; same = c.field.ensures.same ∙ c.loop-n.invariant.same }

pub returns-clause-wrote : goal.returns-clause-wrote
returns-clause-wrote c = going_end (spaced c.args.ns.now) (length c.args.ns.now) c.args.self.now.len c.args.self.now.out.now c.requires c.loop-n.invariant.going c.loop-n-test.false
