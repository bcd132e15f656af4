-- `form::lay::sites` meets its contract: the loop has laid the records that it has passed. Assumes nothing.
use mathlib.Core.Path.{refl}
use mathlib.Core.List.{[], ◌∷◌}
use lib.ListN.{length}
use Rattle.meaning.specs.Answer.{stored_limits}
use Rattle.meaning.specs.Stored.{Si, size, total, record_at, fields_at}
use Rattle.form.proofs.Laying.{laid_start, laid_room, laid_more, laid_end}
use native.Mathlib.Omega.{arith}
use Rattle.form.proofs.lay.sites.Goals as goal

pub loop-i-init : goal.loop-i-init
loop-i-init c = laid_start (Si stored_limits) (c.args.sites.position.now ∷ c.args.sites.ancestral.now ∷ []) c.args.start 7 (length c.args.sites.position.now) c.args.out.now

pub site_row-requires : goal.site_row-requires
site_row-requires c = (omega (arith, laid_room (Si stored_limits) (c.args.sites.position.now ∷ c.args.sites.ancestral.now ∷ []) c.args.start 7 (length c.args.sites.position.now) c.args.out.now c.loop-i.out c.loop-i.at c.loop-i.i c.loop-i.invariant c.requires c.loop-i-test.true, c.loop-i.invariant.same), c.loop-i-test.true)

pub overflow_add-at : goal.overflow_add-at
overflow_add-at c = omega (arith, laid_room (Si stored_limits) (c.args.sites.position.now ∷ c.args.sites.ancestral.now ∷ []) c.args.start 7 (length c.args.sites.position.now) c.args.out.now c.loop-i.out c.loop-i.at c.loop-i.i c.loop-i.invariant c.requires c.loop-i-test.true)

pub loop-i-preserved : goal.loop-i-preserved
unfolding size total record_at fields_at
loop-i-preserved c = laid_more (Si stored_limits) (c.args.sites.position.now ∷ c.args.sites.ancestral.now ∷ []) c.args.start 7 (length c.args.sites.position.now) c.args.out.now c.loop-i.out c.loop-i.at c.loop-i.i _ refl refl c.requires c.loop-i.invariant c.loop-i-test.true c.site_row.ensures

pub shape_of-out : goal.shape_of-out
shape_of-out c = c.loop-i.invariant.same

pub returns : goal.returns
returns c = laid_end (Si stored_limits) (c.args.sites.position.now ∷ c.args.sites.ancestral.now ∷ []) c.args.start 7 (length c.args.sites.position.now) c.args.out.now c.loop-i.out c.loop-i.at c.loop-i.i c.loop-i.invariant c.loop-i-test.false
