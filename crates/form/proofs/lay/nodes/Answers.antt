-- `form::lay::nodes` meets its contract: the loop has laid the records that it has passed. Assumes nothing.
use mathlib.Core.Path.{refl}
use mathlib.Core.List.{[], ◌∷◌}
use lib.ListN.{length}
use Rattle.meaning.specs.Answer.{stored_limits}
use Rattle.meaning.specs.Stored.{ND, size, total, record_at, fields_at}
use Rattle.form.proofs.Laying.{laid_start, laid_room, laid_more, laid_end}
use native.Mathlib.Omega.{arith}
use Rattle.form.proofs.lay.nodes.Goals as goal

pub loop-i-init : goal.loop-i-init
loop-i-init c = laid_start (ND stored_limits) (c.args.ages.time.now ∷ c.args.ages.birth.now ∷ []) c.args.start 10 (length c.args.ages.time.now) c.args.out.now

pub node_row-requires : goal.node_row-requires
node_row-requires c = (omega (arith, laid_room (ND stored_limits) (c.args.ages.time.now ∷ c.args.ages.birth.now ∷ []) c.args.start 10 (length c.args.ages.time.now) c.args.out.now c.loop-i.out c.loop-i.at c.loop-i.i c.loop-i.invariant c.requires c.loop-i-test.true, c.loop-i.invariant.same), c.loop-i-test.true)

pub overflow_add-at : goal.overflow_add-at
overflow_add-at c = omega (arith, laid_room (ND stored_limits) (c.args.ages.time.now ∷ c.args.ages.birth.now ∷ []) c.args.start 10 (length c.args.ages.time.now) c.args.out.now c.loop-i.out c.loop-i.at c.loop-i.i c.loop-i.invariant c.requires c.loop-i-test.true)

pub loop-i-preserved : goal.loop-i-preserved
unfolding size total record_at fields_at
loop-i-preserved c = laid_more (ND stored_limits) (c.args.ages.time.now ∷ c.args.ages.birth.now ∷ []) c.args.start 10 (length c.args.ages.time.now) c.args.out.now c.loop-i.out c.loop-i.at c.loop-i.i _ refl refl c.requires c.loop-i.invariant c.loop-i-test.true c.node_row.ensures

pub shape_of-out : goal.shape_of-out
shape_of-out c = c.loop-i.invariant.same

pub returns : goal.returns
returns c = laid_end (ND stored_limits) (c.args.ages.time.now ∷ c.args.ages.birth.now ∷ []) c.args.start 10 (length c.args.ages.time.now) c.args.out.now c.loop-i.out c.loop-i.at c.loop-i.i c.loop-i.invariant c.loop-i-test.false
