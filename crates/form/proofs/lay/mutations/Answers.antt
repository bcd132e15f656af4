-- `form::lay::mutations` meets its contract: the loop has laid the records that it has passed. Assumes nothing.
use mathlib.Core.Path.{refl}
use mathlib.Core.List.{[], ◌∷◌}
use lib.ListN.{length}
use Rattle.meaning.specs.Answer.{stored_limits}
use Rattle.meaning.specs.Stored.{MU, size, total, record_at, fields_at}
use Rattle.form.proofs.Laying.{laid_start, laid_room, laid_more, laid_end}
use native.Mathlib.Omega.{arith}
use Rattle.form.proofs.lay.mutations.Goals as goal

pub loop-i-init : goal.loop-i-init
loop-i-init c = laid_start (MU 2 stored_limits) (c.args.mutations.site.now ∷ c.args.mutations.node.now ∷ c.args.mutations.derived.now ∷ []) c.args.start 7 (length c.args.mutations.site.now) c.args.out.now

pub mutation_row-requires : goal.mutation_row-requires
mutation_row-requires c = (omega (arith, laid_room (MU 2 stored_limits) (c.args.mutations.site.now ∷ c.args.mutations.node.now ∷ c.args.mutations.derived.now ∷ []) c.args.start 7 (length c.args.mutations.site.now) c.args.out.now c.loop-i.out c.loop-i.at c.loop-i.i c.loop-i.invariant c.requires c.loop-i-test.true, c.loop-i.invariant.same), c.loop-i-test.true)

pub overflow_add-at : goal.overflow_add-at
overflow_add-at c = omega (arith, laid_room (MU 2 stored_limits) (c.args.mutations.site.now ∷ c.args.mutations.node.now ∷ c.args.mutations.derived.now ∷ []) c.args.start 7 (length c.args.mutations.site.now) c.args.out.now c.loop-i.out c.loop-i.at c.loop-i.i c.loop-i.invariant c.requires c.loop-i-test.true)

pub loop-i-preserved : goal.loop-i-preserved
unfolding size total record_at fields_at
loop-i-preserved c = laid_more (MU 2 stored_limits) (c.args.mutations.site.now ∷ c.args.mutations.node.now ∷ c.args.mutations.derived.now ∷ []) c.args.start 7 (length c.args.mutations.site.now) c.args.out.now c.loop-i.out c.loop-i.at c.loop-i.i _ refl refl c.requires c.loop-i.invariant c.loop-i-test.true c.mutation_row.ensures

pub shape_of-out : goal.shape_of-out
shape_of-out c = c.loop-i.invariant.same

pub returns : goal.returns
returns c = laid_end (MU 2 stored_limits) (c.args.mutations.site.now ∷ c.args.mutations.node.now ∷ c.args.mutations.derived.now ∷ []) c.args.start 7 (length c.args.mutations.site.now) c.args.out.now c.loop-i.out c.loop-i.at c.loop-i.i c.loop-i.invariant c.loop-i-test.false
