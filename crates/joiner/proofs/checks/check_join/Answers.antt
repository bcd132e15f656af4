-- `check_join` meets its contract: 1 to 10 of the base, then 20 to 26 of the batch, each with its order of births.
use mathlib.Core.Path.{sym, ap, ◌∙◌}
use Rattle.laws.specs.Passing.{passed_on}
use Rattle.meaning.specs.Answer.{checked_of}
use Rattle.meaning.specs.Columns.{lent_in, batch_in}
use Rattle.joiner.proofs.Groups.{base_stops, base_sound, base_asked, base_goes_on}
use Rattle.joiner.proofs.Orders.{refusal_unordered, ranked_ordered, sound_few, still_room}
use Rattle.joiner.proofs.checks.check_join.Goals as goal

pub slice_bounds-batch_checked-end : goal.slice_bounds-batch_checked-end
slice_bounds-batch_checked-end c = still_room _ c.args.base_by_birth.now c.base_checked.new.by_birth (sound_few _ _ (base_sound _ (lent_in c.args.base) c.base_checked.result c.base_checked.ensures.0 c.in_ok-base_checked.was)) c.requires.0 c.base_checked.auto.by_birth

pub slice_bounds-batch_checked-end-2 : goal.slice_bounds-batch_checked-end-2
slice_bounds-batch_checked-end-2 c = sym (c.base_checked.ensures.1.births c.in_ok-base_checked.was).long

pub batch_checked-requires : goal.batch_checked-requires
batch_checked-requires c = (base_asked _ (lent_in c.args.base) _ c.base_checked.ensures.0 c.in_ok-base_checked.was, c.base_checked.ensures.1.births c.in_ok-base_checked.was, c.requires.1)

pub returns-in_err-base_checked : goal.returns-in_err-base_checked
returns-in_err-base_checked c = let q : _ = passed_on c.from_residual.ensures.1 in
    (ap checked_of (q ∙ sym c.in_err-base_checked.was) ∙ base_stops _ (lent_in c.args.base) _ c.base_checked.ensures.0 _ c.in_err-base_checked.was _, refusal_unordered _ _ _ _ q, refusal_unordered _ _ _ _ q)

pub returns : goal.returns
returns c = (base_goes_on _ (lent_in c.args.base) _ c.base_checked.ensures.0 c.in_ok-base_checked.was (batch_in c.args.batch) c.batch_checked.result c.batch_checked.ensures.0, ranked_ordered _ _ _ (c.base_checked.ensures.1.births c.in_ok-base_checked.was), c.batch_checked.ensures.1)
