-- `next_stamp` meets its contract: one more than every stamp, or 1 above zeros.
use Rattle.carrying.proofs.Beginning.{cleared, stamp_after, stamp_one}
use Rattle.carrying.proofs.fresh.next_stamp.Goals as goal

pub returns-then-t-lt4294967295 : goal.returns-then-t-lt4294967295
returns-then-t-lt4294967295 c = stamp_after c.requires.0 c.requires.1

pub returns : goal.returns
returns c = stamp_one (cleared _ (c.fill.ensures.after (λ y k. k))) (cleared _ (c.fill-2.ensures.after (λ y k. k)))
