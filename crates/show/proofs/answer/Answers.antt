-- `show::answer` meets its contract: the line of a longer input, or what the stored file prints. Assumes nothing.
use Rattle.show.proofs.Printing.{printed_as, answered_long, answered_short}
use Rattle.show.proofs.answer.Goals as goal

pub returns-then-bytes-gt65536 : goal.returns-then-bytes-gt65536
returns-then-bytes-gt65536 c = printed_as (answered_long _ c.if-bytes-gt65536.true) c.too_long.ensures

pub returns : goal.returns
returns c = printed_as (answered_short _ c.if-bytes-gt65536.false) c.show.ensures
