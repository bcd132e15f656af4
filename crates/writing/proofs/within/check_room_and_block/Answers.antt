-- `writing::within::check_room_and_block` meets its contract: the tables by numbers, then the block.
use Rattle.std.proofs.Common.{arith, sym, ap, ◌∙◌}
use Rattle.laws.specs.Passing.{passed_on}
use Rattle.meaning.specs.Answer.{accepted, checked_of}
use Rattle.accepted.specs.Numbers.{refusal_refuses}
use Rattle.writing.specs.Block.{block_after, block_short, block_long}
use Rattle.writing.proofs.within.check_room_and_block.Goals as goal

pub returns-in_err-check_room : goal.returns-in_err-check_room
returns-in_err-check_room c =
    let e : _ = ap checked_of (passed_on c.from_residual.ensures.1 ∙ sym c.in_err-check_room.was) ∙ c.check_room.ensures in
    e ∙ (block_after c.args.need c.args.lent c.args.cells).0 (ap accepted (sym c.check_room.ensures ∙ ap checked_of c.in_err-check_room.was) ∙ refusal_refuses _)

pub returns-then-cells-lt-BLOCK : goal.returns-then-cells-lt-BLOCK
returns-then-cells-lt-BLOCK c = block_short _ (omega arith) ∙ sym ((block_after _ _ c.args.cells).1 (sym c.check_room.ensures ∙ ap checked_of c.in_ok-check_room.was))

pub returns : goal.returns
returns c = block_long _ (omega arith) ∙ sym ((block_after _ _ c.args.cells).1 (sym c.check_room.ensures ∙ ap checked_of c.in_ok-check_room.was))
