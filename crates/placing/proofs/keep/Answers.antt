-- `placing::keep` meets its contract: a mutation that moves has the next cell, or is only counted.
use Rattle.std.proofs.Common.{◌≡◌, arith, unwrap_or}
use Rattle.bridge.specs.Parents.{no_row}
use Rattle.placing.proofs.Taking.{none_taken, past_taken, cell_taken}
use Rattle.placing.proofs.keep.Goals as goal

pub returns-in_default : goal.returns-in_default
returns-in_default c = let e : unwrap_or c.args.w no_row ≡ no_row = grind arith in none_taken _ _ _ _ _ e

pub returns-then-mrow-k : goal.returns-then-mrow-k
returns-then-mrow-k c =
    let moves : (unwrap_or c.args.w no_row ≡ no_row → ⊥) = grind arith in
    past_taken _ _ _ _ _ moves c.if-mrow-k.true

pub returns : goal.returns
returns c =
    let moves : (unwrap_or c.args.w no_row ≡ no_row → ⊥) = grind arith in
    let e : unwrap_or c.args.w no_row ≡ c.in-Some.r = grind arith in
    rw (← e) (cell_taken _ _ _ _ _ moves c.if-mrow-k.false c.requires.0)
