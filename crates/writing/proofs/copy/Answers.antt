-- `writing::copy` meets its contract: the front is overwritten by the front of another column.
use Rattle.std.proofs.Common.{arith, ap, sym, length, take, drop, ◌++◌, ◌∙◌}
use lib.Seq.{length-take-le}
use Rattle.meaning.specs.Answer.{put}
use Rattle.writing.proofs.copy.Goals as goal

pub returns : goal.returns
unfolding put
returns g c =
    ap (λ l. l ++ drop c.args.k c.args.out.now) c.copy.ensures
    ∙ ap (λ j. take c.args.k c.args.src.now ++ drop j c.args.out.now) (sym (length-take-le c.args.k c.args.src.now c.requires.0))
