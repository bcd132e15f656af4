-- `show::refused` meets its contract: the line of the number and the row.
use mathlib.Core.Path.{ap}
use Rattle.meaning.specs.Answer.{Answer}
use Rattle.show.proofs.Printing.{printed_as, refused_as}
use Rattle.show.proofs.refused.Goals as goal

pub returns : goal.returns
returns c = printed_as (refused_as (ap (λ (a : Answer). a.number) c.from-t.ensures) (ap (λ (a : Answer). a.row) c.from-t.ensures)) c.refused_line.ensures
