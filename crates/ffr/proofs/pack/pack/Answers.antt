-- `ffr::pack::pack` meets its contract: number and row are those that the refusal tells.
use mathlib.Core.Path.{ap}
use native.Mathlib.Omega.{arith}
use Rattle.meaning.specs.Answer.{Answer}
use Rattle.meaning.specs.Called.{packed}
use Rattle.ffr.proofs.pack.pack.Goals as goal

pub overflow_add-result : goal.overflow_add-result
overflow_add-result c = omega (arith, ap (λ (a : Answer). a.row) c.from-t.ensures, c.requires)

pub returns : goal.returns
unfolding packed
returns c = ap packed c.from-t.ensures
