-- `iota_down` meets its contract. Invariant: each cell passed holds its row from the end. Measure: the cells left.
use native.Mathlib.Omega.{arith}
use borrow.Author.Rules.{rules}
use Rattle.cleaner.proofs.Ranking.{down_place, down_places}
use Rattle.cleaner.proofs.rank.iota_down.Goals as goal

pub loop-i-preserved : goal.loop-i-preserved
loop-i-preserved c = (search rules, search rules, search rules, down_place c.loop-i.idx _ c.loop-i.i (omega arith) c.loop-i.invariant.3)

pub returns : goal.returns
returns c = down_places _ _ (omega arith) (λ k h. c.loop-i.invariant.3 k (omega arith))
