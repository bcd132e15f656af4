-- `length_broken` meets its contract.
use borrow.Author.Tests.{eq-eqb, ne_eqb}
use Rattle.meaning.specs.Check.{length_broken}
use Rattle.rules.proofs.lengths.length_broken.Goals as goal

pub returns-then-len-eq0 : goal.returns-then-len-eq0
unfolding length_broken
returns-then-len-eq0 c = simp (eq-eqb _ _ c.if-len-eq0.true)

pub returns-else-len-eq0 : goal.returns-else-len-eq0
unfolding length_broken
returns-else-len-eq0 c = simp (ne_eqb _ _ c.if-len-eq0.false)
