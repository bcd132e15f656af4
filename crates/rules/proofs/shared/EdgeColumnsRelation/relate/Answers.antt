-- `relate` meets its contract: one child, and each begins before the other ends.
use mathlib.Core.Path.{sym}
use Rattle.rules.proofs.Rows.{other_child, begins_after, share_ends}
use Rattle.rules.proofs.shared.EdgeColumnsRelation.relate.Goals as goal

pub returns-then-self-j : goal.returns-then-self-j
returns-then-self-j c = sym (other_child _ _ _ c.if-self-j.true)

pub returns-then-self-i : goal.returns-then-self-i
returns-then-self-i c = sym (begins_after _ _ _ c.if-self-j.false c.if-self-i.true)

pub returns : goal.returns
returns c = sym (share_ends _ _ _ c.if-self-j.false c.if-self-i.false)
