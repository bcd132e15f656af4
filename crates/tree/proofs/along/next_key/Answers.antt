-- `tree::along::next_key` meets its contract.
use Rattle.std.proofs.Common.{sym, ◌∙◌}
use Rattle.tree.proofs.Moving.{key_past, key_least}
use Rattle.tree.proofs.along.next_key.Goals as goal

pub returns-then-b-i : goal.returns-then-b-i
returns-then-b-i c = sym (key_past _ _ _ _ c.if-b-i.true)

pub bounds-key-e : goal.bounds-key-e
bounds-key-e c = c.requires.rows _ c.if-b-i.false

pub returns : goal.returns
returns c = c.min.ensures ∙ key_least _ _ _ _ c.if-b-i.false
