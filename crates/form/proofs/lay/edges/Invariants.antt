-- `form::lay::edges` meets its contract: the loop has laid the records that it has passed. Assumes nothing.
use mathlib.Core.List.{[], ◌∷◌}
use lib.ListN.{length}
use Rattle.meaning.specs.Answer.{stored_limits}
use Rattle.meaning.specs.Stored.{ED}
use Rattle.form.proofs.Laying.{Laid}
use Rattle.form.proofs.lay.edges.Given as goal

abbrev pub invariant-loop-i : goal.invariant-loop-i
invariant-loop-i l = Laid (ED 2 stored_limits) (l.edges.left.now ∷ l.edges.right.now ∷ l.edges.parent.now ∷ l.edges.child.now ∷ []) l.start 14 (length l.edges.left.now) l.initial.out l.out l.at l.i
