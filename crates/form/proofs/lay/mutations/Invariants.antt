-- `form::lay::mutations` meets its contract: the loop has laid the records that it has passed. Assumes nothing.
use mathlib.Core.List.{[], ◌∷◌}
use lib.ListN.{length}
use Rattle.meaning.specs.Answer.{stored_limits}
use Rattle.meaning.specs.Stored.{MU}
use Rattle.form.proofs.Laying.{Laid}
use Rattle.form.proofs.lay.mutations.Given as goal

abbrev pub invariant-loop-i : goal.invariant-loop-i
invariant-loop-i l = Laid (MU 2 stored_limits) (l.mutations.site.now ∷ l.mutations.node.now ∷ l.mutations.derived.now ∷ []) l.start 7 (length l.mutations.site.now) l.initial.out l.out l.at l.i
