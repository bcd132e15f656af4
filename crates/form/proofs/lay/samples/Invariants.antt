-- `form::lay::samples` meets its contract: the loop has laid the records that it has passed. Assumes nothing.
use mathlib.Core.List.{[], ◌∷◌}
use lib.ListN.{length}
use Rattle.meaning.specs.Answer.{stored_limits}
use Rattle.meaning.specs.Stored.{SA}
use Rattle.form.proofs.Laying.{Laid}
use Rattle.form.proofs.lay.samples.Given as goal

abbrev pub invariant-loop-i : goal.invariant-loop-i
invariant-loop-i l = Laid (SA stored_limits) (l.birth ∷ []) l.start 6 (length l.birth) l.initial.out l.out l.at l.i
