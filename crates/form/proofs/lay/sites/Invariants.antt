-- `form::lay::sites` meets its contract: the loop has laid the records that it has passed. Assumes nothing.
use mathlib.Core.List.{[], ◌∷◌}
use lib.ListN.{length}
use Rattle.meaning.specs.Answer.{stored_limits}
use Rattle.meaning.specs.Stored.{Si}
use Rattle.form.proofs.Laying.{Laid}
use Rattle.form.proofs.lay.sites.Given as goal

abbrev pub invariant-loop-i : goal.invariant-loop-i
invariant-loop-i l = Laid (Si stored_limits) (l.sites.position.now ∷ l.sites.ancestral.now ∷ []) l.start 7 (length l.sites.position.now) l.initial.out l.out l.at l.i
