-- `form::lay::nodes` meets its contract: the loop has laid the records that it has passed. Assumes nothing.
use mathlib.Core.List.{[], ◌∷◌}
use lib.ListN.{length}
use Rattle.meaning.specs.Answer.{stored_limits}
use Rattle.meaning.specs.Stored.{ND}
use Rattle.form.proofs.Laying.{Laid}
use Rattle.form.proofs.lay.nodes.Given as goal

abbrev pub invariant-loop-i : goal.invariant-loop-i
invariant-loop-i l = Laid (ND stored_limits) (l.ages.time.now ∷ l.ages.birth.now ∷ []) l.start 10 (length l.ages.time.now) l.initial.out l.out l.at l.i
