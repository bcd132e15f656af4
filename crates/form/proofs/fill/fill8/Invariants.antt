-- `form::fill::fill8` meets its contract: the loop has filled the cells that it has passed. Assumes nothing.
use Prim.Native.Nat.{ℕ, ◌+◌, ◌*◌}
use Rattle.meaning.specs.Stored.{number}
use Rattle.form.proofs.Filling.{Filled}
use Rattle.form.proofs.fill.fill8.Given as goal

abbrev pub invariant-loop-i : goal.invariant-loop-i
invariant-loop-i l = Filled (λ (k : ℕ). number 1 l.s (l.start + k * l.step)) l.start l.step l.n l.initial.out l.out l.at l.i
