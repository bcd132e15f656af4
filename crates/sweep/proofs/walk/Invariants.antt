-- `sweep::walk` meets its contract: each turn brings the sweep to the next change, and at the end of the chromosome it is done.
use mathlib.Core.Path.{◌≡◌}
use Prim.Native.Nat.{◌-◌}
use lib.ListN.{length}
use Rattle.sweep.specs.Columns.{source_in}
use Rattle.sweep.specs.Sweeping.{Came}
use Rattle.sweep.proofs.walk.Given as goal

abbrev pub invariant-loop-at : goal.invariant-loop-at
invariant-loop-at l = Came l.len (source_in l.source) (length l.initial.touched) l.initial.listed 0 (record { parents = l.initial.par; counts = l.initial.count; sums = l.initial.sum; lows = l.initial.low; ups = l.initial.up; runs = record { left = l.initial.open_left; par = l.initial.open_par }; store = record { left = l.initial.fl; right = l.initial.fr; parent = l.initial.fp; child = l.initial.fc; stood = l.initial.stood; count = 0 }; moves = record { row = l.initial.mrow; low = l.initial.mlow; count = 0 }; begun = 0; ended = 0; placed = 0 }) l.listed l.at.next (record { parents = l.par; counts = l.count; sums = l.sum; lows = l.low; ups = l.up; runs = record { left = l.open_left; par = l.open_par }; store = record { left = l.fl; right = l.fr; parent = l.fp; child = l.fc; stood = l.stood; count = l.at.made }; moves = record { row = l.mrow; low = l.mlow; count = l.at.kept }; begun = l.at.begun; ended = l.at.ended; placed = l.at.placed }) × (length l.touched ≡ length l.initial.touched)

abbrev pub decreases-loop-at : goal.decreases-loop-at
decreases-loop-at l = l.len - l.at.next
