-- `keeping::place` meets its contract: the rows from i on have got their places.
use mathlib.Core.Path.{◌≡◌}
use Prim.Native.Nat.{◌≤◌}
use lib.ListN.{length, take}
use Rattle.keeping.proofs.Placing.{PlacedFrom}
use Rattle.keeping.proofs.place.Given as goal

abbrev pub invariant-loop-i : goal.invariant-loop-i
invariant-loop-i l = (length l.nodemap ≡ length l.initial.nodemap) × PlacedFrom (take l.n l.kept) l.first l.initial.nodemap l.i l.nodemap
