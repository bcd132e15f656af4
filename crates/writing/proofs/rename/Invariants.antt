-- `writing::rename` meets its contract: the first i cells are renamed.
use mathlib.Core.List.{map}
use Prim.Native.Nat.{◌≤◌, ◌-◌}
use lib.ListN.{take}
use Rattle.writing.specs.Renamed.{renamed}
use Rattle.writing.proofs.Filling.{Filled}
use Rattle.writing.proofs.rename.Given as goal

abbrev pub invariant-loop-i : goal.invariant-loop-i
invariant-loop-i l = Filled (map (renamed l.names) (take l.k l.initial.col)) l.initial.col l.col l.i
