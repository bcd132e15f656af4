-- `keeping::collect` meets its contract: the other rows below u stand at the front.
use Prim.Native.Nat.{◌≤◌, ◌-◌}
use lib.ListN.{length}
use Rattle.keeping.proofs.Collecting.{Gathered}
use Rattle.keeping.proofs.collect.Given as goal

abbrev pub invariant-loop-u : goal.invariant-loop-u
invariant-loop-u l = Gathered l.stood l.sample l.initial.out l.out l.k l.u
