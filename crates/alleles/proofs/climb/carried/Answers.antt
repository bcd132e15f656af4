-- `climb::carried` meets its contract.
use native.Mathlib.Omega.{arith}
use Rattle.alleles.proofs.Climbing.{found_row, found_state, found_nothing}
use Rattle.alleles.proofs.climb.carried.Goals as goal

pub bounds-state-w : goal.bounds-state-w
bounds-state-w c = omega (arith, found_row c.requires.0 _ _ c.carrier.result c.carrier.ensures c.in-Some.is, c.requires.1)

pub returns-in-Some : goal.returns-in-Some
returns-in-Some c = found_state c.requires.0 _ _ c.carrier.result c.carrier.ensures _ _ c.in-Some.is

pub returns-in-None : goal.returns-in-None
returns-in-None c = found_nothing c.requires.0 _ _ c.carrier.result c.carrier.ensures _ _ c.in-None.is
