-- `cleaner::rank::ranked_down` meets its contract: the rows from the last one down, sorted.
use Prim.Native.Nat.{ℕ}
use lib.ListN.{length-replicate}
use Rattle.cleaner.proofs.Ranking.{down_inside, from_down}
use native.Mathlib.Omega.{arith}
use Rattle.cleaner.proofs.rank.ranked_down.Goals as goal

pub iota_down-requires : goal.iota_down-requires
iota_down-requires c = omega (arith, c.requires.0, c.requires.1)

pub sort_one_with-requires : goal.sort_one_with-requires
sort_one_with-requires c = (down_inside _ _ _ c.iota_down.ensures c.requires.0, omega (arith, c.iota_down.auto.idx, c.requires.0, c.requires.2), length-replicate {A = ℕ} 2048 0, omega (arith, c.iota_down.auto.idx, c.requires.0, c.requires.1))

pub returns : goal.returns
returns c = from_down _ _ _ _ c.iota_down.ensures c.requires.0 c.sort_one_with.ensures
