-- `fill::fill_blocks` meets its contract: the columns of the call filled in, then fish by fish.
use mathlib.Core.Path.{refl}
use native.Mathlib.Omega.{arith}
use Rattle.carrying.proofs.Beginning.{cleared}
use Rattle.panel.proofs.Calling.{nothing_kept}
use Rattle.panel.proofs.fill.fill_blocks.Goals as goal

pub prepare-requires : goal.prepare-requires
prepare-requires c = (c.requires.0, c.requires.1, c.requires.2, c.requires.3, refl, refl, refl, refl, refl, cleared 1024 refl, cleared 512 refl)

pub fill_fish-requires : goal.fill_fish-requires
fill_fish-requires c = (c.prepare.ensures, c.requires.4, nothing_kept _ c.requires.0.few, c.requires.5, omega arith, omega arith, omega arith, c.requires.6, c.requires.7)

pub returns : goal.returns
returns c = c.fill_fish.ensures.written
