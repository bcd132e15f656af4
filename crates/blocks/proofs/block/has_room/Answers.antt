-- `block::has_room` meets its contract: by division, so that no product is made.
use Rattle.blocks.proofs.Scattering.{fits_by_division}
use Rattle.blocks.proofs.block.has_room.Goals as goal

pub returns : goal.returns
returns c = fits_by_division _ _ _ c.requires
