-- `fill_ends` meets its contract: the ends of the rows gone over stand in their cells.
use Rattle.ancestry.proofs.Skipping.{grouped, ending_passed}
use Rattle.ancestry.proofs.index.fill_ends.Goals as goal

pub skip-i-requires : goal.skip-i-requires
skip-i-requires c = (grouped _ _ c.args.edges.even c.requires.0, ending_passed _ _ _ _ _ c.loop-u.invariant.1)
