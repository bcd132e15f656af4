-- `tree::edge::unlink` meets its contract.
use mathlib.Core.Path.{refl}
use Rattle.tree.proofs.OneEdge.{unlinked, mended_after}
use Rattle.tree.proofs.edge.unlink.Goals as goal

pub climb_down-requires : goal.climb_down-requires
climb_down-requires c = let h : _ = c.requires in unlinked h.0 h.1 h.2

pub returns : goal.returns
returns c = let h : _ = c.requires in (refl, mended_after c.args.c 4294967295 _ _ h.0 (unlinked h.0 h.1 h.2).1 c.climb_down.auto.count c.climb_down.auto.sum c.climb_down.ensures.0, c.climb_down.ensures.1)
