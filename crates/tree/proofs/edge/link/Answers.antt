-- `tree::edge::link` meets its contract.
use mathlib.Core.Path.{refl, sym, ◌∙◌}
use lib.ListN.{length-set}
use Rattle.tree.proofs.OneEdge.{linked, mended_after}
use Rattle.tree.proofs.edge.link.Goals as goal

pub climb_up-requires : goal.climb_up-requires
climb_up-requires c = let h : _ = c.requires in let l : _ = linked h.0 h.2 h.3 in (l.0, h.1 ∙ sym (length-set c.args.parent.now c.args.c c.args.p), l.1, l.2, l.3, l.4, l.5)

pub returns : goal.returns
returns c = let h : _ = c.requires in (refl, mended_after c.args.c c.args.p _ _ h.0 (linked h.0 h.2 h.3).1 c.climb_up.auto.count c.climb_up.auto.sum c.climb_up.ensures.0, c.climb_up.ensures.1)
