-- `tree::edge::remove_up` meets its contract: a live child is taken from the rows above, and a dead one from none.
use mathlib.Core.Path.{refl, sym, ◌∙◌}
use Rattle.mend.proofs.Touching.{noted_none}
use Rattle.tree.proofs.Edges.{parting, losing, left, left_dead}
use native.Mathlib.Omega.{arith}
use Rattle.tree.proofs.edge.remove_up.Goals as goal

pub alive-requires : goal.alive-requires
alive-requires c = let k : _ = c.requires in let sh : _ = k.0.mended.shape in let e : _ = k.1 in (omega arith, omega arith)

pub bounds-low-c : goal.bounds-low-c
bounds-low-c c = let k : _ = c.requires in omega (arith, k.0.low.long, k.1)

pub unlink-s-requires : goal.unlink-s-requires
unlink-s-requires c = let k : _ = c.requires in (k.0.mended, k.1, sym c.alive.ensures ∙ c.if-alive.true)

pub lose-requires : goal.lose-requires
lose-requires c = let k : _ = c.requires in
    let l : _ = c.unlink-s.ensures in
    (losing (parting k.0 k.1 k.3 (sym c.alive.ensures ∙ c.if-alive.true) l.0 l.1 l.2) l.0, k.2)

pub returns-then-alive : goal.returns-then-alive
returns-then-alive c = let k : _ = c.requires in
    let l : _ = c.unlink-s.ensures in
    (l.0, left (parting k.0 k.1 k.3 (sym c.alive.ensures ∙ c.if-alive.true) l.0 l.1 l.2) l.0 c.lose.ensures.0, c.lose.ensures.1)

pub returns : goal.returns
returns c = let k : _ = c.requires in (refl, left_dead k.0 k.1 k.3 (sym c.alive.ensures ∙ c.if-alive.false), noted_none _ k.2)
