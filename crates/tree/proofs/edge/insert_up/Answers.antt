-- `tree::edge::insert_up` meets its contract: a live child is told to the rows above, and a dead one to none.
use mathlib.Core.Path.{refl, sym, ◌∙◌}
use Rattle.mend.proofs.Touching.{noted_none}
use Rattle.tree.proofs.Edges.{entry, gaining, entered, entered_dead}
use native.Mathlib.Omega.{arith}
use Rattle.tree.proofs.edge.insert_up.Goals as goal

pub alive-requires : goal.alive-requires
alive-requires c = let k : _ = c.requires in let sh : _ = k.0.mended.shape in let e : _ = k.1 in (omega arith, omega arith)

pub bounds-low-c : goal.bounds-low-c
bounds-low-c c = let k : _ = c.requires in omega (arith, k.0.low.long, k.1.child)

pub link-s-requires : goal.link-s-requires
link-s-requires c = let k : _ = c.requires in (k.0.mended, k.0.low.long, k.1, sym c.alive.ensures ∙ c.if-alive.true)

pub gain-requires : goal.gain-requires
gain-requires c = let k : _ = c.requires in
    let l : _ = c.link-s.ensures in
    (gaining (entry k.0 k.1 (sym c.alive.ensures ∙ c.if-alive.true) l.0 l.1 l.2) l.0 c.link-s.auto.low, k.2)

pub returns-then-alive : goal.returns-then-alive
returns-then-alive c = let k : _ = c.requires in
    let l : _ = c.link-s.ensures in
    (l.0, entered (entry k.0 k.1 (sym c.alive.ensures ∙ c.if-alive.true) l.0 l.1 l.2) l.0 c.link-s.auto.low c.gain.ensures.0, c.gain.ensures.1)

pub returns : goal.returns
returns c = let k : _ = c.requires in (refl, entered_dead k.0 k.1 (sym c.alive.ensures ∙ c.if-alive.false), noted_none _ k.2)
