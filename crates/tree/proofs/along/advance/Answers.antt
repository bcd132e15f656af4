-- `tree::sweep::advance` meets its contract: edges end, then edges begin, and the columns are the tree at x.
use mathlib.Core.Path.{sym, ◌∙◌}
use Rattle.mend.specs.Listing.{listed_same}
use Rattle.mend.proofs.Touching.{noted_then}
use Rattle.tree.proofs.Sweeping.{plan_on}
use Rattle.tree.proofs.Moving.{set_off, turn, arrive}
use Rattle.tree.proofs.Meaning.{tree_at}
use Rattle.tree.proofs.along.advance.Goals as goal

pub end_edges-a-requires : goal.end_edges-a-requires
end_edges-a-requires c = let sw : _ = c.requires.0 in (sw.kept, sw.plan, set_off sw, c.requires.1)

pub begin_edges-requires : goal.begin_edges-requires
begin_edges-requires c = let sw : _ = c.requires.0 in
    let e : _ = c.end_edges-a.ensures in
    let rows : _ = c.end_edges-a.auto.parent in
    let ku : _ = c.end_edges-a.auto.up in
    (e.0, plan_on rows sw.plan, turn e.1, listed_same (sym ku) e.2.listing)

pub returns : goal.returns
returns c = let sw : _ = c.requires.0 in
    let e : _ = c.end_edges-a.ensures in
    let b : _ = c.begin_edges.ensures in
    let kp : _ = c.end_edges-a.auto.parent in
    let kq : _ = c.begin_edges.auto.parent in
    let ku : _ = c.end_edges-a.auto.up in
    let ar : _ = arrive _ (sym kp ∙ sym kq) b.4 b.0 sw.plan b.1 in
    (ar, (λ Q fl. tree_at _ ar fl), noted_then ku e.2 b.2)
