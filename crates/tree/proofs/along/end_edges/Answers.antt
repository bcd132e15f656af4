-- `tree::along::end_edges` meets its contract: each turn ends the edge at the cursor.
use Rattle.std.proofs.Common.{refl, sym, ◌∙◌, arith}
use Rattle.mend.specs.Listing.{listed_same}
use Rattle.mend.proofs.Touching.{noted_none, noted_then}
use Rattle.tree.proofs.Sweeping.{plan_on, end_child, end_had, end_one, end_all, ended_all}
use Rattle.tree.proofs.along.end_edges.Goals as goal

pub loop-j-init : goal.loop-j-init
loop-j-init c = let h : _ = c.requires in (h.0, h.2, noted_none _ h.3, refl, refl, refl, refl, refl, refl, refl)

pub returns-then-x-edges : goal.returns-then-x-edges
returns-then-x-edges c = let inv : _ = c.loop-j.invariant in (inv.0, end_all c.requires.1 inv.1 (λ h. c.if-x-edges.true), inv.2, c.loop-j.auto.j)

pub remove_up-k-requires : goal.remove_up-k-requires
remove_up-k-requires c = let inv : _ = c.loop-j.invariant in
    let pl : _ = plan_on inv.3 c.requires.1 in
    (inv.0, end_child pl inv.1 c.loop-j-test.true c.if-x-edges.false, listed_same (sym inv.6) inv.2.listing, end_had pl inv.1 c.loop-j-test.true c.if-x-edges.false inv.0.mended.shape.rows)

pub loop-j-preserved : goal.loop-j-preserved
loop-j-preserved c = let inv : _ = c.loop-j.invariant in
    let pl : _ = plan_on inv.3 c.requires.1 in
    let k : _ = c.remove_up-k in
    (k.ensures.1, end_one pl inv.1 c.loop-j-test.true c.if-x-edges.false _ k.ensures.0, noted_then inv.6 inv.2 k.ensures.2, k.auto.parent ∙ inv.3, k.auto.count ∙ inv.4, k.auto.sum ∙ inv.5, k.auto.up ∙ inv.6, k.auto.touched ∙ inv.7, k.auto.listed ∙ inv.8, k.auto.low ∙ inv.9)

pub returns : goal.returns
returns c = let inv : _ = c.loop-j.invariant in (inv.0, ended_all c.requires.1 inv.1 c.loop-j-test.false, inv.2, omega (arith, c.loop-j.auto.j, inv.1.ended.within))
