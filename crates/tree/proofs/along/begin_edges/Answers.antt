-- `tree::along::begin_edges` meets its contract: each turn begins the edge at the cursor.
use Rattle.std.proofs.Common.{refl, sym, ◌∙◌, arith}
use Rattle.mend.specs.Listing.{listed_same}
use Rattle.mend.proofs.Touching.{noted_none, noted_then}
use Rattle.tree.proofs.Sweeping.{plan_on, begin_enters, begin_one, begin_all, begun_all}
use Rattle.tree.proofs.along.begin_edges.Goals as goal

pub loop-i-init : goal.loop-i-init
loop-i-init c = let h : _ = c.requires in (h.0, h.2, noted_none _ h.3, refl, refl, refl, refl, refl, refl, refl)

pub returns-then-x-edges : goal.returns-then-x-edges
returns-then-x-edges c = let inv : _ = c.loop-i.invariant in (inv.0, begin_all c.requires.1 inv.1 (λ h. c.if-x-edges.true), inv.2, c.loop-i.auto.i, refl)

pub insert_up-k-requires : goal.insert_up-k-requires
insert_up-k-requires c = let inv : _ = c.loop-i.invariant in
    let pl : _ = plan_on inv.3 c.requires.1 in
    (inv.0, begin_enters pl inv.1 c.loop-i-test.true c.if-x-edges.false, listed_same (sym inv.6) inv.2.listing)

pub loop-i-preserved : goal.loop-i-preserved
loop-i-preserved c = let inv : _ = c.loop-i.invariant in
    let pl : _ = plan_on inv.3 c.requires.1 in
    let k : _ = c.insert_up-k in
    (k.ensures.1, begin_one pl inv.1 c.loop-i-test.true c.if-x-edges.false _ k.ensures.0, noted_then inv.6 inv.2 k.ensures.2, k.auto.parent ∙ inv.3, k.auto.count ∙ inv.4, k.auto.sum ∙ inv.5, k.auto.up ∙ inv.6, k.auto.touched ∙ inv.7, k.auto.listed ∙ inv.8, k.auto.low ∙ inv.9)

pub returns : goal.returns
returns c = let inv : _ = c.loop-i.invariant in (inv.0, begun_all c.requires.1 inv.1 c.loop-i-test.false, inv.2, omega (arith, c.loop-i.auto.i, inv.1.begun.within), refl)
