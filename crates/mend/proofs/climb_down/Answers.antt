-- `mend::climb_down` meets its contract: each turn mends the row q, and what is in excess next is at its parent.
use Rattle.std.proofs.Common.{sym, refl, ◌∙◌, arith, rules}
use Rattle.mend.proofs.Mending.{some, lose_stops, lose_goes, excess_end, shape_on, climb_falls}
use Rattle.mend.proofs.Falling.{fall_pass, fall_under, lost_end, lost_stop, lt_eq, le_lt}
use Rattle.mend.proofs.climb_down.Goals as goal

pub loop-q-init : goal.loop-q-init
loop-q-init c = (c.requires.0, c.requires.2, c.requires.3, c.requires.4, (λ v. refl), (λ n. omega arith), record { same = λ v l. refl; less = λ v l. l })

pub take-requires : goal.take-requires
take-requires c = let inv : _ = c.loop-q.invariant in
    let hq : _ = inv.1 c.loop-q-test.true in
    (omega (arith, hq, inv.0.counts), omega (arith, hq, inv.0.sums), some _ _ _ _ _ _ _ inv.0 hq inv.3)

pub alive-requires : goal.alive-requires
alive-requires c = let inv : _ = c.loop-q.invariant in
    let hq : _ = inv.1 c.loop-q-test.true in
    let sh : _ = shape_on _ _ c.take.ensures.1.0 _ _ c.take.ensures.0 c.take.ensures.1.1 inv.0 in
    (omega (arith, hq, sh.samples), omega (arith, hq, sh.counts))

pub returns-then-alive : goal.returns-then-alive
returns-then-alive c = let inv : _ = c.loop-q.invariant in
    let m : _ = c.loop-q-test.true in
    let hq : _ = inv.1 m in
    let hc : _ = lt_eq hq (sym inv.0.counts) in
    let l : _ = sym c.alive.ensures ∙ c.if-alive.true in (
      lose_stops _ _ _ _ _ _ _ inv.0 hq _ _ inv.3 inv.2 c.take.ensures.0 c.take.ensures.1 l,
      lost_stop _ _ _ _ _ _ _ _ m hc (some _ _ _ _ _ _ _ inv.0 hq inv.3) c.take.ensures.0 inv.4 hq (inv.5 m) inv.6 l,
    )

pub bounds-parent-q : goal.bounds-parent-q
bounds-parent-q c = let hq : _ = c.loop-q.invariant.1 c.loop-q-test.true in let r : _ = c.loop-q.invariant.0.rows in search rules

pub loop-q-smaller : goal.loop-q-smaller
loop-q-smaller c = climb_falls _ _ _ c.requires.1 (c.loop-q.invariant.1 c.loop-q-test.true) c.loop-q-test.true

pub loop-q-preserved : goal.loop-q-preserved
loop-q-preserved c = let inv : _ = c.loop-q.invariant in
    let m : _ = c.loop-q-test.true in
    let hq : _ = inv.1 m in
    let hc : _ = lt_eq hq (sym inv.0.counts) in
    let l : _ = sym c.alive.ensures ∙ c.if-alive.false in (
      shape_on _ _ c.take.ensures.1.0 _ _ c.take.ensures.0 c.take.ensures.1.1 inv.0,
      c.requires.1.inside _ hq,
      hq,
      lose_goes _ _ _ _ _ _ _ inv.0 hq _ _ inv.3 inv.2 c.take.ensures.0 c.take.ensures.1 l,
      (λ v. fall_pass _ _ _ _ hc (some _ _ _ _ _ _ _ inv.0 hq inv.3) c.take.ensures.0 l v ∙ inv.4 v),
      (λ n. le_lt (inv.5 m) (c.requires.1.age _ hq n)),
      fall_under _ _ _ _ _ _ _ (some _ _ _ _ _ _ _ inv.0 hq inv.3) c.take.ensures.0 (inv.5 m) inv.6,
    )

pub returns : goal.returns
returns c = let inv : _ = c.loop-q.invariant in (excess_end _ _ _ _ _ _ _ inv.0 c.loop-q-test.false inv.3, lost_end _ _ _ _ _ _ inv.4 inv.6)
