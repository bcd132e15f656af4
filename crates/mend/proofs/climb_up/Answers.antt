-- `mend::climb_up` meets its contract.
use Rattle.std.proofs.Common.{sym, refl, ◌∙◌, arith, length-set, rules}
use Rattle.mend.proofs.Mending.{room, gain_stops, gain_goes, lacks_end, shape_on, climb_falls}
use Rattle.mend.proofs.Climbing.{climb_start, climb_pass, climb_stop, climb_end}
use Rattle.mend.proofs.climb_up.Goals as goal

pub loop-q-init : goal.loop-q-init
loop-q-init c = (c.requires.0, c.requires.3, c.requires.4, climb_start _ _ _ _ _ _ _ _ c.requires.5 c.requires.6, c.requires.1)

pub alive-was-requires : goal.alive-was-requires
alive-was-requires c = let hq : _ = c.loop-q.invariant.1 c.loop-q-test.true in (omega (arith, hq, c.loop-q.invariant.0.samples), omega (arith, hq, c.loop-q.invariant.0.counts))

pub bump-requires : goal.bump-requires
bump-requires c = let hq : _ = c.loop-q.invariant.1 c.loop-q-test.true in (omega (arith, hq, c.loop-q.invariant.0.counts), omega (arith, hq, c.loop-q.invariant.0.sums), room _ _ _ _ _ _ _ c.loop-q.invariant.0 hq c.loop-q.invariant.2)

pub returns-then-was : goal.returns-then-was
returns-then-was c = let inv : _ = c.loop-q.invariant in
    let hq : _ = inv.1 c.loop-q-test.true in
    let l : _ = sym c.alive-was.ensures ∙ c.if-was.true in (
      gain_stops _ _ _ _ _ _ _ inv.0 hq _ _ inv.2 c.bump.ensures.0 c.bump.ensures.1 l,
      climb_stop _ _ _ _ _ _ _ _ c.loop-q.low _ _ _ _ _ c.requires.2 inv.3 hq inv.0.counts c.loop-q-test.true c.bump.ensures.0 l,
    )

pub bounds-low-q : goal.bounds-low-q
bounds-low-q c = let hq : _ = c.loop-q.invariant.1 c.loop-q-test.true in omega (arith, hq, c.loop-q.invariant.4)

pub bounds-parent-q : goal.bounds-parent-q
bounds-parent-q c = let hq : _ = c.loop-q.invariant.1 c.loop-q-test.true in let r : _ = c.loop-q.invariant.0.rows in search rules

pub loop-q-smaller : goal.loop-q-smaller
loop-q-smaller c = climb_falls _ _ _ c.requires.2 (c.loop-q.invariant.1 c.loop-q-test.true) c.loop-q-test.true

pub loop-q-preserved : goal.loop-q-preserved
loop-q-preserved c = let inv : _ = c.loop-q.invariant in
    let hq : _ = inv.1 c.loop-q-test.true in
    let l : _ = sym c.alive-was.ensures ∙ c.if-was.false in (
      shape_on _ _ _ _ _ c.bump.ensures.0 c.bump.ensures.1 inv.0,
      c.requires.2.inside _ hq,
      gain_goes _ _ _ _ _ _ _ inv.0 hq _ _ inv.2 c.bump.ensures.0 c.bump.ensures.1 l,
      climb_pass _ _ _ _ _ _ _ _ _ _ _ _ _ _ c.requires.2 inv.3 hq inv.0.counts c.loop-q-test.true c.bump.ensures.0 inv.4 refl l,
      length-set c.loop-q.low _ _ ∙ inv.4,
    )

pub returns : goal.returns
returns c = (lacks_end _ _ _ _ _ _ _ c.loop-q.invariant.0 c.loop-q-test.false c.loop-q.invariant.2, climb_end _ _ _ _ _ c.loop-q.count _ _ c.loop-q.low _ _ _ _ _ c.requires.2 c.loop-q.invariant.3 c.loop-q-test.false)
