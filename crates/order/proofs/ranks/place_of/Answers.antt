-- place_of meets its contract. Invariant: before low stand smaller numbers, from high on none that is smaller. Measure: the range.
use Rattle.order.proofs.Lookup.{ringed_start, ringed_up, ringed_down, ringed_end}
use native.Mathlib.Omega.{arith}
use Rattle.order.proofs.ranks.place_of.Goals as goal

pub loop-low-init : goal.loop-low-init
loop-low-init c = ringed_start c.args.l.now c.args.idx.now c.args.b c.requires

pub bounds-idx-m : goal.bounds-idx-m
bounds-idx-m c = omega (arith, c.middle-m.ensures.1, c.loop-low.invariant.inside, c.requires.long)

pub offset_bounds-l-wide : goal.offset_bounds-l-wide
offset_bounds-l-wide c = omega (arith, c.wide.ensures, c.requires.row c.middle-m.result (omega (arith, c.middle-m.ensures.1, c.loop-low.invariant.inside)))

pub bounds-l-wide : goal.bounds-l-wide
bounds-l-wide c = omega (arith, c.wide.ensures, c.requires.row c.middle-m.result (omega (arith, c.middle-m.ensures.1, c.loop-low.invariant.inside)))

pub loop-low-smaller-then-l-wide : goal.loop-low-smaller-then-l-wide
loop-low-smaller-then-l-wide c = omega (arith, c.middle-m.ensures.0, c.middle-m.ensures.1)

pub loop-low-preserved-then-l-wide : goal.loop-low-preserved-then-l-wide
loop-low-preserved-then-l-wide c = ringed_up c.args.l.now c.args.idx.now c.args.b c.requires c.loop-low.low c.loop-low.high c.loop-low.invariant c.middle-m.result c.wide.result c.middle-m.ensures.0 c.middle-m.ensures.1 c.wide.ensures c.if-l-wide.true

pub loop-low-smaller : goal.loop-low-smaller
loop-low-smaller c = omega (arith, c.middle-m.ensures.0, c.middle-m.ensures.1)

pub loop-low-preserved : goal.loop-low-preserved
loop-low-preserved c = ringed_down c.args.l.now c.args.idx.now c.args.b c.requires c.loop-low.low c.loop-low.high c.loop-low.invariant c.middle-m.result c.wide.result c.middle-m.ensures.0 c.middle-m.ensures.1 c.wide.ensures c.if-l-wide.false

pub returns : goal.returns
returns c = ringed_end c.args.l.now c.args.idx.now c.args.b c.requires c.loop-low.low c.loop-low.high c.loop-low.invariant c.loop-low-test.false
