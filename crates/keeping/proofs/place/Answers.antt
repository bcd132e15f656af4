-- `keeping::place` meets its contract: the rows from i on have got their places.
use mathlib.Core.Path.{◌≡◌, refl, ◌∙◌}
use lib.ListN.{length, take, length-set}
use lib.Seq.{length-take-le}
use Rattle.keeping.proofs.Placing.{from_end, one_placed, all_placed, front_cell, front_row}
use native.Mathlib.Omega.{arith}
use Rattle.keeping.proofs.place.Goals as goal

pub loop-i-init : goal.loop-i-init
loop-i-init c = (refl, from_end (take c.args.n c.args.kept.now) c.args.nodemap.now c.args.first c.args.n (length-take-le c.args.n c.args.kept.now c.requires.0))

pub offset_bounds-nodemap-wide : goal.offset_bounds-nodemap-wide
offset_bounds-nodemap-wide c = omega (arith, front_row c.args.kept.now c.args.n c.loop-i.i c.wide.result (length c.args.nodemap.now) c.loop-i-test.true (omega arith) c.requires.0 c.wide.ensures c.requires.2)

pub bounds-nodemap-wide : goal.bounds-nodemap-wide
bounds-nodemap-wide c = omega (arith, front_row c.args.kept.now c.args.n c.loop-i.i c.wide.result (length c.args.nodemap.now) c.loop-i-test.true (omega arith) c.requires.0 c.wide.ensures c.requires.2)

pub loop-i-preserved : goal.loop-i-preserved
loop-i-preserved c = let l : length (take c.args.n c.args.kept.now) ≡ c.args.n = length-take-le c.args.n c.args.kept.now c.requires.0 in
    (length-set c.loop-i.nodemap c.wide.result _ ∙ c.loop-i.invariant.0, one_placed (take c.args.n c.args.kept.now) c.args.nodemap.now c.loop-i.nodemap c.args.first c.loop-i.i c.wide.result c.loop-i-test.true (omega arith) (front_cell c.args.kept.now c.args.n c.loop-i.i c.wide.result c.loop-i-test.true (omega arith) c.wide.ensures) (omega (arith, front_row c.args.kept.now c.args.n c.loop-i.i c.wide.result (length c.args.nodemap.now) c.loop-i-test.true (omega arith) c.requires.0 c.wide.ensures c.requires.2)) c.loop-i.invariant.1)

pub returns : goal.returns
returns c = all_placed (take c.args.n c.args.kept.now) c.args.nodemap.now c.loop-i.nodemap c.args.first c.loop-i.i c.loop-i-test.false c.loop-i.invariant.0 c.loop-i.invariant.1
