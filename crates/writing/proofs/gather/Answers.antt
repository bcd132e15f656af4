-- `writing::gather` meets its contract: the cells at the first i rows stand at the front.
use Rattle.std.proofs.Common.{arith, ◌∙◌, length, length-take}
use Rattle.std.proofs.lemmas.List.{get_or_default}
use lib.Seq.{length-take-le}
use Rattle.writing.proofs.Filling.{gather_start, gather_next, gather_end}
use Rattle.writing.proofs.gather.Goals as goal

pub loop-i-init : goal.loop-i-init
loop-i-init g c = gather_start _ _ _

pub offset_bounds-src-r : goal.offset_bounds-src-r
offset_bounds-src-r g c = omega (arith, c.requires.2.row c.loop-i.i c.loop-i-test.true)

pub bounds-src-r : goal.bounds-src-r
bounds-src-r g c = omega (arith, c.requires.2.row c.loop-i.i c.loop-i-test.true)

pub loop-i-preserved : goal.loop-i-preserved
loop-i-preserved g c =
    gather_next _ _ _ c.loop-i.out c.loop-i.i _ c.index-src-r.result (omega arith) c.loop-i-test.true
    (omega (arith, c.loop-i-test.true, length-take-le c.args.k c.args.rows.now c.requires.0, c.requires.1))
    (λ other. c.index-src-r.is ∙ get_or_default c.args.src.now _ c.index-src-r.result other (omega (arith, c.requires.2.row c.loop-i.i c.loop-i-test.true)))
    c.loop-i.invariant

pub returns : goal.returns
returns g c = gather_end _ _ _ c.loop-i.out c.loop-i.i (omega (arith, c.loop-i-test.false)) c.loop-i.invariant
