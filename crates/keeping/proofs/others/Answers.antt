-- `keeping::others` meets its contract: what is collected is sorted.
use mathlib.Core.Path.{sym, ◌∙◌}
use Prim.Native.Nat.{◌≤◌}
use lib.ListN.{length}
use lib.Seq.{length-take-le}
use Rattle.keeping.specs.Others.{other_rows}
use Rattle.keeping.specs.Fronts.{put_front}
use Rattle.keeping.proofs.Collecting.{others_few, others_inside}
use Rattle.keeping.proofs.Ordering.{part_sorted}
use native.Mathlib.Omega.{arith}
use Rattle.keeping.proofs.others.Goals as goal

pub slice_bounds-sort_rows-end : goal.slice_bounds-sort_rows-end
slice_bounds-sort_rows-end c = let l : c.collect-k.result ≤ length c.collect-k.new.out = omega (arith, others_few c.args.stood.now c.args.sample.now, c.collect-k.ensures.0, c.collect-k.auto.out, c.requires.3) in l

pub slice_bounds-sort_rows-end-2 : goal.slice_bounds-sort_rows-end-2
slice_bounds-sort_rows-end-2 c = let l : c.collect-k.result ≤ length c.collect-k.new.out = omega (arith, others_few c.args.stood.now c.args.sample.now, c.collect-k.ensures.0, c.collect-k.auto.out, c.requires.3) in sym (length-take-le c.collect-k.result c.collect-k.new.out l)

pub sort_rows-requires : goal.sort_rows-requires
sort_rows-requires c = (
  record { second = omega arith; third = omega arith; fourth = omega arith },
  rw (put_front (other_rows c.args.stood.now c.args.sample.now) c.args.out.now c.collect-k.new.out c.collect-k.result c.collect-k.ensures.0 c.collect-k.ensures.1) (others_inside c.args.stood.now c.args.sample.now (length c.args.time.now) c.requires.1),
)

pub returns : goal.returns
returns c = let l : c.collect-k.result ≤ length c.collect-k.new.out = omega (arith, others_few c.args.stood.now c.args.sample.now, c.collect-k.ensures.0, c.collect-k.auto.out, c.requires.3) in
    part_sorted c.args.time.now c.args.birth.now c.args.stood.now c.args.sample.now c.requires.2 c.requires.5 c.collect-k.result c.args.out.now c.collect-k.new.out c.sort_rows.new.idx c.collect-k.ensures.0 c.collect-k.ensures.1 (c.sort_rows.auto.idx ∙ length-take-le c.collect-k.result c.collect-k.new.out l) c.sort_rows.ensures
