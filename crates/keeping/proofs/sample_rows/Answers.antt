-- `keeping::sample_rows` meets its contract: the rows of the samples passed stand at the front, and are marked.
use Rattle.laws.specs.Counting.{row_some}
use Rattle.order.specs.Ranks.{place_in-some}
use mathlib.Core.Path.{refl, sym, ap, ◌∙◌}
use Prim.Native.Nat.{◌<◌, ◌≤◌, ◌-◌}
use lib.ListN.{length, set, length-set}
use Rattle.meaning.specs.Words.{at}
use Rattle.byrows.specs.Rows.{sample_rows}
use Rattle.keeping.specs.Fronts.{put_none, length_samples, at_samples}
use Rattle.keeping.proofs.Cells.{none_marked, front_more, marks_more, front_all, marks_all}
use Rattle.laws.specs.Members.{index_below}
use native.Mathlib.Omega.{arith}
use borrow.Author.Rules.{rules}
use Rattle.keeping.proofs.sample_rows.Goals as goal

pub loop-i-init : goal.loop-i-init
loop-i-init c = (refl, refl, put_none c.args.srow.now, none_marked _ _ c.unmark.ensures)

pub row_of-requires : goal.row_of-requires
row_of-requires c = record { ranked = λ e. c.requires.4 }

pub unwrap-r-requires : goal.unwrap-r-requires
unwrap-r-requires c = rw (c.row_of.ensures ∙ row_some (index_below (at c.args.samples.now c.loop-i.i) c.args.birth.now (c.requires.0 c.loop-i.i c.loop-i-test.true))) refl

pub overflow_cast-srow : goal.overflow_cast-srow
overflow_cast-srow c = omega (arith, (place_in-some (at c.args.samples.now c.loop-i.i) c.args.birth.now c.unwrap-r.result (sym c.unwrap-r.ensures ∙ c.row_of.ensures)).0, c.requires.2, index_below (at c.args.samples.now c.loop-i.i) c.args.birth.now (c.requires.0 c.loop-i.i c.loop-i-test.true))

pub bounds-sample-r : goal.bounds-sample-r
bounds-sample-r c = omega (arith, (place_in-some (at c.args.samples.now c.loop-i.i) c.args.birth.now c.unwrap-r.result (sym c.unwrap-r.ensures ∙ c.row_of.ensures)).0, index_below (at c.args.samples.now c.loop-i.i) c.args.birth.now (c.requires.0 c.loop-i.i c.loop-i-test.true), c.unmark.auto.marks, c.loop-i.invariant.1, c.requires.3)

pub loop-i-preserved : goal.loop-i-preserved
loop-i-preserved c = let l : c.loop-i.i < length (sample_rows c.args.birth.now c.args.samples.now) = omega (arith, length_samples c.args.birth.now c.args.samples.now) in (
  length-set c.loop-i.srow c.loop-i.i c.unwrap-r.result ∙ c.loop-i.invariant.0,
  length-set c.loop-i.sample c.unwrap-r.result 1 ∙ c.loop-i.invariant.1,
  ap (λ z. set z c.loop-i.i c.unwrap-r.result) c.loop-i.invariant.2 ∙ front_more (sample_rows c.args.birth.now c.args.samples.now) c.args.srow.now c.loop-i.i c.unwrap-r.result l (omega arith) (at_samples c.args.birth.now c.args.samples.now c.loop-i.i c.loop-i-test.true ∙ sym ((place_in-some (at c.args.samples.now c.loop-i.i) c.args.birth.now c.unwrap-r.result (sym c.unwrap-r.ensures ∙ c.row_of.ensures)).0)),
  marks_more c.loop-i.sample (sample_rows c.args.birth.now c.args.samples.now) c.loop-i.i c.unwrap-r.result l (at_samples c.args.birth.now c.args.samples.now c.loop-i.i c.loop-i-test.true ∙ sym ((place_in-some (at c.args.samples.now c.loop-i.i) c.args.birth.now c.unwrap-r.result (sym c.unwrap-r.ensures ∙ c.row_of.ensures)).0)) (omega (arith, index_below (at c.args.samples.now c.loop-i.i) c.args.birth.now (c.requires.0 c.loop-i.i c.loop-i-test.true), c.unmark.auto.marks, (place_in-some (at c.args.samples.now c.loop-i.i) c.args.birth.now c.unwrap-r.result (sym c.unwrap-r.ensures ∙ c.row_of.ensures)).0, c.loop-i.invariant.1, c.requires.3)) c.loop-i.invariant.3,
)

pub returns : goal.returns
returns c = let l : length (sample_rows c.args.birth.now c.args.samples.now) ≤ c.loop-i.i = omega (arith, length_samples c.args.birth.now c.args.samples.now) in (
  front_all (sample_rows c.args.birth.now c.args.samples.now) c.args.srow.now c.loop-i.srow c.loop-i.i l c.loop-i.invariant.2,
  marks_all (sample_rows c.args.birth.now c.args.samples.now) c.loop-i.sample (length c.args.birth.now) c.loop-i.i (omega (arith, c.unmark.auto.marks, c.loop-i.invariant.1, c.requires.3)) l c.loop-i.invariant.3,
)
