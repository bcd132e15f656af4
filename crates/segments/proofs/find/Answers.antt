-- `segments::find` meets its contract: no segment before the cursor holds x.
use Rattle.std.proofs.Common.{◌≡◌, ℕ, ◌<◌, Some, List, length, get_or, sym, ap, ◌∙◌}
use Rattle.std.proofs.lemmas.List.{get_or_default}
use Rattle.runs.specs.declared.Segment.{Segment}
use Rattle.segments.specs.Search.{no_segment, seg_at, covers, onward_start, onward_next, first_found, first_missing}
use Rattle.segments.proofs.find.Goals as goal

-- a segment read within the slice, whatever stands past its end
read_here : (l : List Segment) (i : ℕ) (d : Segment) → i < length l → get_or l i d ≡ seg_at l i
read_here l i d h = get_or_default l i d no_segment h

test_here : (l : List Segment) (i : ℕ) (d : Segment) (x : ℕ) → i < length l → covers (seg_at l i).left (seg_at l i).right x ≡ covers (get_or l i d).left (get_or l i d).right x
test_here l i d x h = ap (λ (s : Segment). covers s.left s.right x) (sym (read_here l i d h))

pub loop-seg-init : goal.loop-seg-init
loop-seg-init c = onward_start _ _

pub returns-then-holds : goal.returns-then-holds
returns-then-holds c =
    let zero : Segment = record { left = 0; right = 0; row = 0 } in
    let s : List Segment = c.args.s.now in
    ap (λ (t : Segment). Some t.row) (read_here s c.loop-seg.seg-index zero c.loop-seg-test.true)
    ∙ first_found s c.args.x c.loop-seg.seg-index c.loop-seg-test.true c.loop-seg.invariant
    (test_here s c.loop-seg.seg-index zero c.args.x c.loop-seg-test.true ∙ sym c.holds.ensures ∙ c.if-holds.true)

pub loop-seg-preserved : goal.loop-seg-preserved
loop-seg-preserved c =
    let zero : Segment = record { left = 0; right = 0; row = 0 } in
    let s : List Segment = c.args.s.now in
    onward_next s c.args.x c.loop-seg.seg-index c.loop-seg-test.true c.loop-seg.invariant
    (test_here s c.loop-seg.seg-index zero c.args.x c.loop-seg-test.true ∙ sym c.holds.ensures ∙ c.if-holds.false)

pub returns : goal.returns
returns c = first_missing _ _ c.loop-seg.seg-index c.loop-seg.auto.seg-index-end c.loop-seg-test.false c.loop-seg.invariant
