-- `rows_of` meets its contract: after i cells the front of out has the rows of the first i births.
use native.Mathlib.Omega.{arith}
use mathlib.Core.Path.{◌≡◌, sym, ◌∙◌}
use mathlib.Core.List.{◌++◌, map}
use lib.ListN.{length, length-map}
use Rattle.meaning.specs.Words.{index_of}
use Rattle.laws.specs.Members.{at_map}
use Rattle.batches.proofs.Fronts.{front_none, front_more, front_whole, front_cell}
use Rattle.batches.proofs.columns.rows_of.Goals as goal

pub loop-i-init : goal.loop-i-init
loop-i-init c = front_none _ _

pub next_row-row-requires : goal.next_row-row-requires
next_row-row-requires c = (c.loop-i-test.true, omega (arith, c.requires.0, c.loop-i.invariant.long), c.requires.1, λ j h. front_cell (map (λ b. index_of b (c.args.nodes.base.ages.birth.now ++ c.args.nodes.batch.ages.birth.now)) c.args.names.now) _ _ _ c.loop-i.invariant j h (omega (arith, length-map c.args.names.now (λ b. index_of b (c.args.nodes.base.ages.birth.now ++ c.args.nodes.batch.ages.birth.now)))) ∙ at_map (λ b. index_of b (c.args.nodes.base.ages.birth.now ++ c.args.nodes.batch.ages.birth.now)) c.args.names.now j (omega (arith, c.loop-i-test.true)))

pub offset_bounds-out-i : goal.offset_bounds-out-i
offset_bounds-out-i c = omega (arith, c.loop-i.invariant.long, c.loop-i-test.true, c.requires.0)

pub bounds-out-i : goal.bounds-out-i
bounds-out-i c = omega (arith, c.loop-i.invariant.long, c.loop-i-test.true, c.requires.0)

pub loop-i-preserved : goal.loop-i-preserved
loop-i-preserved c = front_more (map (λ b. index_of b (c.args.nodes.base.ages.birth.now ++ c.args.nodes.batch.ages.birth.now)) c.args.names.now) _ _ _ _ (omega (arith, length-map c.args.names.now (λ b. index_of b (c.args.nodes.base.ages.birth.now ++ c.args.nodes.batch.ages.birth.now)), c.loop-i-test.true)) (omega (arith, c.loop-i-test.true, c.requires.0)) (c.next_row-row.ensures ∙ sym (at_map (λ b. index_of b (c.args.nodes.base.ages.birth.now ++ c.args.nodes.batch.ages.birth.now)) c.args.names.now _ c.loop-i-test.true)) c.loop-i.invariant

pub shape_of-out : goal.shape_of-out
shape_of-out c = c.loop-i.invariant.long

pub returns : goal.returns
returns c = let q : c.loop-i.i ≡ length (map (λ b. index_of b (c.args.nodes.base.ages.birth.now ++ c.args.nodes.batch.ages.birth.now)) c.args.names.now) = omega (arith, length-map c.args.names.now (λ b. index_of b (c.args.nodes.base.ages.birth.now ++ c.args.nodes.batch.ages.birth.now)), c.loop-i-test.false) in front_whole _ _ _ _ q c.loop-i.invariant
