-- `parent_from` meets its contract: the edge before the place found holds, or none does up to that place.
use mathlib.Core.Path.{◌∙◌}
use Rattle.ancestry.proofs.Stretching.{places, lefts, from_before, none_stretch, over_stretch, held_stretch}
use native.Mathlib.Omega.{arith}
use Rattle.ancestry.proofs.lookup.parent_from.Goals as goal

pub place_after-place-requires : goal.place_after-place-requires
place_after-place-requires c = lefts _ _ _ _ _ _ (places _ _ _ _ c.args.index.indexed _ c.requires c.first_place-low.ensures) _ (omega arith) (places _ _ _ _ c.args.index.indexed _ c.requires c.first_place-low.ensures).order

pub none_from-requires : goal.none_from-requires
none_from-requires c = lefts _ _ _ _ _ _ (places _ _ _ _ c.args.index.indexed _ c.requires c.first_place-low.ensures) _ c.place_after-place.ensures.start c.place_after-place.ensures.inside

pub returns-then-place-low : goal.returns-then-place-low
returns-then-place-low c = c.none_from.ensures ∙ none_stretch _ _ _ _ _ _ (places _ _ _ _ c.args.index.indexed _ c.requires c.first_place-low.ensures) _ _ c.place_after-place.ensures (λ p e h. absurd (omega (arith, c.if-place-low.true)))

pub none_from-requires-then-cell_at-x : goal.none_from-requires-then-cell_at-x
none_from-requires-then-cell_at-x c = lefts _ _ _ _ _ _ (places _ _ _ _ c.args.index.indexed _ c.requires c.first_place-low.ensures) _ c.place_after-place.ensures.start c.place_after-place.ensures.inside

pub returns-then-cell_at-x : goal.returns-then-cell_at-x
returns-then-cell_at-x c = c.none_from-then-cell_at-x.ensures ∙ over_stretch _ _ _ _ _ _ (places _ _ _ _ c.args.index.indexed _ c.requires c.first_place-low.ensures) _ _ c.place_after-place.ensures c.cell_at.ensures c.if-cell_at-x.true

pub carried_end-requires : goal.carried_end-requires
carried_end-requires c = from_before _ _ _ _ _ _ (places _ _ _ _ c.args.index.indexed _ c.requires c.first_place-low.ensures) _ c.if-place-low.false c.place_after-place.ensures.inside

pub returns : goal.returns
returns c = held_stretch _ _ _ _ _ _ (places _ _ _ _ c.args.index.indexed _ c.requires c.first_place-low.ensures) _ _ c.place_after-place.ensures c.cell_at.ensures c.if-place-low.false c.if-cell_at-x.false c.cell_at-2.ensures c.carried_end.ensures
