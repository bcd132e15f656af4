-- `panel_lent` meets its contract: the check's refusal, or the panel after it.
use mathlib.Core.Path.{refl, sym, ap, ◌∙◌}
use lib.Seq.{length-take-le}
use Rattle.laws.specs.Passing.{passed_on}
use Rattle.meaning.specs.Panel.{panel_of}
use Rattle.alleles.proofs.Whole.{sound_shaped, sound_readable, edges_room, births_room, still_readable, still_ranked}
use Rattle.panel.proofs.Calling.{still_named, still_few_sites, still_few_mutations, still_after, sites_named, few_sites, few_mutations, whole_refused, whole_sound}
use Rattle.panel.proofs.panel_lent.Goals as goal

pub slice_bounds-panel_sound-end : goal.slice_bounds-panel_sound-end
slice_bounds-panel_sound-end c = edges_room _ _ c.check_lent.result c.check_lent.ensures.0 _ _ c.check_lent.ensures.1 c.in_ok-check_lent.was _ refl (c.check_lent.auto.by_child ∙ c.requires.0)

pub slice_bounds-panel_sound-end-2 : goal.slice_bounds-panel_sound-end-2
slice_bounds-panel_sound-end-2 c = sym (length-take-le _ _ (edges_room _ _ c.check_lent.result c.check_lent.ensures.0 _ _ c.check_lent.ensures.1 c.in_ok-check_lent.was _ refl (c.check_lent.auto.by_child ∙ c.requires.0)))

pub slice_bounds-panel_sound-end-3 : goal.slice_bounds-panel_sound-end-3
slice_bounds-panel_sound-end-3 c = births_room _ _ c.check_lent.result c.check_lent.ensures.0 _ _ c.check_lent.ensures.1 c.in_ok-check_lent.was _ refl (c.check_lent.auto.by_birth ∙ c.requires.1)

pub slice_bounds-panel_sound-end-4 : goal.slice_bounds-panel_sound-end-4
slice_bounds-panel_sound-end-4 c = sym (c.check_lent.ensures.1.births c.in_ok-check_lent.was).long

pub evened-requires : goal.evened-requires
evened-requires c = sound_shaped _ _ c.check_lent.result c.check_lent.ensures.0 c.in_ok-check_lent.was

pub panel_sound-requires : goal.panel_sound-requires
panel_sound-requires c =
    let named : _ = still_named c.evened.ensures (sites_named _ _ c.check_lent.result c.check_lent.ensures.0 c.in_ok-check_lent.was) in (
      still_readable c.evened.ensures (sound_readable _ _ c.check_lent.result c.check_lent.ensures.0 _ _ c.check_lent.ensures.1 c.in_ok-check_lent.was),
      named,
      still_few_sites c.evened.ensures (few_sites _ _ c.check_lent.result c.check_lent.ensures.0 c.in_ok-check_lent.was),
      still_few_mutations c.evened.ensures (few_mutations _ _ c.check_lent.result c.check_lent.ensures.0 c.in_ok-check_lent.was),
      still_ranked c.evened.ensures (c.check_lent.ensures.1.births c.in_ok-check_lent.was),
    )

pub returns-in_err-check_lent : goal.returns-in_err-check_lent
returns-in_err-check_lent c = ap (λ o. panel_of o c.args.states.now c.args.flags.now) (passed_on c.from_residual.ensures.1) ∙ whole_refused _ _ c.check_lent.result c.check_lent.ensures.0 _ _ _ _ _ c.in_err-check_lent.was

pub returns : goal.returns
returns c = whole_sound _ _ c.check_lent.result c.check_lent.ensures.0 _ _ _ _ _ c.in_ok-check_lent.was (still_after _ _ _ _ _ c.evened.ensures c.panel_sound.ensures)
