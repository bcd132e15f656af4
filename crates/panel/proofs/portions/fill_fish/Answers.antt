-- `portions::fill_fish` meets its contract: portion after portion, each found and told.
use mathlib.Core.Path.{refl, ◌∙◌}
use native.Mathlib.Omega.{arith}
use lib.ListN.{length}
use Rattle.blocks.specs.Block.{no_fish_yet}
use Rattle.panel.proofs.Taking.{taken_more, portion_room, fish_all}
use Rattle.panel.proofs.portions.fill_fish.Goals as goal

pub loop-base-init : goal.loop-base-init
loop-base-init c = record {
  same = (refl, refl);
  kids_same = (refl, refl);
  long = refl;
  kids_long = refl;
  own_long = refl;
  told_long = refl;
  state_long = refl;
  taken = record {
    few = omega arith;
    kept = c.requires.2;
    rows_long = refl;
    column_long = refl;
    gaps_long = refl;
    states_done = no_fish_yet _ _ _;
    flags_done = no_fish_yet _ _ _;
  };
}

pub overflow_sub-fish : goal.overflow_sub-fish
overflow_sub-fish c = omega (arith, c.loop-base-test.true)

pub find_rows-requires : goal.find_rows-requires
find_rows-requires c = (c.requires.1, omega (arith, c.loop-base-test.true, c.min-k.ensures), omega (arith, c.min-k.ensures, c.requires.4, c.loop-base.invariant.taken.rows_long), omega (arith, c.requires.0.readable.births_long, c.requires.0.readable.few), c.requires.3.fish_known)

pub fill_portion-trail-requires : goal.fill_portion-trail-requires
fill_portion-trail-requires c = (
  c.requires.0,
  c.loop-base.invariant.taken.kept,
  c.requires.3,
  c.find_rows.ensures,
  omega (arith, c.loop-base-test.true, c.min-k.ensures),
  omega (arith, c.min-k.ensures, c.requires.4, c.loop-base.invariant.taken.rows_long, c.find_rows.auto.rows),
  omega (arith, c.min-k.ensures, c.requires.5, c.loop-base.invariant.taken.column_long),
  omega (arith, c.min-k.ensures, c.requires.6, c.loop-base.invariant.taken.gaps_long),
  portion_room _ (length c.args.fish.now) _ _ (omega (arith, c.loop-base-test.true, c.min-k.ensures)) (omega (arith, c.requires.7, c.loop-base.invariant.taken.states_done.long)),
  portion_room _ (length c.args.fish.now) _ _ (omega (arith, c.loop-base-test.true, c.min-k.ensures)) (omega (arith, c.requires.8, c.loop-base.invariant.taken.flags_done.long)),
)

pub overflow_add-base : goal.overflow_add-base
overflow_add-base c = omega (arith, c.loop-base-test.true, c.min-k.ensures)

pub loop-base-smaller : goal.loop-base-smaller
loop-base-smaller c = omega (arith, c.loop-base-test.true, c.min-k.ensures)

pub loop-base-preserved : goal.loop-base-preserved
loop-base-preserved c = record {
  same = (c.fill_portion-trail.ensures.same.0 ∙ c.loop-base.invariant.same.0, c.fill_portion-trail.ensures.same.1 ∙ c.loop-base.invariant.same.1);
  kids_same = (c.fill_portion-trail.ensures.kids_same.0 ∙ c.loop-base.invariant.kids_same.0, c.fill_portion-trail.ensures.kids_same.1 ∙ c.loop-base.invariant.kids_same.1);
  long = c.fill_portion-trail.ensures.long ∙ c.loop-base.invariant.long;
  kids_long = c.fill_portion-trail.ensures.kids_long ∙ c.loop-base.invariant.kids_long;
  own_long = c.fill_portion-trail.auto.own ∙ c.loop-base.invariant.own_long;
  told_long = c.fill_portion-trail.auto.told ∙ c.loop-base.invariant.told_long;
  state_long = c.fill_portion-trail.auto.state ∙ c.loop-base.invariant.state_long;
  taken = taken_more _ _ _ _ _ _ _ _ _ _ _ _ _ _ _ _ _ _ _ _ _ _ _ _ _ _ (omega (arith, c.loop-base-test.true, c.min-k.ensures)) c.loop-base.invariant.taken
      c.find_rows.auto.rows c.fill_portion-trail.auto.column c.fill_portion-trail.auto.gaps c.fill_portion-trail.ensures.kept c.fill_portion-trail.ensures.states c.fill_portion-trail.ensures.flags;
}

pub shape_of-rows : goal.shape_of-rows
shape_of-rows c = c.loop-base.invariant.taken.rows_long

pub shape_of-own : goal.shape_of-own
shape_of-own c = c.loop-base.invariant.own_long

pub shape_of-told : goal.shape_of-told
shape_of-told c = c.loop-base.invariant.told_long

pub shape_of-state : goal.shape_of-state
shape_of-state c = c.loop-base.invariant.state_long

pub shape_of-column : goal.shape_of-column
shape_of-column c = c.loop-base.invariant.taken.column_long

pub shape_of-gaps : goal.shape_of-gaps
shape_of-gaps c = c.loop-base.invariant.taken.gaps_long

pub shape_of-states : goal.shape_of-states
shape_of-states c = c.loop-base.invariant.taken.states_done.long

pub shape_of-flags : goal.shape_of-flags
shape_of-flags c = c.loop-base.invariant.taken.flags_done.long

pub returns-clause-written : goal.returns-clause-written
returns-clause-written c = (fish_all _ _ _ _ _ _ c.loop-base.invariant.taken.few c.loop-base-test.false c.loop-base.invariant.taken.states_done, fish_all _ _ _ _ _ _ c.loop-base.invariant.taken.few c.loop-base-test.false c.loop-base.invariant.taken.flags_done)
