-- `portions::fill_portion` meets its contract: site after site, told and written.
use mathlib.Core.Path.{refl, ◌∙◌}
use native.Mathlib.Omega.{arith}
use Rattle.blocks.specs.Block.{no_site_yet}
use Rattle.panel.proofs.Taking.{rows_inside, told_more, sites_all}
use Rattle.panel.proofs.portions.fill_portion.Goals as goal

pub loop-j-init : goal.loop-j-init
loop-j-init c = record {
  same = (refl, refl);
  kids_same = (refl, refl);
  long = refl;
  kids_long = refl;
  own_long = refl;
  told_long = refl;
  state_long = refl;
  telling = record {
    kept = c.requires.1;
    column_long = refl;
    gaps_long = refl;
    states_done = no_site_yet _ _ _ _ _;
    flags_done = no_site_yet _ _ _ _ _;
  };
}

pub tell_site-reached-requires : goal.tell_site-reached-requires
tell_site-reached-requires c = (c.requires.0, c.loop-j.invariant.telling.kept, c.requires.2.sites_there _ c.loop-j-test.true, c.requires.5, omega (arith, c.requires.6, c.loop-j.invariant.telling.column_long), omega (arith, c.requires.7, c.loop-j.invariant.telling.gaps_long), rows_inside _ _ _ _ _ _ _ _ c.requires.3 c.requires.2 c.requires.0.readable.births_long c.requires.4)

pub scatter-requires : goal.scatter-requires
scatter-requires c = (omega (arith, c.requires.6, c.loop-j.invariant.telling.column_long, c.tell_site-reached.auto.states), c.loop-j-test.true, omega (arith, c.requires.8, c.loop-j.invariant.telling.states_done.long))

pub scatter-requires-in-loop-j : goal.scatter-requires-in-loop-j
scatter-requires-in-loop-j c = (omega (arith, c.requires.7, c.loop-j.invariant.telling.gaps_long, c.tell_site-reached.auto.flags), c.loop-j-test.true, omega (arith, c.requires.9, c.loop-j.invariant.telling.flags_done.long))

pub loop-j-preserved : goal.loop-j-preserved
loop-j-preserved c = record {
  same = (c.tell_site-reached.ensures.same.0 ∙ c.loop-j.invariant.same.0, c.tell_site-reached.ensures.same.1 ∙ c.loop-j.invariant.same.1);
  kids_same = (c.tell_site-reached.ensures.kids_same.0 ∙ c.loop-j.invariant.kids_same.0, c.tell_site-reached.ensures.kids_same.1 ∙ c.loop-j.invariant.kids_same.1);
  long = c.tell_site-reached.ensures.long ∙ c.loop-j.invariant.long;
  kids_long = c.tell_site-reached.ensures.kids_long ∙ c.loop-j.invariant.kids_long;
  own_long = c.tell_site-reached.auto.own ∙ c.loop-j.invariant.own_long;
  told_long = c.tell_site-reached.auto.told ∙ c.loop-j.invariant.told_long;
  state_long = c.tell_site-reached.auto.state ∙ c.loop-j.invariant.state_long;
  telling = told_more _ _ _ _ _ _ c.requires.3 _ _ _ _ _ _ _ _ _ _ _ _ _ _ _ _ _ _ _ c.loop-j-test.true c.loop-j.invariant.telling
      c.tell_site-reached.auto.states c.tell_site-reached.auto.flags c.tell_site-reached.ensures.column c.tell_site-reached.ensures.kept c.scatter.ensures c.scatter-in-loop-j.ensures;
}

pub shape_of-own : goal.shape_of-own
shape_of-own c = c.loop-j.invariant.own_long

pub shape_of-told : goal.shape_of-told
shape_of-told c = c.loop-j.invariant.told_long

pub shape_of-state : goal.shape_of-state
shape_of-state c = c.loop-j.invariant.state_long

pub shape_of-column : goal.shape_of-column
shape_of-column c = c.loop-j.invariant.telling.column_long

pub shape_of-gaps : goal.shape_of-gaps
shape_of-gaps c = c.loop-j.invariant.telling.gaps_long

pub shape_of-states : goal.shape_of-states
shape_of-states c = c.loop-j.invariant.telling.states_done.long

pub shape_of-flags : goal.shape_of-flags
shape_of-flags c = c.loop-j.invariant.telling.flags_done.long

pub returns-clause-states : goal.returns-clause-states
returns-clause-states c = sites_all _ _ _ _ _ _ _ (omega arith) c.loop-j-test.false c.loop-j.invariant.telling.states_done

pub returns-clause-flags : goal.returns-clause-flags
returns-clause-flags c = sites_all _ _ _ _ _ _ _ (omega arith) c.loop-j-test.false c.loop-j.invariant.telling.flags_done

pub returns-clause-kept : goal.returns-clause-kept
returns-clause-kept c = c.loop-j.invariant.telling.kept
