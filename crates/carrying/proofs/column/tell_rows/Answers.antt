-- `tell_rows` meets its contract: the rows gone over have their bytes.
use mathlib.Core.Path.{refl, ◌∙◌}
use lib.ListN.{length-set}
use Rattle.carrying.proofs.RowByRow.{none_told, one_more, all_told, still_ready}
use native.Mathlib.Omega.{arith}
use Rattle.carrying.proofs.column.tell_rows.Goals as goal

pub loop-j-init : goal.loop-j-init
loop-j-init c = record { same = (refl, refl); kids_same = (refl, refl); long = refl; kids_long = refl; told_long = refl; state_long = refl; states_long = refl; flags_long = refl; known = c.requires.1; kids = c.requires.2; rows = none_told }

pub bounds-rows-j : goal.bounds-rows-j
bounds-rows-j c = omega (arith, c.loop-j-test.true, c.requires.3)

pub tell_row-carried-requires : goal.tell_row-carried-requires
tell_row-carried-requires c = (still_ready c.loop-j.invariant.long c.loop-j.invariant.kids_long c.loop-j.invariant.told_long c.loop-j.invariant.state_long c.requires.0, c.loop-j.invariant.known, c.loop-j.invariant.kids, c.requires.6 _ c.loop-j-test.true)

pub bounds-states-j : goal.bounds-states-j
bounds-states-j c = omega (arith, c.loop-j-test.true, c.requires.4, c.loop-j.invariant.states_long)

pub bounds-flags-j : goal.bounds-flags-j
bounds-flags-j c = omega (arith, c.loop-j-test.true, c.requires.5, c.loop-j.invariant.flags_long)

pub loop-j-preserved : goal.loop-j-preserved
loop-j-preserved c = record {
  same = (c.tell_row-carried.ensures.same.0 ∙ c.loop-j.invariant.same.0, c.tell_row-carried.ensures.same.1 ∙ c.loop-j.invariant.same.1);
  kids_same = (c.tell_row-carried.ensures.kids_same.0 ∙ c.loop-j.invariant.kids_same.0, c.tell_row-carried.ensures.kids_same.1 ∙ c.loop-j.invariant.kids_same.1);
  long = c.tell_row-carried.ensures.long ∙ c.loop-j.invariant.long;
  kids_long = c.tell_row-carried.ensures.kids_long ∙ c.loop-j.invariant.kids_long;
  told_long = c.tell_row-carried.auto.told ∙ c.loop-j.invariant.told_long;
  state_long = c.tell_row-carried.auto.state ∙ c.loop-j.invariant.state_long;
  states_long = simp length-set c.loop-j.invariant.states_long;
  flags_long = simp length-set c.loop-j.invariant.flags_long;
  known = c.tell_row-carried.ensures.known;
  kids = c.tell_row-carried.ensures.kids;
  rows = one_more _ (omega (arith, c.loop-j-test.true, c.requires.4, c.loop-j.invariant.states_long)) (omega (arith, c.loop-j-test.true, c.requires.5, c.loop-j.invariant.flags_long)) c.unwrap_or.ensures c.is_none.ensures c.loop-j.invariant.rows c.tell_row-carried.ensures.row;
}

pub shape_of-told : goal.shape_of-told
shape_of-told c = c.loop-j.invariant.told_long

pub shape_of-state : goal.shape_of-state
shape_of-state c = c.loop-j.invariant.state_long

pub shape_of-states : goal.shape_of-states
shape_of-states c = c.loop-j.invariant.states_long

pub shape_of-flags : goal.shape_of-flags
shape_of-flags c = c.loop-j.invariant.flags_long

pub returns-clause-rows : goal.returns-clause-rows
returns-clause-rows c = all_told c.loop-j-test.false c.loop-j.invariant.rows
