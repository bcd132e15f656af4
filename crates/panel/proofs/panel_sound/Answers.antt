-- `panel_sound` meets its contract: no single call, the first refusal, no room, or all written.
use mathlib.Core.Path.{refl, ap, ◌∙◌}
use mathlib.Core.Bool.{not}
use mathlib.Core.Logic.{inl, inr}
use Prim.Native.Nat.{◌*◌, ◌≤◌}
use native.Mathlib.Omega.{arith}
use lib.ListN.{length}
use Rattle.laws.specs.Passing.{passed_on}
use Rattle.meaning.specs.Panel.{panel_of}
use Rattle.panel.specs.Whole.{nothing, no_room, all_done}
use Rattle.panel.proofs.Calling.{some_of, refused_first, told_sound, one_short, both_long}
use Rattle.panel.proofs.panel_sound.Goals as goal

pub returns-then-sites-eq0 : goal.returns-then-sites-eq0
returns-then-sites-eq0 c = nothing _ _ _ _ _ _ (inl c.if-sites-eq0.true)

pub returns-then-fish-eq0 : goal.returns-then-fish-eq0
returns-then-fish-eq0 c = nothing _ _ _ _ _ _ (inr c.if-fish-eq0.true)

pub first_refused-requires : goal.first_refused-requires
first_refused-requires c = (c.requires.4, some_of _ c.if-sites-eq0.false, some_of _ c.if-fish-eq0.false)

pub both_have_room-requires : goal.both_have_room-requires
both_have_room-requires c = some_of _ c.if-sites-eq0.false

pub returns-then-not-both_have_room : goal.returns-then-not-both_have_room
returns-then-not-both_have_room c = no_room _ _ _ _ _ _ _ c.requires.0 (told_sound _ _ _ _ _ c.first_refused.ensures c.in_ok-first_refused.was) (one_short c.both_have_room.result (ap not c.if-not-both_have_room.true) c.both_have_room.ensures)

pub fill_blocks-requires : goal.fill_blocks-requires
fill_blocks-requires c = (c.requires.0, c.requires.1, c.requires.2, c.requires.3, c.requires.4, told_sound _ _ _ _ _ c.first_refused.ensures c.in_ok-first_refused.was, (both_long c.both_have_room.result (ap not c.if-not-both_have_room.false) c.both_have_room.ensures).0, (both_long c.both_have_room.result (ap not c.if-not-both_have_room.false) c.both_have_room.ensures).1)

pub overflow_mul-result : goal.overflow_mul-result
overflow_mul-result c = let q : length c.args.fish.now * length c.args.sites.now ≤ length c.args.states.now = (both_long c.both_have_room.result (ap not c.if-not-both_have_room.false) c.both_have_room.ensures).0 in omega (arith)

pub returns-in_err-first_refused : goal.returns-in_err-first_refused
returns-in_err-first_refused c = ap (λ o. panel_of o c.args.states.now c.args.flags.now) (passed_on c.from_residual.ensures.1) ∙ refused_first _ _ _ _ _ _ _ _ c.first_refused.ensures c.in_err-first_refused.was

pub returns : goal.returns
returns c = all_done _ _ _ _ _ _ _ c.requires.0 (told_sound _ _ _ _ _ c.first_refused.ensures c.in_ok-first_refused.was) _ _ _ refl (both_long c.both_have_room.result (ap not c.if-not-both_have_room.false) c.both_have_room.ensures).0 (both_long c.both_have_room.result (ap not c.if-not-both_have_room.false) c.both_have_room.ensures).1 c.fill_blocks.ensures.0 c.fill_blocks.ensures.1
