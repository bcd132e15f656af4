-- `sweep::step` meets its contract: what each call asks follows from what the calls before it left, and all of them bring the sweep to the
-- next change.
use mathlib.Core.Path.{refl}
use Rattle.tree.proofs.Moving.{lefts_index, rights_index}
use Rattle.sweep.proofs.Stepping.{advance_ready, settle_ready, place_ready}
use Rattle.sweep.proofs.Coming.{came}
use Rattle.sweep.proofs.step.Goals as goal

pub advance-c-requires : goal.advance-c-requires
advance-c-requires c = (c.requires.0.tree, advance_ready c.requires.0 refl)

pub settle-made-requires : goal.settle-made-requires
settle-made-requires c = let a : _ = c.advance-c.ensures in settle_ready c.requires.0 a.0 a.2

pub next_change-next-requires : goal.next_change-next-requires
next_change-next-requires c = let a : _ = c.advance-c.ensures in (lefts_index a.0.plan, rights_index a.0.plan)

pub place-p-requires : goal.place-p-requires
place-p-requires c = let a : _ = c.advance-c.ensures in (a.0.kept.mended, a.0.kept.low, place_ready c.requires.0 a.0)

pub returns : goal.returns
returns c = let st : _ = c.requires.0 in
    let a : _ = c.advance-c.ensures in
    came _ st c.requires.1 a.0 a.1 a.2 c.settle-made.ensures.0 c.settle-made.ensures.1 c.next_change-next.ensures c.place-p.ensures c.settle-made.auto.stood
