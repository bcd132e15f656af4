-- `mend::turn::gain` meets its contract: s stood before, or comes to stand.
use Rattle.std.proofs.Common.{sym, refl, ◌∙◌, arith}
use Rattle.mend.specs.Turns.{gain_calm, gain_stand}
use Rattle.mend.proofs.Turning.{settled_no}
use Rattle.mend.proofs.turn.gain.Goals as goal

pub is_settled-requires : goal.is_settled-requires
is_settled-requires c = λ n. let l : _ = c.requires.0.line n in (omega (arith, l.row, l.samples), omega (arith, l.row, l.counts))

pub put_up-requires : goal.put_up-requires
put_up-requires c = (omega (arith, c.requires.0.child, c.requires.0.ups), c.requires.1)

pub returns-then-is_settled : goal.returns-then-is_settled
returns-then-is_settled c = (gain_calm (sym c.is_settled.ensures ∙ c.if-is_settled.true) refl c.put_up.ensures.0, c.put_up.ensures.1)

pub bounds-low-s : goal.bounds-low-s
bounds-low-s c = let l : _ = c.requires.0.line (settled_no _ _ _ _ (sym c.is_settled.ensures ∙ c.if-is_settled.false)).0 in omega (arith, l.row, l.lows)

pub relabel-o-requires : goal.relabel-o-requires
relabel-o-requires c = c.requires.0.line (settled_no _ _ _ _ (sym c.is_settled.ensures ∙ c.if-is_settled.false)).0

pub seat-requires : goal.seat-requires
seat-requires c = let n : _ = (settled_no _ _ _ _ (sym c.is_settled.ensures ∙ c.if-is_settled.false)).0 in
    let p : _ = c.requires.0 in
    (omega (arith, p.child, p.ups), omega (arith, p.below n, p.ups), omega (arith, (p.line n).row, p.ups), c.requires.1)

pub returns : goal.returns
returns c = (gain_stand c.relabel-o.result (sym c.is_settled.ensures ∙ c.if-is_settled.false) c.relabel-o.ensures.0 c.relabel-o.ensures.1 c.seat.ensures.0, c.seat.ensures.1)
