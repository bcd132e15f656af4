-- halved meets its contract: the row at the first place with the number or more, or none.
use mathlib.Core.Path.{sym, ap, ◌∙◌}
use native.Mathlib.Omega.{arith}
use Rattle.meaning.specs.Words.{at}
use Rattle.order.specs.Ranks.{placed_row, placed_none, place_some, place_none}
use Rattle.order.proofs.ranks.halved.Goals as goal

pub place_of-p-requires : goal.place_of-p-requires
place_of-p-requires c = c.requires

pub returns-then-idx-p : goal.returns-then-idx-p
returns-then-idx-p c = place_none _ _ (placed_none c.args.l.now c.args.idx.now c.args.b c.place_of-p.result c.requires c.place_of-p.ensures (λ h e. omega (arith, c.requires.long, c.if-idx-p.true)))

pub offset_bounds-l-r : goal.offset_bounds-l-r
offset_bounds-l-r c = omega (arith, c.wide-r.ensures, c.requires.row c.place_of-p.result (omega (arith, c.requires.long, c.if-idx-p.false)))

pub bounds-l-r : goal.bounds-l-r
bounds-l-r c = omega (arith, c.wide-r.ensures, c.requires.row c.place_of-p.result (omega (arith, c.requires.long, c.if-idx-p.false)))

pub returns-then-l-r : goal.returns-then-l-r
returns-then-l-r c = place_none _ _ (placed_none c.args.l.now c.args.idx.now c.args.b c.place_of-p.result c.requires c.place_of-p.ensures (λ h e. c.if-l-r.true (ap (at c.args.l.now) c.wide-r.ensures ∙ e)))

pub returns : goal.returns
returns c = place_some _ _ _ (omega (arith, c.wide-r.ensures, c.requires.row c.place_of-p.result (omega (arith, c.requires.long, c.if-idx-p.false)))) (c.wide-r.ensures ∙ placed_row c.args.l.now c.args.idx.now c.args.b c.place_of-p.result c.requires c.place_of-p.ensures (omega (arith, c.requires.long, c.if-idx-p.false)) (ap (at c.args.l.now) (sym c.wide-r.ensures) ∙ c.if-l-r.false))
