-- `mend::low::relabel_row` meets its contract: the way ends at the row above, or goes on there.
use Rattle.std.proofs.Common.{sym, ◌∙◌, arith}
use Rattle.mend.proofs.Labelling.{label_top, label_stop, label_from}
use Rattle.mend.proofs.low.relabel_row.Goals as goal
use Rattle.mend.proofs.low.relabel_row.Goals.{then-o-via-then-o, then-o-via-else-o+then-stands_at}

pub bounds-low-q : goal.bounds-low-q
bounds-low-q c = omega (arith, c.requires.row, c.requires.lows)

pub bounds-parent-q : goal.bounds-parent-q
bounds-parent-q c = omega (arith, c.requires.row)

pub stands_at-requires : goal.stands_at-requires
stands_at-requires c = let p : _ = c.requires in let h : _ = p.grows.inside _ p.row c.if-o.false in (omega (arith, h, p.samples), omega (arith, h, p.counts))

pub returns-then-o : goal.returns-then-o
returns-then-o c = elim c.then-o.branch [
  | then-o-via-then-o w ↦ label_top c.requires _ _ w.if-o.true
  | then-o-via-else-o+then-stands_at w ↦ label_stop c.requires _ _ w.if-o.false (sym w.stands_at.ensures ∙ w.if-stands_at.true)
]

pub returns : goal.returns
returns c = label_from c.requires _ _ c.if-o.false (sym c.stands_at.ensures ∙ c.if-stands_at.false)
