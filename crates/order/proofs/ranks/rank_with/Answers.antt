-- rank_with meets its contract: the working column's front is as long as the column.
use mathlib.Core.Path.{sym}
use lib.ListN.{length}
use lib.Seq.{length-take-le, length_front}
use Rattle.order.proofs.ranks.rank_with.Goals as goal

pub slice_bounds-rank_by-end : goal.slice_bounds-rank_by-end
slice_bounds-rank_by-end c = c.requires.0

pub slice_bounds-rank_by-end-2 : goal.slice_bounds-rank_by-end-2
slice_bounds-rank_by-end-2 c = sym (length-take-le (length c.args.l.now) c.args.own.now c.requires.0)

pub rank_by-requires : goal.rank_by-requires
rank_by-requires c = (length-take-le (length c.args.l.now) c.args.own.now c.requires.0, c.requires.1, c.requires.2)

pub shape_of-own : goal.shape_of-own
shape_of-own c = length_front c.args.own.now c.rank_by.new.own (length c.args.l.now) c.rank_by.auto.own

pub shape_of-idx : goal.shape_of-idx
shape_of-idx c = c.rank_by.auto.idx

pub returns : goal.returns
returns c = c.rank_by.ensures
