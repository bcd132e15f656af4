-- `writing::check_room` meets its contract: one table after the other.
use Rattle.std.proofs.Common.{sym, ap, ◌∙◌, min}
use Rattle.writing.specs.Room.{room_answer}
use Rattle.writing.proofs.Tables.{refuse_yes, refuse_no, tested}
use Rattle.writing.proofs.check_room.Goals as goal

pub returns-then-lacks : goal.returns-then-lacks
unfolding room_answer
returns-then-lacks c = sym (refuse_yes _ 13 1 _ (tested _ _ _ _ _ _ c.lacks.ensures (c.min-nodes.ensures ∙ ap (min c.args.lent.time) c.min.ensures) c.if-lacks.true))

pub returns-then-lacks-2 : goal.returns-then-lacks-2
unfolding room_answer
returns-then-lacks-2 c = sym (refuse_no _ 13 1 _ (tested _ _ _ _ _ _ c.lacks.ensures (c.min-nodes.ensures ∙ ap (min c.args.lent.time) c.min.ensures) c.if-lacks.false) ∙ refuse_yes _ 13 2 _ (tested _ _ _ _ _ _ c.lacks-2.ensures (c.min-edges.ensures ∙ ap (min c.args.lent.left) (c.min-3.ensures ∙ ap (min c.args.lent.right) c.min-2.ensures)) c.if-lacks-2.true))

pub returns-then-lacks-3 : goal.returns-then-lacks-3
unfolding room_answer
returns-then-lacks-3 c = sym (refuse_no _ 13 1 _ (tested _ _ _ _ _ _ c.lacks.ensures (c.min-nodes.ensures ∙ ap (min c.args.lent.time) c.min.ensures) c.if-lacks.false) ∙ refuse_no _ 13 2 _ (tested _ _ _ _ _ _ c.lacks-2.ensures (c.min-edges.ensures ∙ ap (min c.args.lent.left) (c.min-3.ensures ∙ ap (min c.args.lent.right) c.min-2.ensures)) c.if-lacks-2.false) ∙ refuse_yes _ 13 3 _ (tested _ _ _ _ _ _ c.lacks-3.ensures (c.min-sites.ensures) c.if-lacks-3.true))

pub returns-then-lacks-4 : goal.returns-then-lacks-4
unfolding room_answer
returns-then-lacks-4 c = sym (refuse_no _ 13 1 _ (tested _ _ _ _ _ _ c.lacks.ensures (c.min-nodes.ensures ∙ ap (min c.args.lent.time) c.min.ensures) c.if-lacks.false) ∙ refuse_no _ 13 2 _ (tested _ _ _ _ _ _ c.lacks-2.ensures (c.min-edges.ensures ∙ ap (min c.args.lent.left) (c.min-3.ensures ∙ ap (min c.args.lent.right) c.min-2.ensures)) c.if-lacks-2.false) ∙ refuse_no _ 13 3 _ (tested _ _ _ _ _ _ c.lacks-3.ensures (c.min-sites.ensures) c.if-lacks-3.false) ∙ refuse_yes _ 13 4 _ (tested _ _ _ _ _ _ c.lacks-4.ensures (c.min-mutations.ensures ∙ ap (min c.args.lent.site) c.min-4.ensures) c.if-lacks-4.true))

pub returns-then-lacks-5 : goal.returns-then-lacks-5
unfolding room_answer
returns-then-lacks-5 c = sym (refuse_no _ 13 1 _ (tested _ _ _ _ _ _ c.lacks.ensures (c.min-nodes.ensures ∙ ap (min c.args.lent.time) c.min.ensures) c.if-lacks.false) ∙ refuse_no _ 13 2 _ (tested _ _ _ _ _ _ c.lacks-2.ensures (c.min-edges.ensures ∙ ap (min c.args.lent.left) (c.min-3.ensures ∙ ap (min c.args.lent.right) c.min-2.ensures)) c.if-lacks-2.false) ∙ refuse_no _ 13 3 _ (tested _ _ _ _ _ _ c.lacks-3.ensures (c.min-sites.ensures) c.if-lacks-3.false) ∙ refuse_no _ 13 4 _ (tested _ _ _ _ _ _ c.lacks-4.ensures (c.min-mutations.ensures ∙ ap (min c.args.lent.site) c.min-4.ensures) c.if-lacks-4.false) ∙ refuse_yes _ 13 6 _ (sym c.lacks-5.ensures ∙ c.if-lacks-5.true))

pub returns : goal.returns
unfolding room_answer
returns c = sym (refuse_no _ 13 1 _ (tested _ _ _ _ _ _ c.lacks.ensures (c.min-nodes.ensures ∙ ap (min c.args.lent.time) c.min.ensures) c.if-lacks.false) ∙ refuse_no _ 13 2 _ (tested _ _ _ _ _ _ c.lacks-2.ensures (c.min-edges.ensures ∙ ap (min c.args.lent.left) (c.min-3.ensures ∙ ap (min c.args.lent.right) c.min-2.ensures)) c.if-lacks-2.false) ∙ refuse_no _ 13 3 _ (tested _ _ _ _ _ _ c.lacks-3.ensures (c.min-sites.ensures) c.if-lacks-3.false) ∙ refuse_no _ 13 4 _ (tested _ _ _ _ _ _ c.lacks-4.ensures (c.min-mutations.ensures ∙ ap (min c.args.lent.site) c.min-4.ensures) c.if-lacks-4.false) ∙ refuse_no _ 13 6 _ (sym c.lacks-5.ensures ∙ c.if-lacks-5.false))
