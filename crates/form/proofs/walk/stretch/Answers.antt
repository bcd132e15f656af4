-- `form::walk::stretch` meets its contract: the loop counts the whole records that it has passed. Assumes nothing.
use mathlib.Core.Path.{sym, ◌∙◌}
use Rattle.meaning.specs.Words.{at}
use Rattle.form.proofs.Walking.{count_unmarked, count_cut, count_full, count_more}
use Rattle.form.proofs.walk.stretch.Goals.{then-not-is_mark-via-then-not-is_mark, then-not-is_mark-via-else-not-is_mark+then-s-end}
use Rattle.form.proofs.walk.stretch.Goals as goal

pub returns-then-not-is_mark : goal.returns-then-not-is_mark
returns-then-not-is_mark c = elim c.then-not-is_mark.branch [
  | then-not-is_mark-via-then-not-is_mark w ↦ count_unmarked (at c.args.k.mark 0) (at c.args.k.mark 1) c.args.k.size c.args.k.most c.args.s.now c.args.start c.loop-count.count c.loop-count.end c.loop-count.invariant (sym c.is_mark.ensures ∙ w.if-not-is_mark.true)
  | then-not-is_mark-via-else-not-is_mark+then-s-end w ↦ count_cut (at c.args.k.mark 0) (at c.args.k.mark 1) c.args.k.size c.args.k.most c.args.s.now c.args.start c.loop-count.count c.loop-count.end c.loop-count.invariant (sym c.is_mark.ensures ∙ w.if-not-is_mark.false) w.if-s-end.true
]

pub loop-count-preserved : goal.loop-count-preserved
loop-count-preserved c = count_more (at c.args.k.mark 0) (at c.args.k.mark 1) c.args.k.size c.args.k.most c.args.s.now c.args.start c.loop-count.count c.loop-count.end c.loop-count.invariant c.loop-count-test.true (sym c.is_mark.ensures ∙ c.if-not-is_mark.false) c.if-s-end.false

pub returns : goal.returns
returns c = count_full (at c.args.k.mark 0) (at c.args.k.mark 1) c.args.k.size c.args.k.most c.args.s.now c.args.start c.loop-count.end c.loop-count.count c.loop-count.invariant c.loop-count-test.false
