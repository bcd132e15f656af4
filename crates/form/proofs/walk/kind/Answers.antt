-- `form::walk::kind` meets its contract: the stretch found ends where the kind's mark stands no more, or it is refused there. Assumes nothing.
use mathlib.Core.Path.{sym, ◌∙◌}
use Rattle.meaning.specs.Words.{at}
use Rattle.form.specs.Posts.{Stepped}
use Rattle.form.proofs.Walking.{ends_within, kind_ends, kind_over, kind_cut}
use Rattle.form.proofs.walk.kind.Goals as goal

pub is_mark-requires : goal.is_mark-requires
is_mark-requires c = ends_within (at c.args.k.mark 0) (at c.args.k.mark 1) c.args.k.size c.args.k.most c.args.s.now c.args.start c.stretch-rows.result c.stretch-rows.ensures c.requires

pub returns-then-not-is_mark : goal.returns-then-not-is_mark
unfolding Stepped
returns-then-not-is_mark c = (c.stretch-rows.ensures, kind_ends (at c.args.k.mark 0) (at c.args.k.mark 1) c.args.k.size c.args.k.most c.args.s.now c.args.start c.stretch-rows.result c.stretch-rows.ensures (sym c.is_mark.ensures ∙ c.if-not-is_mark.true))

pub returns-then-k-rows : goal.returns-then-k-rows
unfolding Stepped
returns-then-k-rows c = kind_over (at c.args.k.mark 0) (at c.args.k.mark 1) c.args.k.size c.args.k.most c.args.s.now c.args.start c.stretch-rows.result c.stretch-rows.ensures (sym c.is_mark.ensures ∙ c.if-not-is_mark.false) c.if-k-rows.true

pub returns : goal.returns
unfolding Stepped
returns c = kind_cut (at c.args.k.mark 0) (at c.args.k.mark 1) c.args.k.size c.args.k.most c.args.s.now c.args.start c.stretch-rows.result c.stretch-rows.ensures (sym c.is_mark.ensures ∙ c.if-not-is_mark.false) c.if-k-rows.false
