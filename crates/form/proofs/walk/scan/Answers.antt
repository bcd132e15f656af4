-- `form::walk::scan` meets its contract: the first record's tests, and then the kinds. Assumes nothing.
use mathlib.Core.Path.{sym, ◌∙◌}
use Rattle.form.specs.Posts.{Scanned}
use Rattle.form.proofs.Chaining.{file_empty, file_wrong, file_cut, file_kinds}
use Rattle.form.proofs.walk.scan.Goals as goal

pub returns-then-s-lt2 : goal.returns-then-s-lt2
unfolding Scanned
returns-then-s-lt2 c = file_empty c.args.s.now c.if-s-lt2.true

pub returns-then-not-is_mark : goal.returns-then-not-is_mark
unfolding Scanned
returns-then-not-is_mark c = file_wrong c.args.s.now c.if-s-lt2.false (sym c.is_mark.ensures ∙ c.if-not-is_mark.true)

pub returns-then-s-lt6 : goal.returns-then-s-lt6
unfolding Scanned
returns-then-s-lt6 c = file_cut c.args.s.now c.if-s-lt2.false (sym c.is_mark.ensures ∙ c.if-not-is_mark.false) c.if-s-lt6.true

pub returns : goal.returns
returns c = file_kinds c.args.s.now c.if-s-lt6.false (sym c.is_mark.ensures ∙ c.if-not-is_mark.false) c.kinds.result c.kinds.ensures
