-- `form::walk::end` meets its contract: each return is one of the tests at the end of the file. Assumes nothing.
use mathlib.Core.Path.{sym, ◌∙◌}
use Rattle.form.specs.Posts.{EndScanned}
use Rattle.form.proofs.Walking.{end_short, end_wrong, end_follow, end_clean}
use Rattle.form.proofs.walk.end.Goals as goal

pub returns-then-s-at-lt2 : goal.returns-then-s-at-lt2
unfolding EndScanned
returns-then-s-at-lt2 c = λ rest. end_short c.args.s.now c.args.at c.requires rest c.if-s-at-lt2.true

pub returns-then-not-is_mark : goal.returns-then-not-is_mark
unfolding EndScanned
returns-then-not-is_mark c = λ rest. end_wrong c.args.s.now c.args.at c.requires rest c.if-s-at-lt2.false (sym c.is_mark.ensures ∙ c.if-not-is_mark.true)

pub returns-then-s-at-gt2 : goal.returns-then-s-at-gt2
unfolding EndScanned
returns-then-s-at-gt2 c = λ rest. end_follow c.args.s.now c.args.at c.requires rest c.if-s-at-gt2.true (sym c.is_mark.ensures ∙ c.if-not-is_mark.false)

pub returns : goal.returns
unfolding EndScanned
returns c = λ rest. end_clean c.args.s.now c.args.at c.requires rest c.if-s-at-lt2.false c.if-s-at-gt2.false (sym c.is_mark.ensures ∙ c.if-not-is_mark.false)
