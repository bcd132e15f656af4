-- `form::walk::is_mark` meets its contract: the two bytes that stand there are the mark's. Assumes nothing.
use mathlib.Core.Path.{◌≡◌, ◌∙◌}
use lib.ListN.{length}
use Rattle.std.proofs.Common.{rules}
use Rattle.form.proofs.Walking.{mark_there}
use Rattle.form.proofs.walk.is_mark.Goals as goal

pub returns : goal.returns
returns c = let h : length c.args.mark ≡ 2 = search rules in c.starts_with.ensures.value ∙ mark_there c.args.mark c.args.s.now c.args.place h c.requires
