-- `form::lay::mark` meets its contract: the two bytes are laid there. Assumes nothing.
use mathlib.Core.Path.{◌≡◌}
use lib.ListN.{length}
use Rattle.std.proofs.Common.{rules}
use Rattle.form.proofs.Laying.{lay_part}
use Rattle.form.proofs.lay.mark.Goals as goal

pub returns : goal.returns
returns c = let h : length c.args.mark ≡ 2 = search rules in lay_part c.args.at 2 c.args.mark c.args.out.now c.copy_from_slice.ensures.after h
