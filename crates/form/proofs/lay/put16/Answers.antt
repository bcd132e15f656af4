-- `form::lay::put16` meets its contract: the two low bytes of four are laid there. Assumes nothing.
use mathlib.Core.Path.{ap, ◌∙◌}
use lib.ListN.{take}
use Rattle.meaning.specs.Stored.{bytes_of}
use Rattle.form.specs.Numbers.{length_bytes}
use Rattle.form.proofs.Laying.{bytes_two}
use Rattle.form.proofs.Laying.{lay_part}
use Rattle.form.proofs.lay.put16.Goals as goal

pub returns : goal.returns
returns c = lay_part c.args.at 2 (bytes_of 2 c.args.v) c.args.out.now (c.copy_from_slice.ensures.after ∙ ap (take 2) c.to_le_bytes.ensures ∙ bytes_two c.args.v) (length_bytes 2 c.args.v)
