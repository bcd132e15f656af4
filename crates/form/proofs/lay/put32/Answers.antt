-- `form::lay::put32` meets its contract: the four bytes are laid there. Assumes nothing.
use mathlib.Core.Path.{◌∙◌}
use Rattle.meaning.specs.Stored.{bytes_of}
use Rattle.form.specs.Numbers.{length_bytes}
use Rattle.form.proofs.Laying.{bytes_four}
use Rattle.form.proofs.Laying.{lay_part}
use Rattle.form.proofs.lay.put32.Goals as goal

pub returns : goal.returns
returns c = lay_part c.args.at 4 (bytes_of 4 c.args.v) c.args.out.now (c.copy_from_slice.ensures.after ∙ c.to_le_bytes.ensures ∙ bytes_four c.args.v) (length_bytes 4 c.args.v)
