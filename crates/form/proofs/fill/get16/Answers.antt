-- `form::fill::get16` meets its contract: the number by its two bytes. Assumes nothing.
use Rattle.form.proofs.Filling.{number_two}
use native.Mathlib.Omega.{arith}
use Rattle.form.proofs.fill.get16.Goals as goal

pub returns : goal.returns
returns c = omega (arith, number_two c.args.s.now c.args.at, c.from_le_bytes.ensures, c.from.ensures)
