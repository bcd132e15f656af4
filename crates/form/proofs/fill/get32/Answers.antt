-- `form::fill::get32` meets its contract: the number by its four bytes. Assumes nothing.
use Rattle.form.proofs.Filling.{number_four}
use native.Mathlib.Omega.{arith}
use Rattle.form.proofs.fill.get32.Goals as goal

pub returns : goal.returns
returns c = omega (arith, number_four c.args.s.now c.args.at, c.from_le_bytes.ensures)
