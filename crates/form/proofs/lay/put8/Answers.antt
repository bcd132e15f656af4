-- `form::lay::put8` meets its contract: one cell is set. Assumes nothing.
use Rattle.form.proofs.Laying.{lay_one, bytes_one}
use Rattle.form.proofs.lay.put8.Goals as goal

pub returns : goal.returns
returns c = (lay_one c.args.at c.args.v c.args.out.now c.requires, bytes_one c.args.v c.ranges.v.fits)
