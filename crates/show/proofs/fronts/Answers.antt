-- `show::fronts` meets its contract: each column is cut to its table's rows. Assumes nothing.
use mathlib.Core.Path.{refl}
use Rattle.meaning.specs.Shown.{front}
use Rattle.show.proofs.fronts.Goals as goal

pub returns : goal.returns
unfolding front
returns c = refl
