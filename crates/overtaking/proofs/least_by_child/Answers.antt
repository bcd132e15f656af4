-- `overtaking::least_by_child` meets its contract: the working columns stand on the stack.
use Rattle.overtaking.proofs.Ready.{zeros}
use native.Mathlib.Omega.{arith}
use Rattle.overtaking.proofs.least_by_child.Goals as goal

pub least_above-requires : goal.least_above-requires
least_above-requires c = (
  record {
    rising = c.requires.2;
    keeping = record { ends_long = omega (arith, c.requires.0, c.fill_ends.auto.ends); par_long = omega (arith, c.requires.0) };
    stamps_long = omega (arith, c.requires.0);
  },
  c.requires.5,
  zeros 1024,
  zeros 1024,
)
