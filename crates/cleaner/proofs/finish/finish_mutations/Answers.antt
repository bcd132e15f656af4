-- `cleaner::finish::finish_mutations` meets its contract: the states are read before the rows become sites.
use Rattle.cleaner.proofs.finish.finish_mutations.Goals as goal

pub gather-requires : goal.gather-requires
gather-requires c = (c.requires.0, c.requires.2, c.requires.3)

pub rename-requires : goal.rename-requires
rename-requires c = c.requires.0

pub rename-requires-2 : goal.rename-requires-2
rename-requires-2 c = c.requires.1

pub returns : goal.returns
returns c = record { sites = c.rename.ensures; nodes = c.rename-2.ensures; states = c.gather.ensures 0 }
