-- `first_repeated` meets its contract: rows by their numbers are lined up.
use Rattle.meaning.specs.Check.{repeated}
use Rattle.rules.proofs.columns.first_repeated.Goals as goal

pub returns : goal.returns
unfolding repeated
returns c = (c.first_lined.ensures, c.rank.ensures)
