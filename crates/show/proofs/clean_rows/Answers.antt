-- `show::clean_rows` meets its contract: what the columns' fronts print. Assumes nothing.
use mathlib.Core.Path.{ap}
use lib.ListN.{take}
use Rattle.meaning.specs.Rows.{Tables}
use Rattle.meaning.specs.Shown.{clean_shown}
use Rattle.show.proofs.Printing.{printed_as}
use Rattle.show.proofs.clean_rows.Goals as goal

pub returns : goal.returns
returns c = printed_as (ap (λ (T : Tables). clean_shown c.args.len T (take c.args.rows.samples c.args.samples.now)) c.fronts.ensures) c.clean_and_list.ensures
