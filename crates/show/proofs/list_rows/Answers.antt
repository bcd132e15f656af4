-- `show::list_rows` meets its contract: the listing of the columns' fronts. Assumes nothing.
use lib.Seq.{length-take-le}
use mathlib.Core.Path.{ap}
use lib.ListN.{length, take}
use Rattle.meaning.specs.Rows.{Tables}
use Rattle.meaning.specs.Printed.{listed}
use Rattle.meaning.specs.Shown.{front}
use Rattle.show.proofs.Printing.{printed_as}
use native.Mathlib.Omega.{arith}
use Rattle.show.proofs.list_rows.Goals as goal

pub list-requires : goal.list-requires
unfolding front
list-requires c = omega (
  arith,
  ap (λ (T : Tables). length T.nodes.time) c.fronts.ensures,
  ap (λ (T : Tables). length T.edges.left) c.fronts.ensures,
  ap (λ (T : Tables). length T.sites.position) c.fronts.ensures,
  ap (λ (T : Tables). length T.muts.site) c.fronts.ensures,
  length-take-le c.args.rows.nodes c.args.lent.time.now c.requires.0.time,
  length-take-le c.args.rows.edges c.args.lent.left.now c.requires.0.left,
  length-take-le c.args.rows.sites c.args.lent.position.now c.requires.0.position,
  length-take-le c.args.rows.mutations c.args.lent.site.now c.requires.0.site,
  length-take-le c.args.k c.args.map.now c.requires.1,
  c.requires.2,
)

pub returns : goal.returns
returns c = printed_as (ap (λ (T : Tables). listed c.args.len T (take c.args.k c.args.map.now)) c.fronts.ensures) c.list.ensures
