-- `listing::tables::nodes` meets its contract: the loop has written the rows that it has passed. Assumes nothing.
use mathlib.Core.Path.{◌≡◌}
use lib.ListN.{length}
use Rattle.meaning.specs.Columns.{lent_in}
use Rattle.meaning.specs.Printed.{node_line}
use Rattle.listing.proofs.Going.{Going}
use Rattle.listing.proofs.tables.nodes.Given as goal

abbrev pub invariant-loop-i : goal.invariant-loop-i
invariant-loop-i l = record {
  going : Going (node_line (lent_in l.lent).nodes) (length l.lent.time.now) l.initial.page.len l.initial.page.out.now l.page.out.now l.page.len l.i;
  same : l.page.out.ghost_name ≡ l.initial.page.out.ghost_name;
}
