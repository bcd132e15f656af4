-- `listing::tables::mutations` meets its contract: the loop has written the rows that it has passed. Assumes nothing.
use mathlib.Core.Path.{◌≡◌}
use lib.ListN.{length}
use Rattle.meaning.specs.Columns.{lent_in}
use Rattle.meaning.specs.Printed.{mutation_line}
use Rattle.listing.proofs.Going.{Going}
use Rattle.listing.proofs.tables.mutations.Given as goal

abbrev pub invariant-loop-i : goal.invariant-loop-i
invariant-loop-i l = record {
  going : Going (mutation_line (lent_in l.lent).muts) (length l.lent.site.now) l.initial.page.len l.initial.page.out.now l.page.out.now l.page.len l.i;
  same : l.page.out.ghost_name ≡ l.initial.page.out.ghost_name;
}
