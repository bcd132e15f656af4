-- Rule 10 by rows is 01's rule 10, which goes by birth numbers.
use Rattle.std.specs.Prelude.{◌≡◌, List, ℕ, length}
use Rattle.std.proofs.Common.{sym, arith}
use Rattle.meaning.specs.Words.{at, lowest}
use Rattle.meaning.specs.Rows.{EdgeColumns, MutationColumns, edges_of}
use Rattle.meaning.specs.Check.{mutation_above}
use Rattle.bridge.specs.Columns.{Apart, births_lowest_10}
use Rattle.ancestry.specs.Column.{Rising}
use Rattle.overtaking.specs.Overtaken.{Lined}

-- where births are apart and the rows named exist, the row that `first_above` answers is the one that the check of 01 names
pub first_above_births : (time birth position : List ℕ) (E : EdgeColumns) (M : MutationColumns) → length birth ≡ length time → Apart birth → Rising time E → Lined (length position) (length time) M.site M.node → lowest (mutation_above (edges_of (λ r. r) E) position (λ r. r) M) (length M.site) ≡ lowest (mutation_above (edges_of (at birth) E) position (at birth) M) (length M.site)
first_above_births time birth position E M q once rises lined =
    sym
    (births_lowest_10
    birth
    E
    once
    (record {
      parent_row = λ e l. omega (arith, rises.parent_row e l);
      child_row-is = λ e l. omega (arith, rises.child_row-is e l);
    })
    position
    M
    (λ i l. omega (arith, lined.node_row i l)))
