-- `portions::find_rows` meets its contract: one fish after another.
use mathlib.Core.Path.{refl, sym, ◌∙◌}
use native.Mathlib.Omega.{arith}
use lib.ListN.{length-set}
use Rattle.order.specs.Ranks.{place_known}
use Rattle.panel.proofs.Taking.{no_row_yet, row_more, rows_all, row_small}
use Rattle.panel.proofs.portions.find_rows.Goals as goal

pub loop-a-init : goal.loop-a-init
loop-a-init c = record { long = refl; found = no_row_yet _ _ _ _ }

pub overflow_add-base : goal.overflow_add-base
overflow_add-base c = omega (arith, c.loop-a-test.true, c.requires.1)

pub bounds-fish-base : goal.bounds-fish-base
bounds-fish-base c = omega (arith, c.loop-a-test.true, c.requires.1)

pub row_of-requires : goal.row_of-requires
row_of-requires c = record { ranked = λ e. c.requires.0 }

pub unwrap-requires : goal.unwrap-requires
unwrap-requires c = place_known _ _ _ c.row_of.ensures ∙ c.requires.4 _ (omega (arith, c.loop-a-test.true, c.requires.1))

pub overflow_cast-rows : goal.overflow_cast-rows
overflow_cast-rows c = omega (arith, row_small _ _ _ (sym c.unwrap.ensures ∙ c.row_of.ensures) c.requires.3)

pub bounds-rows-a : goal.bounds-rows-a
bounds-rows-a c = omega (arith, c.loop-a-test.true, c.requires.2, c.loop-a.invariant.long)

pub loop-a-preserved : goal.loop-a-preserved
loop-a-preserved c = record {
  long = simp length-set c.loop-a.invariant.long;
  found = row_more _ _ _ _ _ _ (omega (arith, c.loop-a-test.true, c.requires.2, c.loop-a.invariant.long)) (sym c.unwrap.ensures ∙ c.row_of.ensures) c.loop-a.invariant.found;
}

pub returns : goal.returns
returns c = rows_all _ _ _ _ _ _ (omega arith) c.loop-a-test.false c.loop-a.invariant.found
