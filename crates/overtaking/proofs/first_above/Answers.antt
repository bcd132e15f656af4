-- `overtaking::first_above` meets its contract: the working columns stand on the stack, and rule 10 by rows is the definition's.
use mathlib.Core.Path.{◌≡◌, sym, ap, ◌∙◌}
use mathlib.Core.List.{List}
use Prim.Native.Nat.{ℕ}
use lib.ListN.{length}
use Rattle.std.specs.Prelude.{Option}
use Rattle.meaning.specs.Words.{lowest_row, row_below}
use Rattle.meaning.specs.Rows.{EdgeColumns, edges_of, mutation_table}
use Rattle.meaning.specs.Check.{mutation_above}
use Rattle.overtaking.specs.Overtaken.{overtaken, lowest_10}
use Rattle.overtaking.proofs.OlderFirst.{none_overtaken}
use Rattle.overtaking.proofs.Ready.{zeros}
use native.Mathlib.Omega.{arith}
use Rattle.overtaking.proofs.first_above.Goals as goal

-- the row found by rows is the one that the rule names, with any derived states
of_rows : (E : EdgeColumns) (position site node : List ℕ) {r : Option ℕ} → r ≡ lowest_row (overtaken E position site node) (length site) → (derived : List ℕ) → r ≡ lowest_row (mutation_above (edges_of (λ x. x) E) position (λ x. x) (mutation_table site node derived)) (length site)
of_rows E position site node h derived = h ∙ ap (row_below (length site)) (lowest_10 E position (mutation_table site node derived) (length site))

pub returns-then-not-some_younger_first : goal.returns-then-not-some_younger_first
returns-then-not-some_younger_first c =
    let m = c.args.mutations in
    of_rows _ m.position.now m.site.now m.node.now (none_overtaken _ m.ordered.lined (sym c.some_younger_first.ensures ∙ c.if-not-some_younger_first.true) _ c.requires.2 m.ordered.young)

pub lowest_above-requires : goal.lowest_above-requires
lowest_above-requires c = (
  record {
    rising = c.requires.2;
    keeping = record { ends_long = omega (arith, c.requires.0, c.fill_ends.auto.ends); par_long = omega (arith, c.requires.0) };
    stamps_long = omega (arith, c.requires.0);
  },
  zeros 1024,
  zeros 1024,
)

pub returns : goal.returns
returns c = let m = c.args.mutations in of_rows _ m.position.now m.site.now m.node.now c.lowest_above.ensures.answer
