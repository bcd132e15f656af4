-- `sites_checked` meets its contract: each way out is one rule, and rule 10 is asked of rows that rules 5, 7, 8 and 9 have passed.
use mathlib.Core.Path.{ap}
use native.Mathlib.Omega.{arith}
use lib.ListN.{length}
use Rattle.meaning.specs.Columns.{mutations_in}
use Rattle.checker.specs.Evened.{shaped}
use Rattle.checker.proofs.Order.{none_found}
use Rattle.checker.proofs.Rows.{rising, whole, rightwards, lined}
use Rattle.checker.proofs.Sites.{of_sites, site_refused, mutation_refused, above_refused, none_refused}
use Rattle.checker.proofs.groups.sites_checked.Goals as goal

pub returns-in-Some : goal.returns-in-Some
returns-in-Some c = site_refused _ _ _ c.in-Some.ensures

pub returns-in-Some-first_broken_mutation : goal.returns-in-Some-first_broken_mutation
returns-in-Some-first_broken_mutation c = mutation_refused _ _ c.in_default.ensures _ c.in-Some-first_broken_mutation.ensures

pub new-mutations-requires : goal.new-mutations-requires
new-mutations-requires c = (
  c.requires.0.nodes,
  c.requires.0.sites,
  rightwards _ _ (none_found _ _ c.in_default.ensures),
  lined _ _ _ c.args.tables.mutations.even.node_long (none_found _ _ c.in_default-first_broken_mutation.ensures),
)

pub first_above-requires : goal.first_above-requires
first_above-requires c =
    let t = c.args.tables in (
      omega (arith, c.requires.0.nodes, ap length c.new-mutations.ensures.time),
      c.requires.0.edges,
      rw c.new-mutations.ensures.time (rising _ _ _ t.edges.even c.requires.1.whole),
      whole _ _ _ t.edges.even c.requires.1.whole,
      c.requires.2,
    )

pub returns-in-Some-first_above : goal.returns-in-Some-first_above
returns-in-Some-first_above c =
    let m = c.new-mutations.ensures in
    above_refused _ _ c.in_default.ensures c.in_default-first_broken_mutation.ensures (shaped c.args.tables) c.requires.1 _ (of_sites _ _ (mutations_in c.args.tables.mutations) m.position m.site m.node c.in-Some-first_above.ensures)

pub returns : goal.returns
returns c =
    let m = c.new-mutations.ensures in
    none_refused _ _ c.in_default.ensures c.in_default-first_broken_mutation.ensures (shaped c.args.tables) c.requires.1 (of_sites _ _ (mutations_in c.args.tables.mutations) m.position m.site m.node c.in_default-first_above.ensures)
