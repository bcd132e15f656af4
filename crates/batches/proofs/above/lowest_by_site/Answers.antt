-- `lowest_by_site` meets its contract: rule 10's routine is given the mutations by site, and its row is the lowest of the batch.
use native.Mathlib.Omega.{arith}
use mathlib.Core.Path.{refl}
use Rattle.batches.proofs.BySite.{ranked_inside, held_ordered, held_long, held_lowest}
use Rattle.batches.proofs.above.lowest_by_site.Goals as goal

pub rank-requires : goal.rank-requires
rank-requires c = (c.requires.2, omega (arith, c.requires.0.mutations))

pub gather-requires : goal.gather-requires
gather-requires c = (omega (arith, c.rank.ensures.long, c.requires.3), ranked_inside _ refl c.rank.ensures)

pub gather-requires-2 : goal.gather-requires-2
gather-requires-2 c = (omega (arith, c.rank.ensures.long, c.requires.4), ranked_inside _ c.requires.0.node_long c.rank.ensures)

pub invariant_of-mutations : goal.invariant_of-mutations
invariant_of-mutations c = record { ordered = held_ordered c.requires.0 c.args.rowsite.now c.args.rownode.now c.rank.ensures c.requires.3 (c.gather.ensures 0) c.requires.4 (c.gather-2.ensures 0) (λ v. omega (arith, c.type_inv.time v)) }

pub least_row_above-requires : goal.least_row_above-requires
least_row_above-requires c = (
  c.requires.0.few,
  c.requires.0.edges,
  c.requires.0.rising,
  c.requires.0.whole,
  c.requires.0.apart,
  held_long c.requires.0 c.args.rowsite.now c.args.rownode.now c.rank.ensures c.requires.3 (c.gather.ensures 0) c.requires.4 (c.gather-2.ensures 0),
  c.requires.1,
)

pub returns : goal.returns
returns c = held_lowest c.requires.0 c.args.rowsite.now c.args.rownode.now c.rank.ensures c.requires.3 (c.gather.ensures 0) c.requires.4 (c.gather-2.ensures 0) _ c.least_row_above.ensures
