-- `cleaner::sound::work` meets its contract: the samples' rows, both orders of the edges, the sweep and the rows kept leave all that a result is written from.
use mathlib.Core.Path.{sym, ◌∙◌}
use mathlib.Core.List.{◌++◌}
use lib.ListN.{length, drop}
use lib.Seq.{length_front}
use Rattle.cleaner.specs.Holding.{ready}
use Rattle.cleaner.proofs.Ranking.{cut}
use Rattle.cleaner.proofs.Tracing.{edges_fit, sweepable, traced}
use Rattle.cleaner.proofs.Working.{nodes_within, edges_within, samples_rows}
use native.Mathlib.Omega.{arith}
use Rattle.cleaner.proofs.sound.work.Goals as goal

pub sample_rows-requires : goal.sample_rows-requires
sample_rows-requires c = (c.requires.0.footing.listed.known, omega (arith, c.requires.0.footing.listed.few, c.requires.1.0), omega (arith, c.requires.0.footing.sound.size.nodes, c.requires.0.footing.sound.shape.births), sym (cut (length c.args.tables.ages.time.now) c.args.sample.now (nodes_within c.requires.0 c.args.sample.now c.requires.1.2)) ∙ sym c.requires.0.footing.sound.shape.births, c.requires.2)

pub both_orders-requires : goal.both_orders-requires
both_orders-requires c = (sym (cut (length c.args.tables.edges.left.now) c.args.bl.now (edges_within c.requires.0 c.args.bl.now c.requires.1.3)), sym (cut (length c.args.tables.edges.left.now) c.args.br.now (edges_within c.requires.0 c.args.br.now c.requires.1.4)), omega (arith, (edges_fit c.requires.0).0))

pub swept-found-requires : goal.swept-found-requires
swept-found-requires c = (sweepable c.requires.0 c.sample_rows.new.sample (drop (length c.args.tables.ages.time.now) c.args.sample.now) c.both_orders.new.bl (drop (length c.args.tables.edges.left.now) c.args.bl.now) c.both_orders.new.br (drop (length c.args.tables.edges.left.now) c.args.br.now) c.sample_rows.ensures.1 (c.both_orders.auto.bl ∙ sym (cut (length c.args.tables.edges.left.now) c.args.bl.now (edges_within c.requires.0 c.args.bl.now c.requires.1.3))) (c.both_orders.auto.br ∙ sym (cut (length c.args.tables.edges.left.now) c.args.br.now (edges_within c.requires.0 c.args.br.now c.requires.1.4))) c.both_orders.ensures.0 c.both_orders.ensures.1, record { right_long = c.requires.1.5; parent_long = c.requires.1.6; child_long = c.requires.1.7; stood_long = sym (cut (length c.args.tables.ages.time.now) c.args.stood.now (nodes_within c.requires.0 c.args.stood.now c.requires.1.8)) }, c.requires.1.9)

pub keep_rows-nodes-requires : goal.keep_rows-nodes-requires
keep_rows-nodes-requires c = (nodes_within c.requires.0 (c.sample_rows.new.sample ++ drop (length c.args.tables.ages.time.now) c.args.sample.now) (length_front c.args.sample.now c.sample_rows.new.sample (length c.args.tables.ages.time.now) c.sample_rows.auto.sample ∙ c.requires.1.2), nodes_within c.requires.0 (c.swept-found.new.stood ++ drop (length c.args.tables.ages.time.now) c.args.stood.now) (length_front c.args.stood.now c.swept-found.new.stood (length c.args.tables.ages.time.now) c.swept-found.auto.stood ∙ c.requires.1.8), omega (arith, c.sample_rows.auto.srow, c.requires.1.0, c.requires.0.footing.sound.size.nodes, c.requires.0.footing.listed.few), omega (arith, c.sample_rows.auto.srow, c.requires.1.0), nodes_within c.requires.0 c.args.places.now c.requires.1.1, c.requires.0.footing.sound.tree.once, samples_rows c.requires.0 _ _ c.sample_rows.ensures.0)

pub returns : goal.returns
returns c = λ P g. ready _ _ _ g _ _ _ _ _ (traced c.requires.0 _ _ c.sample_rows.new.sample (drop (length c.args.tables.ages.time.now) c.args.sample.now) c.both_orders.new.bl (drop (length c.args.tables.edges.left.now) c.args.bl.now) c.both_orders.new.br (drop (length c.args.tables.edges.left.now) c.args.br.now) _ _ _ _ c.swept-found.new.stood (drop (length c.args.tables.ages.time.now) c.args.stood.now) _ _ _ _ c.sample_rows.ensures.0 c.sample_rows.ensures.1 (c.both_orders.auto.bl ∙ sym (cut (length c.args.tables.edges.left.now) c.args.bl.now (edges_within c.requires.0 c.args.bl.now c.requires.1.3))) (c.both_orders.auto.br ∙ sym (cut (length c.args.tables.edges.left.now) c.args.br.now (edges_within c.requires.0 c.args.br.now c.requires.1.4))) c.both_orders.ensures.0 c.both_orders.ensures.1 (c.swept-found.auto.stood ∙ sym (cut (length c.args.tables.ages.time.now) c.args.stood.now (nodes_within c.requires.0 c.args.stood.now c.requires.1.8))) c.swept-found.ensures) c.keep_rows-nodes.ensures (record { kept = omega (arith, c.keep_rows-nodes.auto.kept, c.sample_rows.auto.srow, c.requires.1.0); places = c.keep_rows-nodes.auto.places ∙ c.requires.1.1; sample = length_front c.args.sample.now c.sample_rows.new.sample (length c.args.tables.ages.time.now) c.sample_rows.auto.sample ∙ c.requires.1.2; stood = length_front c.args.stood.now c.swept-found.new.stood (length c.args.tables.ages.time.now) c.swept-found.auto.stood ∙ c.requires.1.8; lefts = length_front c.args.bl.now c.both_orders.new.bl (length c.args.tables.edges.left.now) c.both_orders.auto.bl ∙ c.requires.1.3; rights = length_front c.args.br.now c.both_orders.new.br (length c.args.tables.edges.left.now) c.both_orders.auto.br ∙ c.requires.1.4; right = c.swept-found.auto.fr ∙ c.requires.1.5 ∙ sym c.swept-found.auto.fl; parent = c.swept-found.auto.fp ∙ c.requires.1.6 ∙ sym c.swept-found.auto.fl; child = c.swept-found.auto.fc ∙ c.requires.1.7 ∙ sym c.swept-found.auto.fl; even = c.swept-found.auto.mlow ∙ c.requires.1.9 ∙ sym c.swept-found.auto.mrow })
