-- `rules_checked` meets its contract: each way out is one rule; 22 leaves the order of the batch's births; 24 is asked of rows that 23 has passed, and 26 of rows that 22 to 25 have.
use mathlib.Core.Path.{sym, ◌∙◌}
use native.Mathlib.Omega.{arith}
use Rattle.meaning.specs.Columns.{edges_in}
use Rattle.batches.specs.Asked.{batch_asked_few}
use Rattle.batches.proofs.Found.{shared_asked, above_asked, refused_22, refused_23, refused_24, refused_25, refused_26, batch_passes}
use Rattle.batches.proofs.whole.rules_checked.Goals as goal

pub first_batch_birth-requires : goal.first_batch_birth-requires
first_batch_birth-requires c = (c.args.base.helped, c.requires.1, omega (arith, batch_asked_few c.requires.0))

pub returns-in-Some : goal.returns-in-Some
returns-in-Some c = (refused_22 _ _ _ _ (sym c.in-Some.is ∙ c.first_batch_birth.ensures.0), c.first_batch_birth.ensures.1)

pub returns-in-Some-first_batch_edge : goal.returns-in-Some-first_batch_edge
returns-in-Some-first_batch_edge c = (refused_23 _ _ _ (sym c.in_default.is ∙ c.first_batch_birth.ensures.0) _ (sym c.in-Some-first_batch_edge.is ∙ c.first_batch_edge.ensures), c.first_batch_birth.ensures.1)

pub first_batch_shared-requires : goal.first_batch_shared-requires
first_batch_shared-requires c = shared_asked _ _ _ c.requires.0 (sym c.in_default-first_batch_edge.is ∙ c.first_batch_edge.ensures)

pub returns-in-Some-first_batch_shared : goal.returns-in-Some-first_batch_shared
returns-in-Some-first_batch_shared c = (refused_24 _ _ _ (sym c.in_default.is ∙ c.first_batch_birth.ensures.0) (sym c.in_default-first_batch_edge.is ∙ c.first_batch_edge.ensures) _ (sym c.in-Some-first_batch_shared.is ∙ c.first_batch_shared.ensures), c.first_batch_birth.ensures.1)

pub first_batch_mutation-requires : goal.first_batch_mutation-requires
first_batch_mutation-requires c = (c.args.batch.mutations.even.node_long, record { ranked = λ e. c.first_batch_birth.ensures.1 })

pub returns-in-Some-first_batch_mutation : goal.returns-in-Some-first_batch_mutation
returns-in-Some-first_batch_mutation c = (refused_25 _ _ _ (sym c.in_default.is ∙ c.first_batch_birth.ensures.0) (sym c.in_default-first_batch_edge.is ∙ c.first_batch_edge.ensures) (sym c.in_default-first_batch_shared.is ∙ c.first_batch_shared.ensures) _ (sym c.in-Some-first_batch_mutation.is ∙ c.first_batch_mutation.ensures c.args.batch.mutations.derived.now), c.first_batch_birth.ensures.1)

pub first_batch_above-requires : goal.first_batch_above-requires
first_batch_above-requires c = (edges_in c.args.base_edges, above_asked _ _ _ c.requires.0 (sym c.in_default.is ∙ c.first_batch_birth.ensures.0) (sym c.in_default-first_batch_edge.is ∙ c.first_batch_edge.ensures) (sym c.in_default-first_batch_shared.is ∙ c.first_batch_shared.ensures) (sym c.in_default-first_batch_mutation.is ∙ c.first_batch_mutation.ensures c.args.batch.mutations.derived.now))

pub returns-in-Some-first_batch_above : goal.returns-in-Some-first_batch_above
returns-in-Some-first_batch_above c = (refused_26 _ _ _ (sym c.in_default.is ∙ c.first_batch_birth.ensures.0) (sym c.in_default-first_batch_edge.is ∙ c.first_batch_edge.ensures) (sym c.in_default-first_batch_shared.is ∙ c.first_batch_shared.ensures) (sym c.in_default-first_batch_mutation.is ∙ c.first_batch_mutation.ensures c.args.batch.mutations.derived.now) _ (sym c.in-Some-first_batch_above.is ∙ c.first_batch_above.ensures (edges_in c.args.base_edges) (above_asked _ _ _ c.requires.0 (sym c.in_default.is ∙ c.first_batch_birth.ensures.0) (sym c.in_default-first_batch_edge.is ∙ c.first_batch_edge.ensures) (sym c.in_default-first_batch_shared.is ∙ c.first_batch_shared.ensures) (sym c.in_default-first_batch_mutation.is ∙ c.first_batch_mutation.ensures c.args.batch.mutations.derived.now)) c.args.batch.mutations.derived.now), c.first_batch_birth.ensures.1)

pub returns : goal.returns
returns c = (batch_passes _ _ _ (sym c.in_default.is ∙ c.first_batch_birth.ensures.0) (sym c.in_default-first_batch_edge.is ∙ c.first_batch_edge.ensures) (sym c.in_default-first_batch_shared.is ∙ c.first_batch_shared.ensures) (sym c.in_default-first_batch_mutation.is ∙ c.first_batch_mutation.ensures c.args.batch.mutations.derived.now) (sym c.in_default-first_batch_above.is ∙ c.first_batch_above.ensures (edges_in c.args.base_edges) (above_asked _ _ _ c.requires.0 (sym c.in_default.is ∙ c.first_batch_birth.ensures.0) (sym c.in_default-first_batch_edge.is ∙ c.first_batch_edge.ensures) (sym c.in_default-first_batch_shared.is ∙ c.first_batch_shared.ensures) (sym c.in_default-first_batch_mutation.is ∙ c.first_batch_mutation.ensures c.args.batch.mutations.derived.now)) c.args.batch.mutations.derived.now), c.first_batch_birth.ensures.1)
