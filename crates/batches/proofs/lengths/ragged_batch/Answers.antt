-- `ragged_batch` meets its contract: each way out is one column that is longer or shorter than the first of its table.
use borrow.Author.Tests.{eq-eqb, ne_eqb}
use Rattle.rules.specs.Lengths.{table_of}
use Rattle.batches.specs.Lengths.{batch_ragged}
use Rattle.batches.proofs.lengths.ragged_batch.Goals as goal

pub returns-then-batch : goal.returns-then-batch
unfolding batch_ragged table_of
returns-then-batch c = simp (ne_eqb _ _ c.if-batch.true)

pub returns-then-batch-2 : goal.returns-then-batch-2
unfolding batch_ragged table_of
returns-then-batch-2 c = simp (eq-eqb _ _ c.if-batch.false, ne_eqb _ _ c.if-batch-2.true)

pub returns-then-batch-3 : goal.returns-then-batch-3
unfolding batch_ragged table_of
returns-then-batch-3 c = simp (eq-eqb _ _ c.if-batch.false, eq-eqb _ _ c.if-batch-2.false, ne_eqb _ _ c.if-batch-3.true)

pub returns-then-batch-4 : goal.returns-then-batch-4
unfolding batch_ragged table_of
returns-then-batch-4 c = simp (eq-eqb _ _ c.if-batch.false, eq-eqb _ _ c.if-batch-2.false, eq-eqb _ _ c.if-batch-3.false, ne_eqb _ _ c.if-batch-4.true)

pub returns-then-batch-5 : goal.returns-then-batch-5
unfolding batch_ragged table_of
returns-then-batch-5 c = simp (eq-eqb _ _ c.if-batch.false, eq-eqb _ _ c.if-batch-2.false, eq-eqb _ _ c.if-batch-3.false, eq-eqb _ _ c.if-batch-4.false, ne_eqb _ _ c.if-batch-5.true)

pub returns-then-batch-6 : goal.returns-then-batch-6
unfolding batch_ragged table_of
returns-then-batch-6 c = simp (eq-eqb _ _ c.if-batch.false, eq-eqb _ _ c.if-batch-2.false, eq-eqb _ _ c.if-batch-3.false, eq-eqb _ _ c.if-batch-4.false, eq-eqb _ _ c.if-batch-5.false, ne_eqb _ _ c.if-batch-6.true)

pub returns-then-batch-7 : goal.returns-then-batch-7
unfolding batch_ragged table_of
returns-then-batch-7 c = simp (eq-eqb _ _ c.if-batch.false, eq-eqb _ _ c.if-batch-2.false, eq-eqb _ _ c.if-batch-3.false, eq-eqb _ _ c.if-batch-4.false, eq-eqb _ _ c.if-batch-5.false, eq-eqb _ _ c.if-batch-6.false, ne_eqb _ _ c.if-batch-7.true)

pub returns : goal.returns
unfolding batch_ragged table_of
returns c = simp (eq-eqb _ _ c.if-batch.false, eq-eqb _ _ c.if-batch-2.false, eq-eqb _ _ c.if-batch-3.false, eq-eqb _ _ c.if-batch-4.false, eq-eqb _ _ c.if-batch-5.false, eq-eqb _ _ c.if-batch-6.false, eq-eqb _ _ c.if-batch-7.false)
