-- Base and batch that may be joined: what 1 to 10 of the base and 20 to 26 of the batch find.
use Rattle.std.specs.Prelude.{ℕ, ◌+◌, ◌≤◌, length}
use Rattle.std.proofs.Common.{arith}
use Rattle.meaning.specs.Rows.{Tables}
use Rattle.meaning.specs.Answer.{limits}
use Rattle.meaning.specs.Join.{BatchTables}
use Rattle.accepted.specs.Checked.{Sound}
use Rattle.accepted.specs.Batches.{BatchSound}

pub record Joinable (L : ℕ) (T : Tables) (B : BatchTables) : Type 0 where
  pub sound : Sound limits L T
  pub batch : BatchSound limits L T B

-- so their births together are no more than there may be
pub joinable_few : {L : ℕ} {T : Tables} {B : BatchTables} → Joinable L T B → length T.nodes.birth + length B.nodes.birth ≤ limits.nodes
joinable_few k = omega (arith, k.batch.size.nodes, k.sound.shape.births, k.batch.shape.births)
