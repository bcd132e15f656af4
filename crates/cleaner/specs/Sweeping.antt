-- What a sweep with columns of its own asks.
use Rattle.std.specs.Prelude.{◌≡◌, List, ℕ, ◌≤◌, length}
use Rattle.std.proofs.Common.{sym, ◌∙◌, arith}
use Rattle.meaning.specs.Answer.{limits}
use Rattle.tree.specs.Sweep.{Plan}
use Rattle.placing.specs.Placing.{Moves}
use Rattle.runs.specs.Runs.{Store, Room}
use Rattle.sweep.specs.Columns.{Input, Sited}
use Rattle.sweep.specs.Sweeping.{Asked}

-- the edges in both orders, sites and mutations, within their limits
pub record Sweepable (L : ℕ) (I : Input) : Type 0 where
  pub few : length I.time ≤ limits.nodes
  pub samples : length I.sample ≡ length I.time
  pub plan : Plan I.time I.left I.right I.parent I.child I.by_left I.by_right (length I.time)
  pub sites : Sited L I
  pub numbered : length I.site ≤ limits.mutations

-- columns of n cells of its own
pub asked : {L : ℕ} {I : Input} → Sweepable L I → (D : Store) → Room (length I.time) D → (M : Moves) → length M.low ≡ length M.row → (touched : ℕ) → length I.time ≤ touched → (marks par count sum low up begun above : List ℕ) → length marks ≡ length I.time → length par ≡ length I.time → length count ≡ length I.time → length sum ≡ length I.time → length low ≡ length I.time → length up ≡ length I.time → length begun ≡ length I.time → length above ≡ length I.time → Asked L I touched marks (record { parents = par; counts = count; sums = sum; lows = low; ups = up; runs = record { left = begun; par = above }; store = D; moves = M; begun = 0; ended = 0; placed = 0 })
asked s D room M even touched t marks par count sum low up begun above m a b c d e f g = record {
  shape = record { times = sym a; samples = s.samples ∙ sym a; counts = b ∙ sym a; sums = c ∙ sym a; rows = omega (arith, s.few) };
  lows_long = d ∙ sym a;
  ups_long = e ∙ sym a;
  plan = s.plan;
  sites = s.sites;
  listed = t;
  marks_long = m;
  left_long = f;
  par_long = g;
  room = room;
  numbered = omega (arith, s.numbered);
  even = even;
}
