-- The outcome of an answer, after the checks.
use Rattle.std.specs.Prelude.{◌≡◌, ℕ}
use Rattle.std.proofs.Common.{ap}
use Rattle.meaning.specs.Rows.{Tables}
use Rattle.meaning.specs.Answer.{Answer, limits}
use Rattle.meaning.specs.Join.{BatchTables, JoinOutcome, join_end, join_fit, batch_then, joined, join_answer, joining}

-- joining after its checks
unfoldable pub after_checks : ℕ → Tables → BatchTables → Tables → ℕ → JoinOutcome
unfolding join_end join_fit joined
after_checks L T B out cells = join_end (join_fit limits (joined L T B) out cells) (joined L T B) out

-- the outcome by the answer after the checks
pub joining_by : (L : ℕ) (T : Tables) (B : BatchTables) (out : Tables) (cells : ℕ) (a : Answer) → batch_then limits L T B (join_fit limits (joined L T B) out cells) ≡ a → joining limits L T B out cells ≡ join_end a (joined L T B) out
unfolding joining join_answer join_fit join_end batch_then
joining_by L T B out cells a e = ap (λ (a : Answer). join_end a (joined L T B) out) e
