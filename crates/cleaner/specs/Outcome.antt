-- The outcome of an answer, after the check.
use Rattle.std.specs.Prelude.{◌≡◌, List, ℕ}
use Rattle.std.proofs.Common.{ap}
use Rattle.meaning.specs.Rows.{Tables}
use Rattle.meaning.specs.Forest.{stands}
use Rattle.meaning.specs.Answer.{Answer, limits}
use Rattle.meaning.specs.Check.{check_all_then}
use Rattle.meaning.specs.Clean.{Outcome, clean_end, clean_fit, cleaned, node_map, clean_answer, cleaning}

-- cleaning after its check
unfoldable pub after_check : ℕ → Tables → List ℕ → Tables → List ℕ → ℕ → Outcome
unfolding clean_end clean_fit cleaned node_map
after_check L T S out out_map cells = clean_end (clean_fit limits (cleaned stands L T S) (node_map stands L T S) out out_map cells) (cleaned stands L T S) (node_map stands L T S) out out_map

-- the outcome by the answer after the check
pub cleaning_by : (L : ℕ) (T : Tables) (S : List ℕ) (out : Tables) (out_map : List ℕ) (cells : ℕ) (a : Answer) → check_all_then limits L T S (clean_fit limits (cleaned stands L T S) (node_map stands L T S) out out_map cells) ≡ a → cleaning stands limits L T S out out_map cells ≡ clean_end a (cleaned stands L T S) (node_map stands L T S) out out_map
unfolding cleaning clean_answer clean_fit clean_end
cleaning_by L T S out out_map cells a e = ap (λ (a : Answer). clean_end a (cleaned stands L T S) (node_map stands L T S) out out_map) e
