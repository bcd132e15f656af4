-- Calls that join and clean, on tables, and when none of them is refused.
use Rattle.std.specs.Prelude.{◌≡◌, true, List, [], ◌∷◌, ℕ}
use Rattle.meaning.specs.Words.{mem}
use Rattle.meaning.specs.Rows.{Tables, births, record_of}
use Rattle.meaning.specs.Forest.{Rules}
use Rattle.meaning.specs.Clean.{cleaned}
use Rattle.meaning.specs.Join.{BatchTables, batch_of, joined}
use Rattle.laws.specs.Facts.{In, Good, JoinOk, CleanOk}
use Rattle.history.specs.Run.{Move, batch, tidy, Names}

-- a call that joins a batch, or that cleans for a list of samples
pub data Call : Type 0 where
  joins : BatchTables → Call
  cleans : List ℕ → Call

-- the calls as moves of records
abbrev pub meant : List Call → List Move
meant [] = []
meant (joins B ∷ l) = batch (batch_of B) ∷ meant l
meant (cleans S ∷ l) = tidy S ∷ meant l

module _ (L : ℕ) where
  -- the tables after the calls without the cleanings
  abbrev pub plain_t : List Call → Tables → Tables
  plain_t [] T = T
  plain_t (joins B ∷ l) T = plain_t l (joined L T B)
  plain_t (cleans S ∷ l) T = plain_t l T

  module _ (rule : Rules) where
    -- the tables after the calls
    abbrev pub run_t : List Call → Tables → Tables
    run_t [] T = T
    run_t (joins B ∷ l) T = run_t l (joined L T B)
    run_t (cleans S ∷ l) T = run_t l (cleaned rule L T S)

    -- no call is refused, with the cleanings (T) and without (P), and each cleaning lists every fish then in the tables that is named later
    abbrev pub AcceptedT : List Call → List ℕ → Tables → Tables → Type 0
    AcceptedT [] S T P = CleanOk (record_of L T) S × CleanOk (record_of L P) S
    AcceptedT (joins B ∷ l) S T P = Good (record_of L T) × Good (record_of L P) × JoinOk (record_of L T) (batch_of B) × JoinOk (record_of L P) (batch_of B) × AcceptedT l S (joined L T B) (joined L P B)
    AcceptedT (cleans F ∷ l) S T P = CleanOk (record_of L T) F × ((b : ℕ) → mem b (births (record_of L T).nodes) ≡ true → Names (meant l) S b → In F b) × AcceptedT l S (cleaned rule L T F) P
