-- Runs of batches and cleanings, and when none of their calls is refused.
use Rattle.std.specs.Prelude.{◌≡◌, true, List, [], ◌∷◌, ◌⊎◌, ℕ}
use Rattle.meaning.specs.Words.{mem}
use Rattle.meaning.specs.Rows.{Record, births}
use Rattle.meaning.specs.Forest.{Rules}
use Rattle.meaning.specs.Clean.{clean}
use Rattle.meaning.specs.Join.{Batch, join}
use Rattle.laws.specs.Facts.{In, parents, Good, JoinOk, CleanOk}

-- a batch is joined, or the record is cleaned for a list of samples
pub data Move : Type 0 where
  batch : Batch → Move
  tidy : List ℕ → Move

-- what the moves and the last sample list name
abbrev pub Names : List Move → List ℕ → ℕ → Type 0
Names [] S b = In S b
Names (batch B ∷ l) S b = (mem b (parents B.edges) ≡ true) ⊎ Names l S b
Names (tidy F ∷ l) S b = In F b ⊎ Names l S b

-- the moves without the cleanings
abbrev pub plain : List Move → Record → Record
plain [] R = R
plain (batch B ∷ l) R = plain l (join R B)
plain (tidy S ∷ l) R = plain l R

module _ (rule : Rules) where
  -- the moves
  abbrev pub run : List Move → Record → Record
  run [] R = R
  run (batch B ∷ l) R = run l (join R B)
  run (tidy S ∷ l) R = run l (clean rule S R)

  -- no call is refused, with the cleanings (Q) and without (P), and each cleaning lists every fish then in the record that is named later
  abbrev pub Accepted : List Move → List ℕ → Record → Record → Type 0
  Accepted [] S Q P = CleanOk Q S × CleanOk P S
  Accepted (batch B ∷ l) S Q P = Good Q × Good P × JoinOk Q B × JoinOk P B × Accepted l S (join Q B) (join P B)
  Accepted (tidy F ∷ l) S Q P = CleanOk Q F × ((b : ℕ) → mem b (births Q.nodes) ≡ true → Names l S b → In F b) × Accepted l S (clean rule F Q) P
