-- What C is told of an answer: number and row as one number, and after 0 the rows written in the lent block.
use Rattle.std.specs.Prelude.{◌≡◌, List, [], ◌∷◌, ℕ, ◌<◌, ◌≤◌, Ok, Err}
use Rattle.meaning.specs.Answer.{put, refusal_of}
use Rattle.meaning.specs.Lent.{Counts}
use Rattle.meaning.specs.Called.{packed}
use Rattle.meaning.specs.Lent.{Tabled}

-- what the block takes after 0: four cells are there, and each count is a number of four bytes
pub record Counted (c : Counts) (cells : ℕ) : Type 0 where
  pub block : 4 ≤ cells
  pub nodes : c.nodes < 4294967296
  pub edges : c.edges < 4294967296
  pub sites : c.sites < 4294967296
  pub mutations : c.mutations < 4294967296

-- an answer that fits the number and the block: a refusal's row is a number of four bytes, or so are the counts
abbrev pub Tellable : Tabled → ℕ → Type 0
Tellable (Err r) cells = (refusal_of r).row < 4294967296
Tellable (Ok w) cells = Counted (record { nodes = w.nodes; edges = w.edges; sites = w.sites; mutations = w.mutations }) cells

-- the number that is returned, and the block after the call
abbrev pub Told : Tabled → List ℕ → ℕ → List ℕ → Type 0
Told (Err r) before v after = (v ≡ packed (refusal_of r)) × (after ≡ before)
Told (Ok w) before v after = (v ≡ 0) × (after ≡ put (w.nodes ∷ w.edges ∷ w.sites ∷ w.mutations ∷ []) before)
