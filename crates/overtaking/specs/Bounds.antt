-- How far up a mutation's ancestors matter: to the oldest node among the later mutations of its site.
use Rattle.std.specs.Prelude.{List, ℕ, suc, ◌≤◌}
use Rattle.meaning.specs.Words.{at}
use Rattle.overtaking.specs.Sites.{From}

-- no node of a mutation after row i at its site is older than b
pub record Bounded (time site node : List ℕ) (i b : ℕ) : Type 0 where
  pub later : (j : ℕ) → From site (at site i) (suc i) j → at time (at node j) ≤ b
