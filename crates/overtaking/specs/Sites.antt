-- Mutation rows by site: where a site's rows end, and which of them are still to come.
use Rattle.std.specs.Prelude.{◌≡◌, Bool, not, List, ℕ, suc, ◌<◌, ◌≤◌, eqb, leb, ltb, length}
use Rattle.meaning.specs.Words.{and, or, at, any_below}

-- mutation row i is the last of its site
unfoldable pub ends_site : List ℕ → ℕ → Bool
ends_site site i = or (leb (length site) (suc i)) (not (eqb (at site i) (at site (suc i))))

-- the node of mutation row i is younger than that of the next row of its site
unfoldable pub younger_first : List ℕ → List ℕ → List ℕ → ℕ → Bool
unfolding ends_site
younger_first time site node i = and (not (ends_site site i)) (ltb (at time (at node i)) (at time (at node (suc i))))

-- some site's mutations do not stand older first
unfoldable pub some_younger_first : List ℕ → List ℕ → List ℕ → Bool
unfolding younger_first any_below
some_younger_first time site node = any_below (younger_first time site node) (length site)

-- mutation row j is at site row s, and not before row i
pub record From (site : List ℕ) (s i j : ℕ) : Type 0 where
  pub after : i ≤ j
  pub row : j < length site
  pub own : at site j ≡ s
