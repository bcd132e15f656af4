-- What a writer promises: which bytes stand where afterwards, and where the next ones go.
use Rattle.std.specs.Prelude.{◌≡◌, List, ◌∷◌, ◌++◌, ℕ, ◌+◌, ◌*◌, ◌<◌, ◌≤◌, length, take, drop}
use Rattle.std.proofs.Common.{sym, ◌∙◌}
use Rattle.meaning.specs.Words.{at}
use Rattle.meaning.specs.Rows.{Tables}
use Rattle.meaning.specs.Answer.{put}
use Rattle.meaning.specs.Printed.{decimal}

-- new bytes laid into the old ones from offset o on
unfoldable pub lay : ℕ → List ℕ → List ℕ → List ℕ
lay o new old = take o old ++ (new ++ drop (o + length new) old)

-- the bytes new stand from offset o on, all others are as before, and r is the offset behind them
pub record Wrote (o : ℕ) (new old out : List ℕ) (r : ℕ) : Type 0 where
  pub fits : o + length new ≤ length old
  pub next : r ≡ o + length new
  pub cells : out ≡ lay o new old

-- the bytes new stand at the front, all others are as before, and r counts them
pub record Printed (new old out : List ℕ) (r : ℕ) : Type 0 where
  pub count : r ≡ length new
  pub fits : r ≤ length old
  pub cells : out ≡ put new old

-- no two outcomes are promised
pub printed_once : {new old out out' : List ℕ} {r r' : ℕ} → Printed new old out r → Printed new old out' r' → (r ≡ r') × (out ≡ out')
printed_once p q = (p.count ∙ sym q.count, p.cells ∙ sym q.cells)

-- room that a listing never passes, by its rows of nodes, edges, sites, mutations and the node map: a row number has at
-- most 20 digits, a population 5, another number 10, a state 3
abbrev pub room : ℕ → ℕ → ℕ → ℕ → ℕ → ℕ
room nodes edges sites mutations rows = 13 + (nodes * 51 + (edges * 46 + (sites * 17 + (mutations * 28 + rows * 34))))

-- number j of a line's, after its space
abbrev pub spaced : List ℕ → ℕ → List ℕ
spaced ns j = 32 ∷ decimal (at ns j)

-- each cell of a column is below k
abbrev pub Below : ℕ → List ℕ → Type 0
Below k l = (i : ℕ) → at l i < k

-- each cell of the tables fits its column's type
pub record Narrow (T : Tables) : Type 0 where
  pub time : Below 4294967296 T.nodes.time
  pub birth : Below 4294967296 T.nodes.birth
  pub population : Below 65536 T.nodes.population
  pub left : Below 4294967296 T.edges.left
  pub right : Below 4294967296 T.edges.right
  pub parent : Below 4294967296 T.edges.parent
  pub child : Below 4294967296 T.edges.child
  pub position : Below 4294967296 T.sites.position
  pub ancestral : Below 256 T.sites.ancestral
  pub site : Below 4294967296 T.muts.site
  pub node : Below 4294967296 T.muts.node
  pub derived : Below 256 T.muts.derived
