-- The code's answers as outcomes of the two calls, and what the test of room promises.
use Rattle.std.specs.Prelude.{◌≡◌, List, [], ◌∷◌, ℕ, ◌<◌, ◌≤◌, length, Option, Some, None, Result, Ok, Err}
use Rattle.meaning.specs.Rows.{Tables}
use Rattle.meaning.specs.Answer.{Answer, answer, done, stored_limits, refusal_of, room}
use Rattle.meaning.specs.Check.{shapes}
use Rattle.meaning.specs.Files.{Reading, Writing}
use Rattle.stored.specs.Admitted.{Shaped}
use Rattle.stored.specs.declared.Rows.{Rows}
use Rattle.stored.specs.declared.Contents.{Contents}
use Rattle.meaning.specs.declared.Refusal.{Refusal}
use Rattle.stored.specs.declared.Lengths.{Lengths}

-- what reading answers, and what the lent cells hold
abbrev pub read_of : Result Contents Refusal → Tables → List ℕ → Reading
read_of (Ok k) cells samples = record {
  answer = done;
  len = k.len;
  rows = record { nodes = k.rows.nodes; edges = k.rows.edges; sites = k.rows.sites; mutations = k.rows.mutations };
  listed = k.rows.samples;
  cells = cells;
  samples = samples;
}
read_of (Err x) cells samples = record {
  answer = refusal_of x;
  len = 0;
  rows = record { nodes = 0; edges = 0; sites = 0; mutations = 0 };
  listed = 0;
  cells = cells;
  samples = samples;
}

-- what writing answers, and what the lent bytes hold
abbrev pub written_of : Result ℕ Refusal → List ℕ → Writing
written_of (Ok n) cells = record { answer = done; bytes = n; cells = cells }
written_of (Err x) cells = record { answer = refusal_of x; bytes = 0; cells = cells }

-- ---- room

-- n is how many rows the tables and the samples have
pub record Counted (n : Rows) (T : Tables) (S : List ℕ) : Type 0 where
  pub nodes : length T.nodes.time ≡ n.nodes
  pub edges : length T.edges.left ≡ n.edges
  pub sites : length T.sites.position ≡ n.sites
  pub muts : length T.muts.site ≡ n.mutations
  pub samples : length S ≡ n.samples

-- r is how many rows there is room for: the shortest column of each table
pub record Roomed (r : Rows) (out : Tables) (listOut : List ℕ) : Type 0 where
  pub nodes : room (out.nodes.time ∷ out.nodes.birth ∷ out.nodes.population ∷ []) ≡ r.nodes
  pub edges : room (out.edges.left ∷ out.edges.right ∷ out.edges.parent ∷ out.edges.child ∷ []) ≡ r.edges
  pub sites : room (out.sites.position ∷ out.sites.ancestral ∷ []) ≡ r.sites
  pub muts : room (out.muts.site ∷ out.muts.node ∷ out.muts.derived ∷ []) ≡ r.mutations
  pub samples : room (listOut ∷ []) ≡ r.samples

-- every table has room
pub record Ample (n r : Rows) : Type 0 where
  pub nodes : n.nodes ≤ r.nodes
  pub edges : n.edges ≤ r.edges
  pub sites : n.sites ≤ r.sites
  pub muts : n.mutations ≤ r.mutations
  pub samples : n.samples ≤ r.samples

-- table t is the lowest that lacks room
pub data Lowest (n r : Rows) : ℕ → Type 0 where
  at_nodes : r.nodes < n.nodes → Lowest n r 1
  at_edges : n.nodes ≤ r.nodes → r.edges < n.edges → Lowest n r 2
  at_sites : n.nodes ≤ r.nodes → n.edges ≤ r.edges → r.sites < n.sites → Lowest n r 3
  at_muts : n.nodes ≤ r.nodes → n.edges ≤ r.edges → n.sites ≤ r.sites → r.mutations < n.mutations → Lowest n r 4
  at_samples : n.nodes ≤ r.nodes → n.edges ≤ r.edges → n.sites ≤ r.sites → n.mutations ≤ r.mutations → r.samples < n.samples → Lowest n r 5

unfoldable pub Lacking : Rows → Rows → Option ℕ → Type 0
Lacking n r None = Ample n r
Lacking n r (Some t) = Lowest n r t

-- the limits, as so many rows
abbrev pub most_rows : Rows
most_rows = record { nodes = stored_limits.nodes; edges = stored_limits.edges; sites = stored_limits.sites; mutations = stored_limits.mutations; samples = stored_limits.samples }

-- ---- columns of one length

-- n has the length of each column
pub record Long (n : Lengths) (T : Tables) : Type 0 where
  pub time : length T.nodes.time ≡ n.time
  pub birth : length T.nodes.birth ≡ n.birth
  pub population : length T.nodes.population ≡ n.population
  pub left : length T.edges.left ≡ n.left
  pub right : length T.edges.right ≡ n.right
  pub parent : length T.edges.parent ≡ n.parent
  pub child : length T.edges.child ≡ n.child
  pub position : length T.sites.position ≡ n.position
  pub ancestral : length T.sites.ancestral ≡ n.ancestral
  pub site : length T.muts.site ≡ n.site
  pub node : length T.muts.node ≡ n.node
  pub derived : length T.muts.derived ≡ n.derived

-- such columns have 01's shape, or 1 is answered with the table
unfoldable pub Uneven : Lengths → Option ℕ → Type 0
Uneven n None = (T : Tables) → Long n T → Shaped T
Uneven n (Some t) = (T : Tables) (rest : Answer) → Long n T → shapes T rest ≡ answer 1 t
