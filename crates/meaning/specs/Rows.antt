-- The tables as lent, columns of numbers, and the record that they mean, in which fish are named by birth number.
use Rattle.std.specs.Prelude.{Bool, true, false, List, [], ◌∷◌, ◌++◌, map, ℕ, zero, suc, eqb, length}
use Rattle.meaning.specs.Words.{at, mem, rows, index_of}

-- 01, "The tables": "Columns of numbers, lent by the caller. Rows count from 0."
pub record NodeColumns : Type 0 where
  pub time : List ℕ
  pub birth : List ℕ
  pub population : List ℕ

-- parent and child are rows of the nodes; in a batch they are birth numbers
pub record EdgeColumns : Type 0 where
  pub left : List ℕ
  pub right : List ℕ
  pub parent : List ℕ
  pub child : List ℕ

pub record SiteColumns : Type 0 where
  pub position : List ℕ
  pub ancestral : List ℕ

-- site is a row of the sites, node a row of the nodes; in a batch node is a birth number
pub record MutationColumns : Type 0 where
  pub site : List ℕ
  pub node : List ℕ
  pub derived : List ℕ

-- tables 1 to 4
pub record Tables : Type 0 where
  pub nodes : NodeColumns
  pub edges : EdgeColumns
  pub sites : SiteColumns
  pub muts : MutationColumns

-- ---- each table by its columns, and tables 1 to 4 by these, as contracts name them

abbrev pub node_table : List ℕ → List ℕ → List ℕ → NodeColumns
node_table time birth population = record { time = time; birth = birth; population = population }

-- time and birth alone, all that the rules, the order of edges and the forest look at (M-106: the population "plays no part in order or in what stands")
abbrev pub age_table : List ℕ → List ℕ → NodeColumns
age_table time birth = node_table time birth []

abbrev pub edge_table : List ℕ → List ℕ → List ℕ → List ℕ → EdgeColumns
edge_table left right parent child = record { left = left; right = right; parent = parent; child = child }

abbrev pub site_table : List ℕ → List ℕ → SiteColumns
site_table position ancestral = record { position = position; ancestral = ancestral }

abbrev pub mutation_table : List ℕ → List ℕ → List ℕ → MutationColumns
mutation_table site node derived = record { site = site; node = node; derived = derived }

abbrev pub tables : NodeColumns → EdgeColumns → SiteColumns → MutationColumns → Tables
tables nodes edges sites muts = record { nodes = nodes; edges = edges; sites = sites; muts = muts }

-- ---- rows

-- a node row, copied whole by cleaning and joining; M-106: "Give each node a population number"
pub record Node : Type 0 where
  pub time : ℕ
  pub birth : ℕ
  pub population : ℕ

-- parent and child are birth numbers here
pub record Edge : Type 0 where
  pub left : ℕ
  pub right : ℕ
  pub parent : ℕ
  pub child : ℕ

pub record Site : Type 0 where
  pub pos : ℕ
  pub state : ℕ

-- site is a row of the sites, node a birth number
pub record Mutation : Type 0 where
  pub site : ℕ
  pub node : ℕ
  pub derived : ℕ

-- the record: rows are renumbered by every cleaning, birth numbers never
pub record Record : Type 0 where
  pub len : ℕ
  pub nodes : List Node
  pub edges : List Edge
  pub sites : List Site
  pub muts : List Mutation

-- ---- what columns mean

-- row i of the nodes
abbrev pub node_at : NodeColumns → ℕ → Node
node_at N i = record { time = at N.time i; birth = at N.birth i; population = at N.population i }

unfoldable pub nodes_of : NodeColumns → List Node
unfolding rows
nodes_of N = rows (λ i. node_at N i) (length N.time)

-- name turns what the columns hold into a birth number
unfoldable pub edges_of : (ℕ → ℕ) → EdgeColumns → List Edge
unfolding rows
edges_of name E = rows (λ i. record { left = at E.left i; right = at E.right i; parent = name (at E.parent i); child = name (at E.child i) }) (length E.left)

unfoldable pub sites_of : SiteColumns → List Site
unfolding rows
sites_of P = rows (λ i. record { pos = at P.position i; state = at P.ancestral i }) (length P.position)

unfoldable pub muts_of : (ℕ → ℕ) → MutationColumns → List Mutation
unfolding rows
muts_of name M = rows (λ i. record { site = at M.site i; node = name (at M.node i); derived = at M.derived i }) (length M.site)

-- the record that the tables mean, L with them: a row becomes its birth number
unfoldable pub record_of : ℕ → Tables → Record
unfolding nodes_of edges_of sites_of muts_of
record_of L T = record {
  len = L;
  nodes = nodes_of T.nodes;
  edges = edges_of (at T.nodes.birth) T.edges;
  sites = sites_of T.sites;
  muts = muts_of (at T.nodes.birth) T.muts;
}

-- ---- and back: a birth number becomes its row

unfoldable pub births : List Node → List ℕ
births [] = []
births (n ∷ l) = n.birth ∷ births l

unfoldable pub tables_of : Record → Tables
unfolding births index_of
tables_of R =
    let row : ℕ → ℕ = λ b. index_of b (births R.nodes) in
    record {
      nodes = record {
        time = map (λ (n : Node). n.time) R.nodes;
        birth = births R.nodes;
        population = map (λ (n : Node). n.population) R.nodes;
      };
      edges = record {
        left = map (λ (e : Edge). e.left) R.edges;
        right = map (λ (e : Edge). e.right) R.edges;
        parent = map (λ (e : Edge). row e.parent) R.edges;
        child = map (λ (e : Edge). row e.child) R.edges;
      };
      sites = record {
        position = map (λ (s : Site). s.pos) R.sites;
        ancestral = map (λ (s : Site). s.state) R.sites;
      };
      muts = record {
        site = map (λ (m : Mutation). m.site) R.muts;
        node = map (λ (m : Mutation). row m.node) R.muts;
        derived = map (λ (m : Mutation). m.derived) R.muts;
      };
    }

-- ---- reading a record

abbrev pub no_node : Node
no_node = record { time = 0; birth = 0; population = 0 }

-- the row of the fish b
unfoldable pub node_of : List Node → ℕ → Node
node_of [] b = no_node
node_of (n ∷ l) b = elim (eqb n.birth b) [ true ↦ n | false ↦ node_of l b ]

unfoldable pub time_of : List Node → ℕ → ℕ
unfolding node_of
time_of N b = (node_of N b).time

-- the position of site row i
unfoldable pub pos_of : List Site → ℕ → ℕ
pos_of [] i = 0
pos_of (s ∷ l) zero = s.pos
pos_of (s ∷ l) (suc i) = pos_of l i

-- the ancestral state of site row i
unfoldable pub state_of : List Site → ℕ → ℕ
state_of [] i = 0
state_of (s ∷ l) zero = s.state
state_of (s ∷ l) (suc i) = state_of l i

-- 01: "The edge key is (parent time, parent birth, child birth, left), compared in that order."
unfoldable pub edge_key : (ℕ → ℕ) → Edge → List ℕ
edge_key time e = time e.parent ∷ e.parent ∷ e.child ∷ e.left ∷ []
