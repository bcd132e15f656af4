-- Records whose nodes have no stock: cleaning and joining leave the same of them, without the stocks (M-106).
use Rattle.std.specs.Prelude.{◌≡◌, refl, Bool, true, false, not, ℕ, zero, suc, eqb, length}
use Rattle.std.proofs.Common.{sym, ◌∙◌}
use Rattle.std.proofs.Math.Path.{ap}
use mathlib.Core.List.{List, [], ◌∷◌, ◌++◌, map, map-map, map-append}
use Rattle.meaning.specs.Words.{and, at, mem, any_below, filter, index_of, lex, rows, sort}
use Rattle.meaning.specs.Rows.{NodeColumns, Tables, Node, Edge, Site, Mutation, Record, births, edge_key, node_at, node_of, nodes_of, pos_of, record_of, tables_of, time_of}
use Rattle.meaning.specs.Forest.{Rules, drawn, low, parent_in, reached, Ages}
use Rattle.meaning.specs.Clean.{before, clean, cleaned, edges_for, forest_at, kept, low_at, moved, node_map, others, row_in, stands_at}
use Rattle.meaning.specs.Join.{Batch, BatchTables, batch_of, join, joined, keyed}
use Rattle.meaning.specs.Stocks.{plain, plain_batch, plain_nodes}
use Rattle.laws.specs.Counting.{map_rows}

-- ---- lists of nodes

-- the node without its stock
abbrev pub bare : Node → Node
bare n = record { time = n.time; birth = n.birth; population = 0 }

births_bare : (l : List Node) → births (map bare l) ≡ births l
unfolding births
births_bare [] = refl
births_bare (n ∷ l) = ap (λ (k : List ℕ). n.birth ∷ k) (births_bare l)

node_bare : (l : List Node) (b : ℕ) → node_of (map bare l) b ≡ bare (node_of l b)
unfolding node_of
node_bare [] b = refl
node_bare (n ∷ l) b = go (eqb n.birth b) refl (node_bare l b)
  where
    go : (t : Bool) → eqb n.birth b ≡ t → node_of (map bare l) b ≡ bare (node_of l b) → node_of (map bare (n ∷ l)) b ≡ bare (node_of (n ∷ l) b)
    go true e ih = rw (e, node_of)
    go false e ih = rw (e, node_of) ih

-- the times as a function: as before
pub times_bare : (l : List Node) → time_of (map bare l) ≡ time_of l
unfolding time_of
times_bare l = λ i b. (node_bare l b i).time

-- as many cells of 0
abbrev pub zeroed : List ℕ → List ℕ
zeroed P = map (λ (p : ℕ). 0) P

-- each is 0, past the end too
at_zero : (P : List ℕ) (i : ℕ) → at (zeroed P) i ≡ 0
at_zero [] i = refl
at_zero (p ∷ P) zero = refl
at_zero (p ∷ P) (suc i) = at_zero P i

pub nodes_plain : (N : NodeColumns) → nodes_of (plain_nodes N) ≡ map bare (nodes_of N)
unfolding nodes_of
nodes_plain N =
    (λ i. rows (λ j. record { time = at N.time j; birth = at N.birth j; population = at_zero N.population j i }) (length N.time))
    ∙ sym (map_rows bare (node_at N) (length N.time))

-- ---- records

abbrev bare_record : Record → Record
bare_record R = record { len = R.len; nodes = map bare R.nodes; edges = R.edges; sites = R.sites; muts = R.muts }

abbrev bare_batch : Batch → Batch
bare_batch B = record { nodes = map bare B.nodes; edges = B.edges; muts = B.muts }

record_plain : (L : ℕ) (T : Tables) → record_of L (plain T) ≡ bare_record (record_of L T)
unfolding record_of
record_plain L T = λ i. record { len = L; nodes = nodes_plain T.nodes i; edges = (record_of L T).edges; sites = (record_of L T).sites; muts = (record_of L T).muts }

batch_plain : (B : BatchTables) → batch_of (plain_batch B) ≡ bare_batch (batch_of B)
unfolding batch_of
batch_plain B = λ i. record { nodes = nodes_plain B.nodes i; edges = (batch_of B).edges; muts = (batch_of B).muts }

-- a column of nodes without their stocks
field_bare : (h : Node → ℕ) (l : List Node) → map h (map bare l) ≡ map (λ n. h (bare n)) l
field_bare h l = map-map h bare l

tables_bare : (R : Record) → tables_of (bare_record R) ≡ plain (tables_of R)
unfolding tables_of
tables_bare R = λ i. record {
  nodes = record {
    time = field_bare (λ (n : Node). n.time) R.nodes i;
    birth = births_bare R.nodes i;
    population = (field_bare (λ (n : Node). n.population) R.nodes ∙ sym (map-map (λ (p : ℕ). 0) (λ (n : Node). n.population) R.nodes)) i;
  };
  edges = record {
    left = map (λ (e : Edge). e.left) R.edges;
    right = map (λ (e : Edge). e.right) R.edges;
    parent = map (λ (e : Edge). index_of e.parent (births_bare R.nodes i)) R.edges;
    child = map (λ (e : Edge). index_of e.child (births_bare R.nodes i)) R.edges;
  };
  sites = record { position = map (λ (s : Site). s.pos) R.sites; ancestral = map (λ (s : Site). s.state) R.sites };
  muts = record {
    site = map (λ (m : Mutation). m.site) R.muts;
    node = map (λ (m : Mutation). index_of m.node (births_bare R.nodes i)) R.muts;
    derived = map (λ (m : Mutation). m.derived) R.muts;
  };
}

-- ---- cleaning

module _ (rule : Rules) where
  -- what stands is told by births and edges alone
  stands_bare : (R : Record) (S : List ℕ) → stands_at rule (bare_record R) S ≡ stands_at rule R S
  unfolding stands_at
  stands_bare R S = λ i x. rule (births_bare R.nodes i) (parent_in R.edges x) S

  kept_bare : (R : Record) (S : List ℕ) → kept rule (bare_record R) S ≡ kept rule R S
  unfolding kept others
  kept_bare R S = λ i. S ++ sort (before (times_bare R.nodes i)) (filter (λ b. and (not (mem b S)) (any_below (λ x. stands_bare R S i x b) R.len)) (births_bare R.nodes i))

  forest_bare : (R : Record) (S : List ℕ) → forest_at rule (bare_record R) S ≡ forest_at rule R S
  unfolding forest_at
  forest_bare R S = λ i x. drawn (parent_in R.edges x) (stands_bare R S i x)

  low_bare : (R : Record) (S : List ℕ) → low_at rule (bare_record R) S ≡ low_at rule R S
  unfolding low_at
  low_bare R S = λ i x u. low (births_bare R.nodes i) (parent_in R.edges x) (reached (parent_in R.edges x) S) (stands_bare R S i x) Ages u

  copied_bare : (R : Record) (S : List ℕ) → map (node_of (map bare R.nodes)) (kept rule (bare_record R) S) ≡ map bare (map (node_of R.nodes) (kept rule R S))
  copied_bare R S = (λ i. map (λ b. node_bare R.nodes b i) (kept_bare R S i)) ∙ sym (map-map bare (node_of R.nodes) (kept rule R S))

  clean_bare : (R : Record) (S : List ℕ) → clean rule S (bare_record R) ≡ bare_record (clean rule S R)
  unfolding clean
  clean_bare R S = λ i. record {
    len = R.len;
    nodes = copied_bare R S i;
    edges = edges_for R.len (times_bare R.nodes i) (forest_bare R S i) (kept_bare R S i);
    sites = R.sites;
    muts = moved (pos_of R.sites) (low_bare R S i) R.muts;
  }

  pub cleaned_plain : (L : ℕ) (T : Tables) (S : List ℕ) → cleaned rule L (plain T) S ≡ plain (cleaned rule L T S)
  unfolding cleaned
  cleaned_plain L T S = ap (λ (R : Record). tables_of (clean rule S R)) (record_plain L T) ∙ ap tables_of (clean_bare (record_of L T) S) ∙ tables_bare (clean rule S (record_of L T))

  pub map_plain : (L : ℕ) (T : Tables) (S : List ℕ) → node_map rule L (plain T) S ≡ node_map rule L T S
  unfolding node_map
  map_plain L T S = ap (λ (K : List ℕ). map (row_in K) T.nodes.birth) (ap (λ (R : Record). kept rule R S) (record_plain L T) ∙ kept_bare (record_of L T) S)

-- ---- joining

keyed_bare : (l : List Node) → keyed (map bare l) ≡ keyed l
unfolding keyed
keyed_bare l = λ i d e. lex (edge_key (times_bare l i) d) (edge_key (times_bare l i) e)

join_bare : (R : Record) (B : Batch) → join (bare_record R) (bare_batch B) ≡ bare_record (join R B)
unfolding join
join_bare R B = λ i. record {
  len = R.len;
  nodes = together i;
  edges = sort ((ap keyed together ∙ keyed_bare (R.nodes ++ B.nodes)) i) (R.edges ++ B.edges);
  sites = R.sites;
  muts = (join R B).muts;
}
  where
    together : map bare R.nodes ++ map bare B.nodes ≡ map bare (R.nodes ++ B.nodes)
    together = sym (map-append bare R.nodes B.nodes)

pub joined_plain : (L : ℕ) (T : Tables) (B : BatchTables) → joined L (plain T) (plain_batch B) ≡ plain (joined L T B)
unfolding joined
joined_plain L T B = (λ i. tables_of (join (record_plain L T i) (batch_plain B i))) ∙ ap tables_of (join_bare (record_of L T) (batch_of B)) ∙ tables_bare (join (record_of L T) (batch_of B))
