-- Row numbers and birth numbers: the columns of a record mean that record.
use Rattle.std.specs.Prelude.{◌≡◌, true, length}
use Rattle.std.proofs.Math.Path.{refl, ap}
use Rattle.std.proofs.Common.{sym, ◌∙◌}
use mathlib.Core.List.{List, [], ◌∷◌, map}
use Prim.Native.Nat.{ℕ, zero, suc}
use Rattle.meaning.specs.Words.{at, mem, rows, rows_from, index_of}
use Rattle.meaning.specs.Rows.{NodeColumns, EdgeColumns, SiteColumns, MutationColumns, Node, Edge, Site, Mutation, Record, births, node_at, nodes_of, edges_of, sites_of, muts_of, record_of, tables_of}
use Rattle.laws.specs.Members.{index_at}
use Rattle.laws.specs.Facts.{All, done, also, Closed}

module _ {A : Type 0} (f : ℕ → A) where
  from_next : (i k : ℕ) → rows_from f (suc i) k ≡ rows_from (λ j. f (suc j)) i k
  unfolding rows_from
  from_next i zero = refl
  from_next i (suc k) = ap (λ l. f (suc i) ∷ l) (from_next (suc i) k)

  -- the first row, then the rows that follow it
  pub rows_cons : (n : ℕ) → rows f (suc n) ≡ f 0 ∷ rows (λ i. f (suc i)) n
  unfolding rows rows_from
  rows_cons n = ap (λ l. f 0 ∷ l) (from_next 0 n)

-- ---- each table there and back

abbrev node_columns : List Node → NodeColumns
node_columns l = record { time = map (λ (n : Node). n.time) l; birth = births l; population = map (λ (n : Node). n.population) l }

nodes_back : (l : List Node) → nodes_of (node_columns l) ≡ l
unfolding nodes_of births rows
nodes_back [] = refl
nodes_back (n ∷ l) = rows_cons (node_at (node_columns (n ∷ l))) (length (map (λ (n : Node). n.time) l))
    ∙ ap (λ r. n ∷ r) (nodes_back l)

abbrev site_columns : List Site → SiteColumns
site_columns l = record { position = map (λ (s : Site). s.pos) l; ancestral = map (λ (s : Site). s.state) l }

sites_back : (l : List Site) → sites_of (site_columns l) ≡ l
unfolding sites_of rows
sites_back [] = refl
sites_back (s ∷ l) = rows_cons (λ i. record { pos = at (site_columns (s ∷ l)).position i; state = at (site_columns (s ∷ l)).ancestral i })
    (length (map (λ (s : Site). s.pos) l)) ∙ ap (λ r. s ∷ r) (sites_back l)

module _ (N : List ℕ) where
  abbrev row : ℕ → ℕ
  row b = index_of b N

  abbrev edge_columns : List Edge → EdgeColumns
  edge_columns l = record {
    left = map (λ (e : Edge). e.left) l;
    right = map (λ (e : Edge). e.right) l;
    parent = map (λ (e : Edge). row e.parent) l;
    child = map (λ (e : Edge). row e.child) l;
  }

  edges_back : (l : List Edge) → All (λ (e : Edge). (mem e.parent N ≡ true) × (mem e.child N ≡ true)) l → edges_of (at N) (edge_columns l) ≡ l
  unfolding edges_of rows
  edges_back [] done = refl
  edges_back (e ∷ l) (also p a) =
      let E : EdgeColumns = edge_columns (e ∷ l) in
      rows_cons (λ i. record { left = at E.left i; right = at E.right i; parent = at N (at E.parent i); child = at N (at E.child i) }) (length (map (λ (e : Edge). e.left) l))
      ∙ (λ i. record { left = e.left; right = e.right; parent = index_at e.parent N p.0 i; child = index_at e.child N p.1 i } ∷ edges_back l a i)

  abbrev mutation_columns : List Mutation → MutationColumns
  mutation_columns l = record {
    site = map (λ (m : Mutation). m.site) l;
    node = map (λ (m : Mutation). row m.node) l;
    derived = map (λ (m : Mutation). m.derived) l;
  }

  muts_back : (l : List Mutation) → All (λ (m : Mutation). mem m.node N ≡ true) l → muts_of (at N) (mutation_columns l) ≡ l
  unfolding muts_of rows
  muts_back [] done = refl
  muts_back (m ∷ l) (also p a) =
      let M : MutationColumns = mutation_columns (m ∷ l) in
      rows_cons (λ i. record { site = at M.site i; node = at N (at M.node i); derived = at M.derived i }) (length (map (λ (m : Mutation). m.site) l))
      ∙ (λ i. record { site = m.site; node = index_at m.node N p i; derived = m.derived } ∷ muts_back l a i)

-- what the columns of a record mean is that record, where every birth that a row names is a node's
pub there_back : (L : ℕ) (R : Record) → R.len ≡ L → Closed R → record_of L (tables_of R) ≡ R
unfolding record_of tables_of
there_back L R h c = λ i. record {
  len = sym h i;
  nodes = nodes_back R.nodes i;
  edges = edges_back (births R.nodes) R.edges c.edges_in i;
  sites = sites_back R.sites i;
  muts = muts_back (births R.nodes) R.muts c.muts_in i;
}
