-- 01, "What cleaning means": the cleaned record, its columns, the node map, and the call.
use Rattle.std.specs.Prelude.{Bool, true, false, not, ℕ, zero, suc, eqb, ltb, length}
use mathlib.Core.List.{List, [], ◌∷◌, ◌++◌, map}
use Rattle.std.proofs.Math.Option.{Option, none, some}
use Rattle.meaning.specs.Words.{and, or, mem, filter, index_of, each, any_below, lex, sort}
use Rattle.meaning.specs.Rows.{Tables, Node, Edge, Mutation, Record, births, record_of, tables_of, node_of, time_of, pos_of}
use Rattle.meaning.specs.Forest.{Par, Ages, Rules, parent_in, is, reached, stands, low, drawn}
use Rattle.meaning.specs.Answer.{Answer, Limits, done, refuse, lacks, left_by}
use Rattle.meaning.specs.Lent.{Counts, fit_then, block_then, counts_by, cells_by, answer_of, counts_of, Tabled}
use Rattle.meaning.specs.Check.{check_all_then}

-- ---- edges "as long as they can be"

-- a run that began where o says ends at x
unfoldable pub shut : ℕ → ℕ → Option ℕ → ℕ → List Edge
shut p c none x = []
shut p c (some s) x = record { left = s; right = x; parent = p; child = c } ∷ []

-- where the open run began, once x is passed
unfoldable pub opened : Option ℕ → ℕ → Option ℕ
opened none x = some x
opened (some s) x = some s

-- "touching edges of one parent and child are one": the longest stretches where f holds, of k positions from x
unfoldable pub runs : ℕ → ℕ → (ℕ → Bool) → Option ℕ → ℕ → ℕ → List Edge
unfolding shut opened
runs p c f o x zero = shut p c o x
runs p c f o x (suc k) = elim (f x) [ true ↦ runs p c f (opened o x) (suc x) k | false ↦ shut p c o x ++ runs p c f none (suc x) k ]

-- ---- the tables as an encoding of what stands, up and low at each position, and of nothing else

-- "by (time, birth)"
unfoldable pub before : (ℕ → ℕ) → ℕ → ℕ → Bool
unfolding lex
before time a b = lex (time a ∷ a ∷ []) (time b ∷ b ∷ [])

-- "Rows are in edge key order": parents by (time, birth), children by birth, runs by left. D is the cleaned forest at each position
unfoldable pub edges_for : ℕ → (ℕ → ℕ) → (ℕ → Par) → List ℕ → List Edge
unfolding each runs before sort is
edges_for L time D fish = each (λ p. each (λ c. runs p c (λ x. is (D x c) p) none 0 L) (sort ltb fish)) (sort (before time) fish)

-- "one on u at x is kept exactly if u is reached at x. It moves to the nearest standing node at or below u. .. Order and state stay."
unfoldable pub moved : (ℕ → ℕ) → (ℕ → ℕ → Option ℕ) → List Mutation → List Mutation
moved pos G [] = []
moved pos G (m ∷ l) = elim (G (pos m.site) m.node) [ none ↦ moved pos G l | some w ↦ record { site = m.site; node = w; derived = m.derived } ∷ moved pos G l ]

-- "output row (u32); 4294967295 means none"
abbrev pub no_row : ℕ
no_row = 4294967295

-- the output row of the fish b, where these fish are the output's
unfoldable pub row_in : List ℕ → ℕ → ℕ
unfolding mem index_of
row_in fish b = let r : ℕ = index_of b fish in elim (mem b fish) [ true ↦ r | false ↦ no_row ]

-- all that a call gives and leaves: its answer, the rows written, tables 1 to 4 and the map as lent, afterwards
pub record Outcome : Type 0 where
  pub answer : Answer
  pub counts : Counts
  pub cells : Tables
  pub map : List ℕ

-- the code's answer, and the columns as they are afterwards
abbrev pub outcome_of : Tabled → Tables → List ℕ → Outcome
outcome_of r cells nodemap = record { answer = answer_of r; counts = counts_of r; cells = cells; map = nodemap }

-- what an answer gives and leaves, where new and new_map are the result
unfoldable pub clean_end : Answer → Tables → List ℕ → Tables → List ℕ → Outcome
unfolding counts_by cells_by left_by
clean_end a new new_map out out_map = record { answer = a; counts = counts_by a new; cells = cells_by a new out; map = left_by a new_map out_map }

-- 13 for a result, "lowest such table": tables 1 to 4, then the map as table 6, then the block of a call from C
unfoldable pub clean_fit : Limits → Tables → List ℕ → Tables → List ℕ → ℕ → Answer
unfolding fit_then refuse lacks block_then
clean_fit m new new_map out out_map cells = fit_then m new out (refuse (lacks m.nodes (out_map ∷ []) (length new_map)) 13 6 (block_then cells done))

-- ---- cleaning, for a rule of what stands

module _ (rule : Rules) where
  unfoldable pub stands_at : Record → List ℕ → ℕ → ℕ → Bool
  unfolding births parent_in
  stands_at R S x = rule (births R.nodes) (parent_in R.edges x) S

  unfoldable pub forest_at : Record → List ℕ → ℕ → Par
  unfolding stands_at drawn
  forest_at R S x = drawn (parent_in R.edges x) (stands_at R S x)

  unfoldable pub low_at : Record → List ℕ → ℕ → ℕ → Option ℕ
  unfolding stands_at low reached
  low_at R S x u = low (births R.nodes) (parent_in R.edges x) (reached (parent_in R.edges x) S) (stands_at R S x) Ages u

  -- "every other node that stands somewhere, by (time, birth)"
  unfoldable pub others : Record → List ℕ → List ℕ
  unfolding sort before filter any_below stands_at mem time_of
  others R S = sort (before (time_of R.nodes)) (filter (λ b. and (not (mem b S)) (any_below (λ x. stands_at R S x b) R.len)) (births R.nodes))

  -- "the samples in list order, then every other node that stands somewhere"
  unfoldable pub kept : Record → List ℕ → List ℕ
  unfolding others
  kept R S = S ++ others R S

  unfoldable pub clean : List ℕ → Record → Record
  unfolding kept node_of edges_for moved forest_at low_at time_of pos_of
  clean S R = record {
    len = R.len;
    nodes = map (node_of R.nodes) (kept R S);
    edges = edges_for R.len (time_of R.nodes) (forest_at R S) (kept R S);
    sites = R.sites;
    muts = moved (pos_of R.sites) (low_at R S) R.muts;
  }

  -- tables 1 to 4 of the result
  unfoldable pub cleaned : ℕ → Tables → List ℕ → Tables
  unfolding tables_of clean record_of
  cleaned L T S = tables_of (clean S (record_of L T))

  -- "The map gives each input row its output row, or none."
  unfoldable pub node_map : ℕ → Tables → List ℕ → List ℕ
  unfolding kept record_of row_in
  node_map L T S = map (row_in (kept (record_of L T) S)) T.nodes.birth

  -- ---- the call, for a block of so many cells

  -- "cleaning checks 1 to 13"
  unfoldable pub clean_answer : Limits → ℕ → Tables → List ℕ → Tables → List ℕ → ℕ → Answer
  unfolding check_all_then clean_fit cleaned node_map
  clean_answer m L T S out out_map cells = check_all_then m L T S (clean_fit m (cleaned L T S) (node_map L T S) out out_map cells)

  -- all that a cleaning gives and leaves, of all that it was lent
  unfoldable pub cleaning : Limits → ℕ → Tables → List ℕ → Tables → List ℕ → ℕ → Outcome
  unfolding clean_end clean_answer cleaned node_map
  cleaning m L T S out out_map cells = clean_end (clean_answer m L T S out out_map cells) (cleaned L T S) (node_map L T S) out out_map
