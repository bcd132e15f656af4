-- 01, "Joining a batch": the batch, the refusals 20 to 26, the joined record, and the call.
use Rattle.std.specs.Prelude.{Bool, true, false, not, List, [], ◌∷◌, ◌++◌, ℕ, zero, suc, ◌+◌, eqb, leb, ltb, length}
use Rattle.meaning.specs.Words.{or, at, mem, lex, filter, sort}
use Rattle.meaning.specs.Rows.{NodeColumns, EdgeColumns, MutationColumns, Tables, Node, Edge, Mutation, Record, edge_key, nodes_of, edges_of, muts_of, record_of, tables_of, time_of}
use Rattle.meaning.specs.Answer.{Answer, Limits, done, refuse, refuse_row, ragged}
use Rattle.meaning.specs.Lent.{Counts, fit_then, block_then, counts_by, cells_by, answer_of, counts_of, Tabled}
use Rattle.meaning.specs.Check.{repeated, edge_shared, mutation_above, check_then}

-- "A batch has nodes (time, birth)", with the population of M-106 ("Batches carry it as well"), "edges (left, right, parent birth, child birth) and mutations (site row, node birth, state), in any row order"
pub record BatchTables : Type 0 where
  pub nodes : NodeColumns
  pub edges : EdgeColumns
  pub muts : MutationColumns

abbrev pub batch_tables : NodeColumns → EdgeColumns → MutationColumns → BatchTables
batch_tables nodes edges muts = record { nodes = nodes; edges = edges; muts = muts }

-- the batch that the columns mean
pub record Batch : Type 0 where
  pub nodes : List Node
  pub edges : List Edge
  pub muts : List Mutation

-- what the batch's columns name is a birth number already
unfoldable pub batch_of : BatchTables → Batch
unfolding nodes_of edges_of muts_of
batch_of B = record { nodes = nodes_of B.nodes; edges = edges_of (λ b. b) B.edges; muts = muts_of (λ b. b) B.muts }

-- ---- the result

-- edges by edge key, for the times of the nodes
unfoldable pub keyed : List Node → Edge → Edge → Bool
unfolding lex edge_key time_of
keyed N d e = lex (edge_key (time_of N) d) (edge_key (time_of N) e)

-- the mutations of site row i
unfoldable pub of_site : ℕ → List Mutation → List Mutation
unfolding filter
of_site i l = filter (λ (m : Mutation). eqb m.site i) l

-- "mutations by site, base before batch, each in its own order": k sites from i
unfoldable pub by_site : List Mutation → List Mutation → ℕ → ℕ → List Mutation
unfolding of_site
by_site a b i zero = []
by_site a b i (suc k) = of_site i a ++ (of_site i b ++ by_site a b (suc i) k)

-- "base nodes then batch nodes; all edges in key order, none merged; mutations by site ..; sites unchanged"
unfoldable pub join : Record → Batch → Record
unfolding sort keyed by_site
join R B = record {
  len = R.len;
  nodes = R.nodes ++ B.nodes;
  edges = sort (keyed (R.nodes ++ B.nodes)) (R.edges ++ B.edges);
  sites = R.sites;
  muts = by_site R.muts B.muts 0 (length R.sites);
}

unfoldable pub joined : ℕ → Tables → BatchTables → Tables
unfolding tables_of join record_of batch_of
joined L T B = tables_of (join (record_of L T) (batch_of B))

-- ---- the rules, each a test of one batch row

-- 22: "a batch birth number is in the base or earlier in the batch"
unfoldable pub batch_birth : List ℕ → List ℕ → ℕ → Bool
unfolding mem repeated
batch_birth base birth i = or (mem (at birth i) base) (repeated birth i)

-- the time of the fish b, of the base or of the batch
unfoldable pub time_in : NodeColumns → NodeColumns → ℕ → ℕ
unfolding time_of nodes_of
time_in base N b = time_of (nodes_of base ++ nodes_of N) b

-- 23: "child isn't a batch node, parent is nowhere, left >= right, right > L, or the parent isn't older"
unfoldable pub batch_edge : ℕ → NodeColumns → NodeColumns → EdgeColumns → ℕ → Bool
unfolding mem time_in
batch_edge L base N E i =
    or (not (mem (at E.child i) N.birth))
    (or (not (or (mem (at E.parent i) base.birth) (mem (at E.parent i) N.birth)))
    (or (leb (at E.right i) (at E.left i))
    (or (ltb L (at E.right i))
    (leb (time_in base N (at E.parent i)) (time_in base N (at E.child i))))))

-- 25: "no such site, or its node isn't a batch node"; there are sites so many
unfoldable pub batch_mutation : ℕ → List ℕ → MutationColumns → ℕ → Bool
unfolding mem
batch_mutation sites birth M i = or (leb sites (at M.site i)) (not (mem (at M.node i) birth))

-- ---- the order of the rules

abbrev pub batch_differs : ℕ → List (List ℕ) → Answer → Answer
batch_differs t cs rest = refuse (ragged cs) 20 t rest

abbrev pub batch_too_many : ℕ → ℕ → List ℕ → List ℕ → Answer → Answer
batch_too_many t most c d rest = refuse (ltb most (length c + length d)) 21 t rest

-- 20: "columns of a batch table differ in length"
unfoldable pub batch_shapes : BatchTables → Answer → Answer
unfolding refuse ragged
batch_shapes B rest =
    batch_differs 1 (B.nodes.time ∷ B.nodes.birth ∷ B.nodes.population ∷ [])
    (batch_differs 2 (B.edges.left ∷ B.edges.right ∷ B.edges.parent ∷ B.edges.child ∷ [])
    (batch_differs 4 (B.muts.site ∷ B.muts.node ∷ B.muts.derived ∷ []) rest))

-- 21: "base and batch rows together pass a limit"
unfoldable pub batch_sizes : Limits → Tables → BatchTables → Answer → Answer
unfolding refuse
batch_sizes m T B rest =
    batch_too_many 1 m.nodes T.nodes.time B.nodes.time
    (batch_too_many 2 m.edges T.edges.left B.edges.left
    (batch_too_many 4 m.mutations T.muts.site B.muts.site rest))

-- 22 to 26; 26: "as 10, among the batch's mutations at one site"
unfoldable pub batch_rules : ℕ → Tables → BatchTables → Answer → Answer
unfolding refuse_row batch_birth batch_edge edge_shared batch_mutation mutation_above edges_of
batch_rules L T B rest =
    refuse_row 22 (batch_birth T.nodes.birth B.nodes.birth) (length B.nodes.birth)
    (refuse_row 23 (batch_edge L T.nodes B.nodes B.edges) (length B.edges.left)
    (refuse_row 24 (edge_shared B.edges) (length B.edges.left)
    (refuse_row 25 (batch_mutation (length T.sites.position) B.nodes.birth B.muts) (length B.muts.site)
    (refuse_row 26 (mutation_above (edges_of (at T.nodes.birth) T.edges ++ edges_of (λ b. b) B.edges) T.sites.position (λ b. b) B.muts) (length B.muts.site) rest))))

-- "The base tables are checked first for 1 to 10, then" 20 to 26, and then what comes after
unfoldable pub batch_then : Limits → ℕ → Tables → BatchTables → Answer → Answer
unfolding check_then batch_shapes batch_sizes batch_rules
batch_then m L T B rest = check_then m L T (batch_shapes B (batch_sizes m T B (batch_rules L T B rest)))

-- ---- the call, for a block of so many cells

-- all that a join gives and leaves
pub record JoinOutcome : Type 0 where
  pub answer : Answer
  pub counts : Counts
  pub cells : Tables

-- the code's answer, and the columns as they are afterwards
abbrev pub joined_of : Tabled → Tables → JoinOutcome
joined_of r cells = record { answer = answer_of r; counts = counts_of r; cells = cells }

-- what an answer gives and leaves, where new is the result
unfoldable pub join_end : Answer → Tables → Tables → JoinOutcome
unfolding counts_by cells_by
join_end a new out = record { answer = a; counts = counts_by a new; cells = cells_by a new out }

-- "Last comes 13": tables 1 to 4, then the block of a call from C
unfoldable pub join_fit : Limits → Tables → Tables → ℕ → Answer
unfolding fit_then block_then
join_fit m new out cells = fit_then m new out (block_then cells done)

unfoldable pub join_answer : Limits → ℕ → Tables → BatchTables → Tables → ℕ → Answer
unfolding batch_then join_fit joined
join_answer m L T B out cells = batch_then m L T B (join_fit m (joined L T B) out cells)

unfoldable pub joining : Limits → ℕ → Tables → BatchTables → Tables → ℕ → JoinOutcome
unfolding join_end join_answer joined
joining m L T B out cells = join_end (join_answer m L T B out cells) (joined L T B) out
