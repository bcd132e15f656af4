-- M-106: the population "plays no part in order or in what stands", so calls whose inputs differ in populations only have outcomes that differ in them only.
use Rattle.std.specs.Prelude.{◌≡◌, Bool, true, false, not, List, [], ◌∷◌, ◌++◌, map, ℕ, zero, suc, ◌<◌, eqb, leb, ltb, length, drop}
use Rattle.std.proofs.Math.Path.{refl, ap}
use Rattle.std.proofs.Common.{sym, ◌∙◌}
use Rattle.std.proofs.lemmas.Simd.{map-map}
use Rattle.std.proofs.lemmas.List.{map-append, length-map}
use Rattle.meaning.specs.Words.{any, or, at, mem, rows}
use Rattle.meaning.specs.Rows.{NodeColumns, EdgeColumns, Tables, Node, edges_of, node_at, node_table, nodes_of, record_of, tables, tables_of, time_of}
use Rattle.meaning.specs.Forest.{Rules}
use Rattle.meaning.specs.Answer.{Answer, Limits, accepted, left_by, put, ragged, refuse, refuse_row}
use Rattle.meaning.specs.Lent.{cells_by, counts_by, fit_then}
use Rattle.meaning.specs.Check.{check_all_then, check_then, differs, edge_broken, edge_shared, edge_unordered, key_of, length_broken, mutation_above, repeated, rules, sample_rules, shapes, site_rules, sizes, too_many, tree_rules}
use Rattle.meaning.specs.Clean.{Outcome, clean_answer, clean_end, clean_fit, cleaned, cleaning, node_map}
use Rattle.meaning.specs.Join.{BatchTables, JoinOutcome, batch_birth, batch_differs, batch_edge, batch_mutation, batch_of, batch_rules, batch_shapes, batch_sizes, batch_then, join, join_answer, join_end, join_fit, joined, joining, time_in}
use Rattle.meaning.specs.Called.{CleanCall, JoinCall, block_by, clean_call, join_call, packed}
use Rattle.meaning.specs.Stocks.{plain, plain_batch, plain_nodes}
use Rattle.laws.specs.Counting.{map_rows, rows_at}
use Rattle.forest.specs.Profile.{Profile}
use Rattle.history.specs.Nodes.{births_join}
use Rattle.accepted.specs.Refusals.{Accepted}
use Rattle.accepted.specs.Columns.{births_of, same_row}
use Rattle.accepted.specs.Checked.{Apart, Shaped}
use Rattle.accepted.specs.Batches.{BatchShaped}
use Rattle.accepted.specs.Records.{Young}
use Rattle.accepted.specs.Calls.{clean_tells, join_tells}
use Rattle.results.specs.NodeTable.{rows_copied}
use Rattle.results.specs.Bare.{bare, zeroed, times_bare, nodes_plain, cleaned_plain, map_plain, joined_plain}

-- ---- the answers: 1 and 20 look at the length of the column, the other rules not at all

ragged_plain : (a b P : List ℕ) → ragged (a ∷ b ∷ zeroed P ∷ []) ≡ ragged (a ∷ b ∷ P ∷ [])
unfolding ragged any
ragged_plain a b P = ap (λ (n : ℕ). elim (not (eqb (length b) (length a))) [ true ↦ true | false ↦ elim (not (eqb n (length a))) [ true ↦ true | false ↦ false ] ]) (length-map P (λ (p : ℕ). 0))

-- 1 for the other tables
abbrev evens : Tables → Answer → Answer
evens T rest =
    differs 2 (T.edges.left ∷ T.edges.right ∷ T.edges.parent ∷ T.edges.child ∷ [])
    (differs 3 (T.sites.position ∷ T.sites.ancestral ∷ [])
    (differs 4 (T.muts.site ∷ T.muts.node ∷ T.muts.derived ∷ []) rest))

shapes_plain : (T : Tables) (rest : Answer) → shapes (plain T) rest ≡ shapes T rest
unfolding shapes
shapes_plain T rest = ap (λ (t : Bool). refuse t 1 1 (evens T rest)) (ragged_plain T.nodes.time T.nodes.birth T.nodes.population)

sizes_plain : (m : Limits) (T : Tables) (rest : Answer) → sizes m (plain T) rest ≡ sizes m T rest
unfolding sizes
sizes_plain m T rest = refl

unordered_plain : (N : NodeColumns) (E : EdgeColumns) (r : ℕ) → edge_unordered (plain_nodes N) E r ≡ edge_unordered N E r
unfolding edge_unordered key_of
unordered_plain N E zero = refl
unordered_plain N E (suc r) = refl

rules_plain : (L : ℕ) (T : Tables) (rest : Answer) → rules L (plain T) rest ≡ rules L T rest
unfolding rules tree_rules site_rules
rules_plain L T rest = λ i. refuse (length_broken L) 3 0
    (refuse_row 4 (repeated T.nodes.birth) (length T.nodes.birth)
    (refuse_row 5 (edge_broken L T.nodes.time T.edges) (length T.edges.left)
    (refuse_row 6 (λ r. unordered_plain T.nodes T.edges r i) (length T.edges.left)
    (refuse_row 7 (edge_shared T.edges) (length T.edges.left) (site_rules L T rest)))))

pub checks_plain : (m : Limits) (L : ℕ) (T : Tables) (S : List ℕ) (rest : Answer) → check_all_then m L (plain T) S rest ≡ check_all_then m L T S rest
unfolding check_all_then
checks_plain m L T S rest =
    let then : Answer = rules L (plain T) (sample_rules T.nodes.birth S rest) in
    shapes_plain T (sizes m (plain T) (too_many 5 m.samples S then))
    ∙ ap (shapes T) (sizes_plain m T (too_many 5 m.samples S then) ∙ ap (λ (a : Answer). sizes m T (too_many 5 m.samples S a)) (rules_plain L T (sample_rules T.nodes.birth S rest)))

check_plain : (m : Limits) (L : ℕ) (T : Tables) (rest : Answer) → check_then m L (plain T) rest ≡ check_then m L T rest
unfolding check_then
check_plain m L T rest = shapes_plain T (sizes m (plain T) (rules L (plain T) rest)) ∙ ap (shapes T) (sizes_plain m T (rules L (plain T) rest) ∙ ap (sizes m T) (rules_plain L T rest))

-- 20 for the batch's other tables
abbrev batch_evens : BatchTables → Answer → Answer
batch_evens B rest =
    batch_differs 2 (B.edges.left ∷ B.edges.right ∷ B.edges.parent ∷ B.edges.child ∷ [])
    (batch_differs 4 (B.muts.site ∷ B.muts.node ∷ B.muts.derived ∷ []) rest)

batch_shapes_plain : (B : BatchTables) (rest : Answer) → batch_shapes (plain_batch B) rest ≡ batch_shapes B rest
unfolding batch_shapes
batch_shapes_plain B rest = ap (λ (t : Bool). refuse t 20 1 (batch_evens B rest)) (ragged_plain B.nodes.time B.nodes.birth B.nodes.population)

-- the times of base and batch
times_plain : (base N : NodeColumns) → time_in (plain_nodes base) (plain_nodes N) ≡ time_in base N
unfolding time_in
times_plain base N = ap time_of ((λ i. nodes_plain base i ++ nodes_plain N i) ∙ sym (map-append bare (nodes_of base) (nodes_of N))) ∙ times_bare (nodes_of base ++ nodes_of N)

edge_plain : (L : ℕ) (base N : NodeColumns) (E : EdgeColumns) → batch_edge L (plain_nodes base) (plain_nodes N) E ≡ batch_edge L base N E
unfolding batch_edge
edge_plain L base N E = λ i r.
    let time : ℕ → ℕ = times_plain base N i in
    or (not (mem (at E.child r) N.birth))
    (or (not (or (mem (at E.parent r) base.birth) (mem (at E.parent r) N.birth)))
    (or (leb (at E.right r) (at E.left r))
    (or (ltb L (at E.right r))
    (leb (time (at E.parent r)) (time (at E.child r))))))

-- 24 to 26
abbrev later_rules : Tables → BatchTables → Answer → Answer
later_rules T B rest =
    refuse_row 24 (edge_shared B.edges) (length B.edges.left)
    (refuse_row 25 (batch_mutation (length T.sites.position) B.nodes.birth B.muts) (length B.muts.site)
    (refuse_row 26 (mutation_above (edges_of (at T.nodes.birth) T.edges ++ edges_of (λ b. b) B.edges) T.sites.position (λ b. b) B.muts) (length B.muts.site) rest))

batch_rules_plain : (L : ℕ) (T : Tables) (B : BatchTables) (rest : Answer) → batch_rules L (plain T) (plain_batch B) rest ≡ batch_rules L T B rest
unfolding batch_rules
batch_rules_plain L T B rest = ap (λ (broken : ℕ → Bool). refuse_row 22 (batch_birth T.nodes.birth B.nodes.birth) (length B.nodes.birth) (refuse_row 23 broken (length B.edges.left) (later_rules T B rest))) (edge_plain L T.nodes B.nodes B.edges)

pub batch_checks_plain : (m : Limits) (L : ℕ) (T : Tables) (B : BatchTables) (rest : Answer) → batch_then m L (plain T) (plain_batch B) rest ≡ batch_then m L T B rest
unfolding batch_then batch_sizes
batch_checks_plain m L T B rest =
    check_plain m L T (batch_shapes (plain_batch B) (batch_sizes m (plain T) (plain_batch B) (batch_rules L (plain T) (plain_batch B) rest)))
    ∙ ap (check_then m L T) (batch_shapes_plain B (batch_sizes m T B (batch_rules L (plain T) (plain_batch B) rest)) ∙ ap (λ (a : Answer). batch_shapes B (batch_sizes m T B a)) (batch_rules_plain L T B rest))

-- ---- what is left in the cells

put_plain : (P old : List ℕ) → zeroed (put (zeroed P) old) ≡ zeroed (put P old)
unfolding put
put_plain P old =
    zeroed_join (zeroed P) (drop (length (zeroed P)) old)
    ∙ (λ i. twice i ++ zeroed (drop (as_long i) old))
    ∙ sym (zeroed_join P (drop (length P) old))
  where
    zeroed_join : (a b : List ℕ) → zeroed (a ++ b) ≡ zeroed a ++ zeroed b
    zeroed_join a b = map-append (λ (p : ℕ). 0) a b

    as_long : length (zeroed P) ≡ length P
    as_long = length-map P (λ (p : ℕ). 0)

    twice : zeroed (zeroed P) ≡ zeroed P
    twice = map-map (λ (p : ℕ). 0) (λ (p : ℕ). 0) P

left_plain : (a : Answer) (P old : List ℕ) → zeroed (left_by a (zeroed P) old) ≡ zeroed (left_by a P old)
unfolding left_by
left_plain a P old = go (accepted a) refl
  where
    go : (t : Bool) → accepted a ≡ t → zeroed (left_by a (zeroed P) old) ≡ zeroed (left_by a P old)
    go true e = rw (e, left_by) (put_plain P old)
    go false e = rw (e, left_by)

cells_plain : (a : Answer) (new out : Tables) → plain (cells_by a (plain new) out) ≡ plain (cells_by a new out)
unfolding cells_by
cells_plain a new out =
    let now : Tables = cells_by a new out in
    λ i. tables (node_table now.nodes.time now.nodes.birth (left_plain a new.nodes.population out.nodes.population i)) now.edges now.sites now.muts

-- ---- the theorems: what a call gives and leaves for inputs that differ in populations only

-- of two cleanings all is the same but the populations
pub record Alike (o u : Outcome) : Type 0 where
  pub answer : o.answer ≡ u.answer
  pub counts : o.counts ≡ u.counts
  pub cells : plain o.cells ≡ plain u.cells
  pub nodemap : o.map ≡ u.map

-- of two joins
pub record AlikeJoined (o u : JoinOutcome) : Type 0 where
  pub answer : o.answer ≡ u.answer
  pub counts : o.counts ≡ u.counts
  pub cells : plain o.cells ≡ plain u.cells

-- an outcome with every population 0
abbrev plain_outcome : Outcome → Outcome
plain_outcome o = record { answer = o.answer; counts = o.counts; cells = plain o.cells; map = o.map }

abbrev plain_join : JoinOutcome → JoinOutcome
plain_join o = record { answer = o.answer; counts = o.counts; cells = plain o.cells }

end_plain : (a : Answer) (new : Tables) (new_map : List ℕ) (out : Tables) (out_map : List ℕ) → plain_outcome (clean_end a (plain new) new_map out out_map) ≡ plain_outcome (clean_end a new new_map out out_map)
unfolding clean_end counts_by
end_plain a new new_map out out_map = λ i. record { answer = a; counts = counts_by a new; cells = cells_plain a new out i; map = left_by a new_map out_map }

join_end_plain : (a : Answer) (new out : Tables) → plain_join (join_end a (plain new) out) ≡ plain_join (join_end a new out)
unfolding join_end counts_by
join_end_plain a new out = λ i. record { answer = a; counts = counts_by a new; cells = cells_plain a new out i }

module _ (rule : Rules) (m : Limits) (L : ℕ) (S : List ℕ) (out : Tables) (out_map : List ℕ) (cells : ℕ) where
  fit_plain : (T : Tables) → clean_fit m (cleaned rule L (plain T) S) (node_map rule L (plain T) S) out out_map cells ≡ clean_fit m (cleaned rule L T S) (node_map rule L T S) out out_map cells
  fit_plain T = (λ i. clean_fit m (cleaned_plain rule L T S i) (map_plain rule L T S i) out out_map cells) ∙ sized (cleaned rule L T S) (node_map rule L T S)
    where
      sized : (new : Tables) (new_map : List ℕ) → clean_fit m (plain new) new_map out out_map cells ≡ clean_fit m new new_map out out_map cells
      sized new new_map = unfold clean_fit fit_then in refl

  pub clean_answer_plain : (T : Tables) → clean_answer rule m L (plain T) S out out_map cells ≡ clean_answer rule m L T S out out_map cells
  unfolding clean_answer
  clean_answer_plain T = checks_plain m L T S (clean_fit m (cleaned rule L (plain T) S) (node_map rule L (plain T) S) out out_map cells) ∙ ap (check_all_then m L T S) (fit_plain T)

  cleaning_plain : (T : Tables) → plain_outcome (cleaning rule m L (plain T) S out out_map cells) ≡ plain_outcome (cleaning rule m L T S out out_map cells)
  unfolding cleaning
  cleaning_plain T =
      (λ i. plain_outcome (clean_end (clean_answer_plain T i) (cleaned_plain rule L T S i) (map_plain rule L T S i) out out_map))
      ∙ end_plain (clean_answer rule m L T S out out_map cells) (cleaned rule L T S) (node_map rule L T S) out out_map

  same_cleaning : (T T' : Tables) → plain T ≡ plain T' → plain_outcome (cleaning rule m L T S out out_map cells) ≡ plain_outcome (cleaning rule m L T' S out out_map cells)
  same_cleaning T T' e = sym (cleaning_plain T) ∙ ap (λ (X : Tables). plain_outcome (cleaning rule m L X S out out_map cells)) e ∙ cleaning_plain T'

  pub stocks_apart : (T T' : Tables) → plain T ≡ plain T' → Alike (cleaning rule m L T S out out_map cells) (cleaning rule m L T' S out out_map cells)
  stocks_apart T T' e =
      let same : _ = same_cleaning T T' e in
      record { answer = λ i. (same i).answer; counts = λ i. (same i).counts; cells = λ i. (same i).cells; nodemap = λ i. (same i).map }

module _ (m : Limits) (L : ℕ) (out : Tables) (cells : ℕ) where
  join_fit_plain : (T : Tables) (B : BatchTables) → join_fit m (joined L (plain T) (plain_batch B)) out cells ≡ join_fit m (joined L T B) out cells
  join_fit_plain T B = (λ i. join_fit m (joined_plain L T B i) out cells) ∙ sized (joined L T B)
    where
      sized : (new : Tables) → join_fit m (plain new) out cells ≡ join_fit m new out cells
      sized new = unfold join_fit fit_then in refl

  pub join_answer_plain : (T : Tables) (B : BatchTables) → join_answer m L (plain T) (plain_batch B) out cells ≡ join_answer m L T B out cells
  unfolding join_answer
  join_answer_plain T B = batch_checks_plain m L T B (join_fit m (joined L (plain T) (plain_batch B)) out cells) ∙ ap (batch_then m L T B) (join_fit_plain T B)

  joining_plain : (T : Tables) (B : BatchTables) → plain_join (joining m L (plain T) (plain_batch B) out cells) ≡ plain_join (joining m L T B out cells)
  unfolding joining
  joining_plain T B =
      (λ i. plain_join (join_end (join_answer_plain T B i) (joined_plain L T B i) out))
      ∙ join_end_plain (join_answer m L T B out cells) (joined L T B) out

  same_joining : (T T' : Tables) (B B' : BatchTables) → plain T ≡ plain T' → plain_batch B ≡ plain_batch B' → plain_join (joining m L T B out cells) ≡ plain_join (joining m L T' B' out cells)
  same_joining T T' B B' e f = sym (joining_plain T B) ∙ (λ i. plain_join (joining m L (e i) (f i) out cells)) ∙ joining_plain T' B'

  pub joined_stocks_apart : (T T' : Tables) (B B' : BatchTables) → plain T ≡ plain T' → plain_batch B ≡ plain_batch B' → AlikeJoined (joining m L T B out cells) (joining m L T' B' out cells)
  joined_stocks_apart T T' B B' e f =
      let same : _ = same_joining T T' B B' e f in
      record { answer = λ i. (same i).answer; counts = λ i. (same i).counts; cells = λ i. (same i).cells }

-- called from C: the number returned and the block are the same too
pub record AlikeCalled (o u : CleanCall) : Type 0 where
  pub code : o.code ≡ u.code
  pub cells : plain o.cells ≡ plain u.cells
  pub nodemap : o.map ≡ u.map
  pub block : o.block ≡ u.block

pub record AlikeJoinCalled (o u : JoinCall) : Type 0 where
  pub code : o.code ≡ u.code
  pub cells : plain o.cells ≡ plain u.cells
  pub block : o.block ≡ u.block

pub called_stocks_apart : (rule : Rules) (m : Limits) (L : ℕ) (S : List ℕ) (out : Tables) (out_map block : List ℕ) (T T' : Tables) → plain T ≡ plain T' → AlikeCalled (clean_call rule m L T S out out_map block) (clean_call rule m L T' S out out_map block)
unfolding clean_call
called_stocks_apart rule m L S out out_map block T T' e =
    let same : _ = same_cleaning rule m L S out out_map (length block) T T' e in
    record { code = λ i. packed (same i).answer; cells = λ i. (same i).cells; nodemap = λ i. (same i).map; block = λ i. block_by (same i).answer (same i).counts block }

pub join_called_stocks_apart : (m : Limits) (L : ℕ) (out : Tables) (block : List ℕ) (T T' : Tables) (B B' : BatchTables) → plain T ≡ plain T' → plain_batch B ≡ plain_batch B' → AlikeJoinCalled (join_call m L T B out block) (join_call m L T' B' out block)
unfolding join_call
join_called_stocks_apart m L out block T T' B B' e f =
    let same : _ = same_joining m L out (length block) T T' B B' e f in
    record { code = λ i. packed (same i).answer; cells = λ i. (same i).cells; block = λ i. block_by (same i).answer (same i).counts block }

-- ---- "Cleaning and joining copy it"

-- an output row has the population of the input row of the same birth, and of no other
module _ (rule : Rules) (pr : Profile rule) (m : Limits) (L : ℕ) (T : Tables) (S : List ℕ) (out : Tables) (out_map : List ℕ) (cells : ℕ)
    (accept : Accepted (clean_answer rule m L T S out out_map cells)) (young : Young T.nodes) where
  pub stock_copied : (i j : ℕ) → i < length (cleaned rule L T S).nodes.birth → j < length T.nodes.birth → at T.nodes.birth j ≡ at (cleaned rule L T S).nodes.birth i → at T.nodes.population j ≡ at (cleaned rule L T S).nodes.population i
  stock_copied i j p q e =
      let r : _ = rows_copied rule pr m L T S out out_map cells accept young i p in
      ap (at T.nodes.population) (same_row T.nodes.birth once j r.0 q r.1 (e ∙ sym (ap (λ (n : Node). n.birth) r.2))) ∙ ap (λ (n : Node). n.population) r.2
    where
      once : Apart T.nodes.birth
      once = (clean_tells rule m L T S out out_map cells accept).sound.tree.once

-- a column of the nodes, out of their rows
column : (h : Node → ℕ) (N : NodeColumns) (c : List ℕ) → length c ≡ length N.time → ((i : ℕ) → h (node_at N i) ≡ at c i) → map h (nodes_of N) ≡ c
unfolding nodes_of
column h N c e q = map_rows h (node_at N) (length N.time) ∙ (λ i. rows (λ j. q j i) (sym e i)) ∙ rows_at c

-- "base nodes then batch nodes", whole
pub joined_nodes : (m : Limits) (L : ℕ) (T : Tables) (B : BatchTables) (out : Tables) (cells : ℕ) → Accepted (join_answer m L T B out cells) →
    (joined L T B).nodes ≡ node_table (T.nodes.time ++ B.nodes.time) (T.nodes.birth ++ B.nodes.birth) (T.nodes.population ++ B.nodes.population)
unfolding joined tables_of join record_of batch_of
joined_nodes m L T B out cells accept = λ i. node_table
    (both (λ (n : Node). n.time) T.nodes.time B.nodes.time refl refl (λ j. refl) (λ j. refl) i)
    ((births_join (nodes_of T.nodes) (nodes_of B.nodes) ∙ (λ j. births_of T.nodes base.births j ++ births_of B.nodes batch.births j)) i)
    (both (λ (n : Node). n.population) T.nodes.population B.nodes.population base.populations batch.populations (λ j. refl) (λ j. refl) i)
  where
    base : Shaped T
    base = (join_tells m L T B out cells accept).sound.shape

    batch : BatchShaped B
    batch = (join_tells m L T B out cells accept).batch.shape

    both : (h : Node → ℕ) (c d : List ℕ) → length c ≡ length T.nodes.time → length d ≡ length B.nodes.time → ((i : ℕ) → h (node_at T.nodes i) ≡ at c i) → ((i : ℕ) → h (node_at B.nodes i) ≡ at d i) → map h (nodes_of T.nodes ++ nodes_of B.nodes) ≡ c ++ d
    both h c d e f p q = map-append h (nodes_of T.nodes) (nodes_of B.nodes) ∙ (λ i. column h T.nodes c e p i ++ column h B.nodes d f q i)
