-- The letter's three demands, each sentence with the theorem that says it. The functions are those that the code's promises cite.
use Rattle.std.specs.Prelude.{◌≡◌, refl, true, false, List, [], ◌∷◌, ◌++◌, ◌⊎◌, ℕ, ◌≤◌, ◌<◌, ◌^◌, length, take, eqb, ltb}
use Rattle.std.proofs.Math.Path.{ap}
use Rattle.std.proofs.Common.{◌∙◌, eqb-true}
use Rattle.meaning.specs.Words.{at, mem, zeros}
use Rattle.meaning.specs.Rows.{Tables, Edge, node_at, node_table, record_of}
use Rattle.meaning.specs.Forest.{stands}
use Rattle.meaning.specs.Answer.{Answer, Limits, done, limits, stored_limits, accepted, refuse, lacks, put, given, absent, unread}
use Rattle.meaning.specs.Lent.{no_rows_written, rows_in, put_all, fit_then, block_then}
use Rattle.meaning.specs.Check.{check, check_all_then}
use Rattle.meaning.specs.Clean.{cleaned, node_map, clean_end, clean_fit, clean_answer, cleaning}
use Rattle.meaning.specs.Allele.{allele_answer, allele}
use Rattle.meaning.specs.Join.{BatchTables, batch_of, batch_then, joined, join_end, join_fit, join_answer, joining}
use Rattle.meaning.specs.Called.{packed, clean_call, join_call}
use Rattle.meaning.specs.Stored.{number}
use Rattle.meaning.specs.Files.{found, tables_in, samples_in, handed, room_answer, reading, laid, populated, written, write_answer, writing}
use Rattle.meaning.specs.Printed.{listed}
use Rattle.meaning.specs.Shown.{blank, shown}
use Rattle.meaning.specs.Stocks.{plain, plain_batch}
use Rattle.laws.specs.Bools.{not_no}
use Rattle.laws.specs.Facts.{In, All, Distinct}
use Rattle.forest.specs.Mrca.{Mrca}
use Rattle.forest.specs.Profile.{stands_profile}
use Rattle.accepted.specs.Refusals.{Accepted, of_done}
use Rattle.accepted.specs.Records.{Young}
use Rattle.accepted.specs.Rooms.{block_done}
use Rattle.accepted.specs.Endings.{clean_done, join_done}
use Rattle.form.specs.Numbers.{Bytes}
use Rattle.stored.specs.Admitted.{write_accepted}
use Rattle.stored.specs.RoundTrip.{Cells, read_written, written_read}
use Rattle.results.specs.Trees.{tree_at, Ancestral, Induced, NoUnary}
use Rattle.results.specs.Published.{induced_subtrees, no_unary_vertices, only_ancestral_nodes, only_ancestral_edges, no_adjacent_edges}
use Rattle.results.specs.Meetings.{Meeting, meeting_kept, only_meetings}
use Rattle.results.specs.NodeTable as node_table-is
use Rattle.results.specs.NodeTable.{Mapped}
use Rattle.results.specs.Cleaning.{cleaned_passes, same_answer, cleaned_gives, cleaned_absent, cleaned_isolated, cleaned_twice}
use Rattle.results.specs.Joining.{Together, joined_rows, joined_passes}
use Rattle.results.specs.Stocks as stocks
use Rattle.results.specs.Stocks.{Alike, AlikeJoined, AlikeCalled, AlikeJoinCalled}
use Rattle.demands.specs.First as first
use Rattle.demands.specs.Listed.{file_shown}

-- ---- 1. "The cleaner, the join and the file reader take every input there is .. a refusal gives its number and its row, and no cell of ours is altered."
-- That every input is taken, with no crash and no endless run, is what the checker proves of every function of the code.
-- The number and the row are the answer's, by `check`, `clean_answer`, `join_answer` and the rest; a refused call gives them, 0 for all else, and the cells as they were.

module _ (m : Limits) (L : ℕ) (T : Tables) (S : List ℕ) (out : Tables) (out_map : List ℕ) where
  pub refused_cleaning_alters_no_cell : (cells : ℕ) → accepted (clean_answer stands m L T S out out_map cells) ≡ false →
      cleaning stands m L T S out out_map cells ≡ record { answer = clean_answer stands m L T S out out_map cells; counts = no_rows_written; cells = out; map = out_map }
  refused_cleaning_alters_no_cell = first.refused_cleaning stands m L T S out out_map

  -- called from C: the block too
  pub refused_clean_call_alters_no_cell : (block : List ℕ) → accepted (clean_answer stands m L T S out out_map (length block)) ≡ false →
      clean_call stands m L T S out out_map block ≡ record { code = packed (clean_answer stands m L T S out out_map (length block)); cells = out; map = out_map; block = block }
  refused_clean_call_alters_no_cell = first.refused_clean_call stands m L T S out out_map

module _ (m : Limits) (L : ℕ) (T : Tables) (B : BatchTables) (out : Tables) where
  pub refused_join_alters_no_cell : (cells : ℕ) → accepted (join_answer m L T B out cells) ≡ false →
      joining m L T B out cells ≡ record { answer = join_answer m L T B out cells; counts = no_rows_written; cells = out }
  refused_join_alters_no_cell = first.refused_joining m L T B out

  pub refused_join_call_alters_no_cell : (block : List ℕ) → accepted (join_answer m L T B out (length block)) ≡ false →
      join_call m L T B out block ≡ record { code = packed (join_answer m L T B out (length block)); cells = out; block = block }
  refused_join_call_alters_no_cell = first.refused_join_call m L T B out

-- the file reader, the writer; a row field has 2 bytes
pub refused_reading_alters_no_cell : (m : Limits) (file : List ℕ) (out : Tables) (list_out : List ℕ) → accepted (reading 2 m file out list_out).answer ≡ false →
    reading 2 m file out list_out ≡ record { answer = (reading 2 m file out list_out).answer; len = 0; rows = no_rows_written; listed = 0; cells = out; samples = list_out }
refused_reading_alters_no_cell = first.refused_reading 2

pub refused_writing_alters_no_byte : (m : Limits) (L : ℕ) (T : Tables) (S out : List ℕ) → accepted (write_answer 2 m L T S (length out)) ≡ false →
    writing 2 m L T S out ≡ record { answer = write_answer 2 m L T S (length out); bytes = 0; cells = out }
refused_writing_alters_no_byte = first.refused_writing 2

-- the check and the allele call are lent no cell to write: the one gives a number and a row (`check`), the other a state too
pub refused_allele_gives_no_state : (m : Limits) (L : ℕ) (T : Tables) (site birth : ℕ) → accepted (allele_answer m L T site birth) ≡ false → allele m L T site birth ≡ unread (allele_answer m L T site birth)
refused_allele_gives_no_state = first.refused_allele

-- ---- 2. "What a cleaning gives is what the published method defines"

-- a cleaning that is not refused, of columns of u32
module _ (m : Limits) (L : ℕ) (T : Tables) (S : List ℕ) (out : Tables) (out_map : List ℕ) (cells : ℕ) (not_refused : clean_answer stands m L T S out out_map cells ≡ done) (u32 : Young T.nodes) where
  taken : Accepted (clean_answer stands m L T S out out_map cells)
  taken = of_done (clean_answer stands m L T S out out_map cells) not_refused

  -- what it gives are the tables `cleaned` and the map `node_map`, at the front of the cells lent for them, of which all others keep their values
  pub gives : cleaning stands m L T S out out_map cells ≡ record { answer = done; counts = rows_in (cleaned stands L T S); cells = put_all (cleaned stands L T S) out; map = put (node_map stands L T S) out_map }
  unfolding cleaning
  gives = ap (λ (a : Answer). clean_end a (cleaned stands L T S) (node_map stands L T S) out out_map) not_refused ∙ clean_done (cleaned stands L T S) (node_map stands L T S) out out_map

  -- "at each position every sample, every place where sampled lineages meet, the links between them and nothing more":
  -- the tree at x, read off the output, is the one that the samples induce in the input's tree at x,
  pub samples_and_meetings : (x : ℕ) → x < L → Induced (tree_at L T x) (tree_at L (cleaned stands L T S) x) S
  samples_and_meetings = induced_subtrees m L T S out out_map cells taken u32

  -- with nothing between,
  pub nothing_between : (x : ℕ) → x < L → NoUnary (tree_at L (cleaned stands L T S) x) S
  nothing_between = no_unary_vertices m L T S out out_map cells taken u32

  -- the first rows of the node table are the samples in list order, so that every sample is an output node,
  pub samples_first : take (length S) (cleaned stands L T S).nodes.birth ≡ S
  samples_first = node_table-is.samples_first stands stands_profile m L T S out out_map cells taken u32

  pub every_sample : (s : ℕ) → In S s → mem s (cleaned stands L T S).nodes.birth ≡ true
  every_sample = node_table-is.sample_kept stands stands_profile m L T S out out_map cells taken u32

  -- every place where two samples' lines meet is an output node, and they meet there in the output too,
  pub every_meeting : (x : ℕ) → x < L → (s t b : ℕ) → In S s → In S t → Mrca (tree_at L T x) s t b → (mem b (cleaned stands L T S).nodes.birth ≡ true) × Mrca (tree_at L (cleaned stands L T S) x) s t b
  every_meeting = meeting_kept m L T S out out_map cells taken u32

  -- no other node is,
  pub no_other_node : (b : ℕ) → mem b (cleaned stands L T S).nodes.birth ≡ true → (mem b S ≡ true) ⊎ Meeting L T S b
  no_other_node = only_meetings m L T S out out_map cells taken u32

  -- no row stands twice, and each is a row of the input, whole
  pub no_row_twice : Distinct (cleaned stands L T S).nodes.birth
  no_row_twice = node_table-is.rows_once stands stands_profile m L T S out out_map cells taken u32

  pub rows_as_they_were : (i : ℕ) → i < length (cleaned stands L T S).nodes.birth → (j : ℕ) × (j < length T.nodes.birth) × (node_at T.nodes j ≡ node_at (cleaned stands L T S).nodes i)
  rows_as_they_were = node_table-is.rows_copied stands stands_profile m L T S out out_map cells taken u32

  -- M-106, "Cleaning and joining copy it": the population of an output row is that of the input row of the same birth
  pub stock_as_it_was : (i j : ℕ) → i < length (cleaned stands L T S).nodes.birth → j < length T.nodes.birth → at T.nodes.birth j ≡ at (cleaned stands L T S).nodes.birth i →
      at T.nodes.population j ≡ at (cleaned stands L T S).nodes.population i
  stock_as_it_was = stocks.stock_copied stands stands_profile m L T S out out_map cells taken u32

  -- 000's third and fourth property: what leads to no sample is gone, and touching edges are one
  pub nodes_lead_to_samples : (b : ℕ) → mem b (cleaned stands L T S).nodes.birth ≡ true → (x : ℕ) × (x < L) × Ancestral L T (cleaned stands L T S) S x b
  nodes_lead_to_samples = only_ancestral_nodes m L T S out out_map cells taken u32

  pub edges_lead_to_samples : All (λ (e : Edge). (x : ℕ) → e.left ≤ x → x < e.right → Ancestral L T (cleaned stands L T S) S x e.child) (record_of L (cleaned stands L T S)).edges
  edges_lead_to_samples = only_ancestral_edges m L T S out out_map cells taken u32

  pub edges_whole : (i j : ℕ) → i < length (cleaned stands L T S).edges.left → j < length (cleaned stands L T S).edges.left →
      at (cleaned stands L T S).edges.parent i ≡ at (cleaned stands L T S).edges.parent j →
      at (cleaned stands L T S).edges.child i ≡ at (cleaned stands L T S).edges.child j →
      at (cleaned stands L T S).edges.right i ≡ at (cleaned stands L T S).edges.left j → ⊥
  edges_whole = no_adjacent_edges m L T S out out_map cells taken u32

  -- the sites are those of the input
  pub sites_as_they_were : (cleaned stands L T S).sites ≡ T.sites
  sites_as_they_were = node_table-is.sites_same stands stands_profile m L T S out out_map cells taken u32

  -- the map has a cell for each input row: the output row of the same birth, or none just where that birth is not in the output
  pub map_of_every_row : length (node_map stands L T S) ≡ length T.nodes.birth
  map_of_every_row = node_table-is.map_long stands stands_profile m L T S out out_map cells taken u32

  pub map_by_birth : (i : ℕ) → i < length T.nodes.birth → Mapped (cleaned stands L T S).nodes.birth (at T.nodes.birth i) (at (node_map stands L T S) i)
  map_by_birth = node_table-is.map_rows stands stands_profile m L T S out out_map cells taken u32

  -- "with each sample carrying the allele that it had": since M-103, "wherever the cleaned tables give a state, the input gives the same",
  pub allele_kept : (site sample state : ℕ) → In S sample → allele m L (cleaned stands L T S) site sample ≡ given state → allele m L T site sample ≡ given state
  allele_kept = cleaned_gives stands stands_profile m L T S out out_map cells taken u32

  -- a sample that is missing stays so,
  pub missing_kept : (site sample : ℕ) → In S sample → allele m L T site sample ≡ absent → allele m L (cleaned stands L T S) site sample ≡ absent
  missing_kept = cleaned_absent stands stands_profile m L T S out out_map cells taken u32

  -- one that cleaning isolates (`isolated` in Shown has one) had the ancestral state,
  pub isolated_was_ancestral : (site sample : ℕ) → In S sample → allele m L (cleaned stands L T S) site sample ≡ absent → (allele m L T site sample ≡ absent) ⊎ (allele m L T site sample ≡ given (at T.sites.ancestral site))
  isolated_was_ancestral = cleaned_isolated stands stands_profile m L T S out out_map cells taken u32

  -- and the call is refused for both alike
  pub allele_answer_kept : (site sample : ℕ) → In S sample → allele_answer m L (cleaned stands L T S) site sample ≡ allele_answer m L T site sample
  allele_answer_kept = same_answer stands stands_profile m L T S out out_map cells taken u32

  -- cleaning twice changes nothing more, and cleaned tables pass the check
  pub cleaned_is_clean : cleaned stands L (cleaned stands L T S) S ≡ cleaned stands L T S
  cleaned_is_clean = cleaned_twice stands stands_profile m L T S out out_map cells taken u32

  pub cleaned_is_sound : (U : List ℕ) → length U ≤ m.samples → Distinct U → ((b : ℕ) → In U b → mem b (cleaned stands L T S).nodes.birth ≡ true) → check m L (cleaned stands L T S) U ≡ done
  cleaned_is_sound = cleaned_passes stands stands_profile m L T S out out_map cells taken u32

-- a join that is not refused
module _ (m : Limits) (L : ℕ) (T : Tables) (B : BatchTables) (out : Tables) (cells : ℕ) (not_refused : join_answer m L T B out cells ≡ done) where
  pub join_gives : joining m L T B out cells ≡ record { answer = done; counts = rows_in (joined L T B); cells = put_all (joined L T B) out }
  unfolding joining
  join_gives = ap (λ (a : Answer). join_end a (joined L T B) out) not_refused ∙ join_done (joined L T B) out

  -- "A join gives the record's rows with the batch's, and no others."
  pub rows_of_both : Together (record_of L T) (batch_of B) (record_of L (joined L T B))
  rows_of_both = joined_rows m L T B out cells (of_done (join_answer m L T B out cells) not_refused)

  -- M-106: the node rows are the record's and then the batch's, whole, each with its population
  pub nodes_of_both : (joined L T B).nodes ≡ node_table (T.nodes.time ++ B.nodes.time) (T.nodes.birth ++ B.nodes.birth) (T.nodes.population ++ B.nodes.population)
  nodes_of_both = stocks.joined_nodes m L T B out cells (of_done (join_answer m L T B out cells) not_refused)

  pub joined_is_sound : (U : List ℕ) → length U ≤ m.samples → Distinct U → ((b : ℕ) → In U b → mem b (joined L T B).nodes.birth ≡ true) → check m L (joined L T B) U ≡ done
  joined_is_sound = joined_passes m L T B out cells (of_done (join_answer m L T B out cells) not_refused)

-- M-106, "it plays no part in order or in what stands": calls whose tables and batches differ in populations only (`plain` makes every population 0)
-- have the same answer, the same rows written and the same map, and leave cells that differ in populations only; refused or not
pub cleaning_ignores_stocks : (m : Limits) (L : ℕ) (S : List ℕ) (out : Tables) (out_map : List ℕ) (cells : ℕ) (T T' : Tables) → plain T ≡ plain T' →
    Alike (cleaning stands m L T S out out_map cells) (cleaning stands m L T' S out out_map cells)
cleaning_ignores_stocks = stocks.stocks_apart stands

pub join_ignores_stocks : (m : Limits) (L : ℕ) (out : Tables) (cells : ℕ) (T T' : Tables) (B B' : BatchTables) → plain T ≡ plain T' → plain_batch B ≡ plain_batch B' →
    AlikeJoined (joining m L T B out cells) (joining m L T' B' out cells)
join_ignores_stocks = stocks.joined_stocks_apart

-- called from C
pub clean_call_ignores_stocks : (m : Limits) (L : ℕ) (S : List ℕ) (out : Tables) (out_map block : List ℕ) (T T' : Tables) → plain T ≡ plain T' →
    AlikeCalled (clean_call stands m L T S out out_map block) (clean_call stands m L T' S out out_map block)
clean_call_ignores_stocks = stocks.called_stocks_apart stands

pub join_call_ignores_stocks : (m : Limits) (L : ℕ) (out : Tables) (block : List ℕ) (T T' : Tables) (B B' : BatchTables) → plain T ≡ plain T' → plain_batch B ≡ plain_batch B' →
    AlikeJoinCalled (join_call m L T B out block) (join_call m L T' B' out block)
join_call_ignores_stocks = stocks.join_called_stocks_apart

-- "The file we store gives back the same tables": what was written is read as the same L, tables and samples, and refused for want of room only,
pub file_gives_back_tables : (m : Limits) (L : ℕ) (T : Tables) (S : List ℕ) (room : ℕ) → L < 256 ^ 4 → Cells T S → accepted (write_answer 2 m L T S room) ≡ true →
    (out : Tables) (list_out : List ℕ) → reading 2 m (written 2 m L T S) out list_out ≡ handed (room_answer m T S out list_out) L T S out list_out
file_gives_back_tables = read_written 2

-- "and those tables the same file": what was read is written as the same bytes, and refused for want of room only
pub tables_give_back_file : (m : Limits) (file : List ℕ) (out : Tables) (list_out : List ℕ) → Bytes file → accepted (reading 2 m file out list_out).answer ≡ true →
    (lent : List ℕ) → writing 2 m (number 4 file 2) (tables_in (found 2 m file)) (samples_in (found 2 m file)) lent ≡ laid (refuse (ltb (length lent) (length file)) 13 7 done) file lent
tables_give_back_file = written_read 2

-- M-106, "The stored form of 01 has no field for it: reading gives 0"
pub reading_gives_no_stock : (m : Limits) (file : List ℕ) → (tables_in (found 2 m file)).nodes.population ≡ zeros (length (tables_in (found 2 m file)).nodes.time)
unfolding tables_in
reading_gives_no_stock m file = refl

-- "and writing refuses another value": what is not refused has population 0 in every node row
pub writing_takes_no_stock : (m : Limits) (L : ℕ) (T : Tables) (S : List ℕ) (room : ℕ) → accepted (write_answer 2 m L T S room) ≡ true → (i : ℕ) → i < length T.nodes.time → at T.nodes.population i ≡ 0
unfolding populated
writing_takes_no_stock m L T S room h i l = eqb-true (at T.nodes.population i) 0 (not_no (eqb (at T.nodes.population i) 0) ((write_accepted 2 m L T S room h).2.nodes i l))

-- the listing is the cleaning: of a file that is read and cleaned the program prints L, the cleaned tables and the map
pub listing_is_cleaning : (file : List ℕ) → Accepted (reading 2 stored_limits file blank (zeros stored_limits.samples)).answer →
    clean_answer stands limits (number 4 file 2) (tables_in (found 2 stored_limits file)) (samples_in (found 2 stored_limits file)) blank (zeros stored_limits.nodes) 4 ≡ done →
    shown file ≡ listed (number 4 file 2) (cleaned stands (number 4 file 2) (tables_in (found 2 stored_limits file)) (samples_in (found 2 stored_limits file))) (node_map stands (number 4 file 2) (tables_in (found 2 stored_limits file)) (samples_in (found 2 stored_limits file)))
listing_is_cleaning = file_shown

-- ---- 3. "Clean after any batches you like and then at the end, or only at the end: the last four tables are equal, row for row.
-- This holds if no call is refused, and if each cleaning lists every fish then in the record that a later batch or a later sample list names."
-- Calls from C are in it: each call says how many cells its block has, and one that is not refused has four or more.

-- `demand_3` and `one_step` say it; they stand in proofs/DemandThree.

-- a block of four or more cells changes nothing but itself
pub clean_block_changes_nothing : (m : Limits) (L : ℕ) (T : Tables) (S : List ℕ) (out : Tables) (out_map : List ℕ) (cells : ℕ) → 4 ≤ cells → cleaning stands m L T S out out_map cells ≡ cleaning stands m L T S out out_map 4
unfolding cleaning clean_answer clean_fit block_then refuse
clean_block_changes_nothing m L T S out out_map cells h =
    ap (λ (a : Answer). clean_end (check_all_then m L T S (fit_then m (cleaned stands L T S) out (refuse (lacks m.nodes (out_map ∷ []) (length (node_map stands L T S))) 13 6 a))) (cleaned stands L T S) (node_map stands L T S) out out_map) (block_done cells h)

pub join_block_changes_nothing : (m : Limits) (L : ℕ) (T : Tables) (B : BatchTables) (out : Tables) (cells : ℕ) → 4 ≤ cells → joining m L T B out cells ≡ joining m L T B out 4
unfolding joining join_answer join_fit block_then refuse
join_block_changes_nothing m L T B out cells h = ap (λ (a : Answer). join_end (batch_then m L T B (fit_then m (joined L T B) out a)) (joined L T B) out) (block_done cells h)
