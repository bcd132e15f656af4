-- M-106, "Which stock a fish came from": tables with every population 0, and 01's listing with stocks in it.
use Rattle.std.specs.Prelude.{◌≡◌, refl, List, [], ◌∷◌, map, ℕ, replicate}
use Rattle.meaning.specs.Words.{zeros}
use Rattle.meaning.specs.Rows.{NodeColumns, Tables, node_table, tables}
use Rattle.meaning.specs.Forest.{stands}
use Rattle.meaning.specs.Answer.{answer, limits, stored_limits}
use Rattle.meaning.specs.Lent.{Counts}
use Rattle.meaning.specs.Check.{check}
use Rattle.meaning.specs.Clean.{cleaned, cleaning}
use Rattle.meaning.specs.Join.{BatchTables, batch_tables, joined, join_answer}
use Rattle.meaning.specs.Files.{reading, write_answer}
use Rattle.meaning.specs.Shown.{blank}
use Rattle.meaning.specs.Listing.{nodes, edges, sites, muts, file, with_nodes}
use Rattle.meaning.specs.Small.{spawn}

-- ---- two tables that "differ in populations only" are the same once every population is 0

abbrev pub plain_nodes : NodeColumns → NodeColumns
plain_nodes N = node_table N.time N.birth (map (λ (p : ℕ). 0) N.population)

abbrev pub plain : Tables → Tables
plain T = tables (plain_nodes T.nodes) T.edges T.sites T.muts

abbrev pub plain_batch : BatchTables → BatchTables
plain_batch B = batch_tables (plain_nodes B.nodes) B.edges B.muts

-- ---- the listing's fish, of five stocks

abbrev pub stocked : List ℕ → Tables
stocked population = with_nodes (node_table nodes.time nodes.birth population)

abbrev stocks : List ℕ
stocks = 3 ∷ 1 ∷ 4 ∷ 1 ∷ 5 ∷ []

-- room for the listing's result, but for so many populations only
abbrev lent : ℕ → Tables
lent k = tables (node_table (zeros 4) (zeros 4) (zeros k)) blank.edges blank.sites blank.muts

pub record Stocks : Type 0 where
  -- "Cleaning and joining copy it": every row keeps its own
  pub copied : (cleaned stands 10 (stocked stocks) (501 ∷ 502 ∷ [])).nodes ≡ node_table (0 ∷ 0 ∷ 1 ∷ 2 ∷ []) (501 ∷ 502 ∷ 401 ∷ 301 ∷ []) (3 ∷ 1 ∷ 4 ∷ 1 ∷ [])
  pub reordered : (cleaned stands 10 (stocked stocks) (401 ∷ 501 ∷ [])).nodes.population ≡ 4 ∷ 3 ∷ []
  pub joined_too : (joined 10 (stocked stocks) spawn).nodes.population ≡ 3 ∷ 1 ∷ 4 ∷ 1 ∷ 5 ∷ 9 ∷ 2 ∷ []
  -- it is a column of table 1: for 1, for 20, and for the room
  pub ragged : check limits 10 (stocked (3 ∷ 1 ∷ 4 ∷ 1 ∷ [])) (501 ∷ []) ≡ answer 1 1
  pub ragged_batch : join_answer limits 10 (stocked stocks) (batch_tables (node_table spawn.nodes.time spawn.nodes.birth (9 ∷ [])) spawn.edges spawn.muts) blank 4 ≡ answer 20 1
  pub room : (cleaning stands limits 10 (stocked stocks) (501 ∷ 502 ∷ []) (lent 3) (zeros 5) 4).answer ≡ answer 13 1
  pub room_enough : (cleaning stands limits 10 (stocked stocks) (501 ∷ 502 ∷ []) (lent 4) (zeros 5) 4).answer ≡ answer 0 0
  -- "reading gives 0, and writing refuses another value": 38 with the lowest such row, before 13
  pub read : (reading 2 stored_limits file (lent 5) (zeros 2)).cells.nodes.population ≡ zeros 5
  pub refused : write_answer 2 stored_limits 10 (stocked (0 ∷ 0 ∷ 7 ∷ 0 ∷ 1 ∷ [])) (501 ∷ []) 0 ≡ answer 38 2

pub stocks_kept : Stocks
unfolding cleaned cleaning stands joined join_answer check reading write_answer blank zeros
stocks_kept = record { copied = refl; reordered = refl; joined_too = refl; ragged = refl; ragged_batch = refl; room = refl; room_enough = refl; read = refl; refused = refl }
