-- What the checks of a batch ask of the base: what 1, 2, 4, 5 and 8 find of nodes, edges and positions.
use Rattle.std.specs.Prelude.{◌≡◌, ℕ, ◌+◌, ◌<◌, ◌≤◌, true, false, List, length}
use Rattle.meaning.specs.Words.{at, lex}
use Rattle.meaning.specs.Rows.{NodeColumns, EdgeColumns, Tables}
use Rattle.meaning.specs.Answer.{limits}
use Rattle.meaning.specs.Check.{key_of, edge_shared}
use Rattle.meaning.specs.Join.{BatchTables}
use Rattle.bridge.specs.Columns.{Apart}
use Rattle.ancestry.specs.Column.{Rising}
use Rattle.overtaking.specs.Overtaken.{Rightwards}
use Rattle.batches.specs.Joint.{Joint}
use Rattle.joint.specs.Sorting.{EdgeRoom}

pub record BaseAsked (N : NodeColumns) (E : EdgeColumns) (position : List ℕ) : Type 0 where
  pub long : length N.birth ≡ length N.time
  pub once : Apart N.birth
  pub rising : Rising N.time E
  pub sites : length position ≤ limits.sites
  pub rightwards : Rightwards position

-- no two edges of a child share a position: what 7 and 24 find, with 5 and 23
pub record Single (E : EdgeColumns) : Type 0 where
  pub holds : (i : ℕ) → i < length E.left → at E.left i < at E.right i
  pub apart : (i : ℕ) → i < length E.left → edge_shared E i ≡ false

-- each edge's key is above that of the row before: what 6 finds
pub record KeysRise (N : NodeColumns) (E : EdgeColumns) : Type 0 where
  pub above : (i j : ℕ) → j < i → i < length E.left → lex (key_of N E j) (key_of N E i) ≡ true

-- what the order of a join's edges asks: what 1 to 7 of the base and 20 to 24 of the batch find
pub record EdgesJoint (L : ℕ) (T : Tables) (B : BatchTables) : Type 0 where
  pub joint : Joint L T B
  pub few : length T.edges.left + length B.edges.left ≤ limits.edges
  pub base_single : Single T.edges
  pub base_rises : KeysRise T.nodes T.edges
  pub single : Single B.edges

-- and writing them asks for room
pub record EdgesAsked (L : ℕ) (T : Tables) (B : BatchTables) (out : EdgeColumns) : Type 0 where
  pub found : EdgesJoint L T B
  pub room : EdgeRoom (length T.edges.left + length B.edges.left) out
