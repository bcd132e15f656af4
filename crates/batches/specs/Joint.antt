-- Base and batch put together by rows: births are turned into rows of the base's nodes with the batch's after them.
use Rattle.std.specs.Prelude.{◌≡◌, false, List, ◌++◌, map, ℕ, ◌+◌, ◌<◌, ◌≤◌, length}
use Rattle.std.proofs.Common.{arith}
use Rattle.meaning.specs.Words.{at, mem, index_of}
use Rattle.meaning.specs.Rows.{EdgeColumns, MutationColumns, Tables}
use Rattle.meaning.specs.Answer.{limits, put}
use Rattle.meaning.specs.Join.{BatchTables}
use Rattle.bridge.specs.Columns.{Apart}
use Rattle.ancestry.specs.Column.{Rising}
use Rattle.meaning.specs.Even.{EvenEdges}
use Rattle.accepted.specs.Batches.{BatchEdgeRight}

-- the rows of births
abbrev pub rows_in : List ℕ → List ℕ → List ℕ
rows_in all names = map (λ b. index_of b all) names

-- the batch's edges by rows
abbrev pub own_edges : List ℕ → EdgeColumns → EdgeColumns
own_edges all F = record {
  left = F.left;
  right = F.right;
  parent = rows_in all F.parent;
  child = rows_in all F.child;
}

-- the base's edges, then the batch's
abbrev pub joint_edges : List ℕ → EdgeColumns → EdgeColumns → EdgeColumns
joint_edges all E F = record {
  left = E.left ++ F.left;
  right = E.right ++ F.right;
  parent = E.parent ++ rows_in all F.parent;
  child = E.child ++ rows_in all F.child;
}

-- the base's mutations, then the batch's
abbrev pub joint_mutations : List ℕ → MutationColumns → MutationColumns → MutationColumns
joint_mutations all M O = record {
  site = M.site ++ O.site;
  node = M.node ++ rows_in all O.node;
  derived = M.derived ++ O.derived;
}

abbrev pub all_births : Tables → BatchTables → List ℕ
all_births T B = T.nodes.birth ++ B.nodes.birth

abbrev pub all_times : Tables → BatchTables → List ℕ
all_times T B = T.nodes.time ++ B.nodes.time

-- what 1 to 5 of the base and 20 to 23 of the batch find of nodes and edges
pub record Joint (L : ℕ) (T : Tables) (B : BatchTables) : Type 0 where
  pub base_long : length T.nodes.birth ≡ length T.nodes.time
  pub long : length B.nodes.birth ≡ length B.nodes.time
  pub few : length T.nodes.time + length B.nodes.time ≤ limits.nodes
  pub base_once : Apart T.nodes.birth
  pub once : Apart B.nodes.birth
  pub fresh : (i : ℕ) → i < length B.nodes.birth → mem (at B.nodes.birth i) T.nodes.birth ≡ false
  pub rising : Rising T.nodes.time T.edges
  pub even : EvenEdges B.edges
  pub edge : (i : ℕ) → i < length B.edges.left → BatchEdgeRight L T.nodes B.nodes B.edges i

-- so their births together are no more than there may be
pub joint_few : {L : ℕ} {T : Tables} {B : BatchTables} → Joint L T B → length T.nodes.birth + length B.nodes.birth ≤ limits.nodes
joint_few k = omega (arith, k.few, k.base_long, k.long)

-- ---- the joint edges in lent columns

-- the columns have the edges at their front
pub record JointPut (E old out : EdgeColumns) : Type 0 where
  pub left : out.left ≡ put E.left old.left
  pub right : out.right ≡ put E.right old.right
  pub parent : out.parent ≡ put E.parent old.parent
  pub child : out.child ≡ put E.child old.child
