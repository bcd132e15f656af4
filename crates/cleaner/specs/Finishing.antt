-- What is written to the lent columns of edges and mutations: first the sweep's lists, then these in key order and with the places of rows.
use Rattle.std.specs.Prelude.{◌≡◌, List, map, ℕ, ◌<◌, ◌≤◌, length, get_or, take}
use Rattle.meaning.specs.Words.{at, rows}
use Rattle.meaning.specs.Rows.{NodeColumns, EdgeColumns, Edge}
use Rattle.meaning.specs.Answer.{put}
use Rattle.order.specs.Order.{SortedFrom, by_keys}
use Rattle.writing.specs.Renamed.{renamed}
use Rattle.placing.specs.Placing.{movers}
use Rattle.runs.specs.Runs.{Collected, no_edge}
use Rattle.sweep.specs.Columns.{Input, up_in, low_cell}

-- at most the first k cells are written
pub record Front (k : ℕ) (old new : List ℕ) : Type 0 where
  pub long : length new ≡ length old
  pub past : (i : ℕ) → k ≤ i → at new i ≡ at old i

-- row i of the columns is the edge e
pub record RowIs (E : EdgeColumns) (i : ℕ) (e : Edge) : Type 0 where
  pub left : at E.left i ≡ e.left
  pub right : at E.right i ≡ e.right
  pub parent : at E.parent i ≡ e.parent
  pub child : at E.child i ≡ e.child

-- there is a mark for each of n rows, and the lent columns have a cell for each of k edges and m mutations
pub record Fillable (n k m : ℕ) (stood : List ℕ) (out : EdgeColumns) (rows lows : List ℕ) : Type 0 where
  pub stood_long : n ≤ length stood
  pub left_room : k ≤ length out.left
  pub right_room : k ≤ length out.right
  pub parent_room : k ≤ length out.parent
  pub child_room : k ≤ length out.child
  pub rows_room : m ≤ length rows
  pub lows_room : m ≤ length lows

-- the first k rows are collected edges, and the first m of rows and lows are mutations that move and the rows where they go
pub record Filled (L : ℕ) (I : Input) (Q : List ℕ) (k m : ℕ) (out out' : EdgeColumns) (rows rows' lows lows' : List ℕ) : Type 0 where
  pub edges : List Edge
  pub collected : Collected (up_in I Q) (length I.time) L edges
  pub cells : (i : ℕ) → i < k → i < length edges → RowIs out' i (get_or edges i no_edge)
  pub left_front : Front k out.left out'.left
  pub right_front : Front k out.right out'.right
  pub parent_front : Front k out.parent out'.parent
  pub child_front : Front k out.child out'.child
  pub moving : (j : ℕ) → j < m → j < length (movers (low_cell I Q) (length I.site)) → (at rows' j ≡ at (movers (low_cell I Q) (length I.site)) j) × (at lows' j ≡ low_cell I Q (at (movers (low_cell I Q) (length I.site)) j))
  pub rows_front : Front m rows rows'
  pub lows_front : Front m lows lows'

-- the first k edges of E stand in key order in E', with the places of their parents and children
pub record EdgesDone (N : NodeColumns) (places : List ℕ) (k : ℕ) (E E' : EdgeColumns) : Type 0 where
  pub order : List ℕ
  pub sorted : SortedFrom (by_keys (map (at N.time) (take k E.parent)) (map (at N.birth) (take k E.parent)) (map (at N.birth) (take k E.child)) (take k E.left)) (rows (λ i. i) k) order
  pub lefts : E'.left ≡ put (map (at E.left) order) E.left
  pub rights : E'.right ≡ put (map (at E.right) order) E.right
  pub parents : E'.parent ≡ put (map (λ i. renamed places (at E.parent i)) order) E.parent
  pub children : E'.child ≡ put (map (λ i. renamed places (at E.child i)) order) E.child

-- the first k mutations, of the rows listed, with their sites, places and states
pub record MutationsDone (places site derived : List ℕ) (k : ℕ) (listed lows out_derived listed' lows' out_derived' : List ℕ) : Type 0 where
  pub sites : listed' ≡ put (map (renamed site) (take k listed)) listed
  pub nodes : lows' ≡ put (map (renamed places) (take k lows)) lows
  pub states : out_derived' ≡ put (map (at derived) (take k listed)) out_derived
