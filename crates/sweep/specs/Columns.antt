-- The columns of a sweep along the chromosome: those that are read, those that are written, and what they are about.
use Rattle.std.specs.Prelude.{◌≡◌, List, ℕ, ◌<◌, ◌≤◌, length}
use Rattle.meaning.specs.Words.{at}
use Rattle.meaning.specs.Rows.{EdgeColumns}
use Rattle.meaning.specs.Forest.{Par}
use Rattle.bridge.specs.Parents.{code}
use Rattle.byrows.specs.Rows.{up_row, low_row}
use Rattle.placing.specs.Placing.{Moves}
use Rattle.runs.specs.Runs.{OpenRuns, Store}
use Rattle.sweep.specs.declared.Source.{Source}

-- the columns that are read: nodes, edges, the edge rows by left and by right, sites and mutations
pub record Input : Type 0 where
  pub time : List ℕ
  pub sample : List ℕ
  pub left : List ℕ
  pub right : List ℕ
  pub parent : List ℕ
  pub child : List ℕ
  pub by_left : List ℕ
  pub by_right : List ℕ
  pub position : List ℕ
  pub site : List ℕ
  pub node : List ℕ

-- the columns that are written, and how far the sweep has come in both orders of the edges and in the mutations
pub record State : Type 0 where
  pub parents : List ℕ
  pub counts : List ℕ
  pub sums : List ℕ
  pub lows : List ℕ
  pub ups : List ℕ
  pub runs : OpenRuns
  pub store : Store
  pub moves : Moves
  pub begun : ℕ
  pub ended : ℕ
  pub placed : ℕ

-- ---- each by its columns, as contracts name them

abbrev pub input_of : List ℕ → List ℕ → List ℕ → List ℕ → List ℕ → List ℕ → List ℕ → List ℕ → List ℕ → List ℕ → List ℕ → Input
input_of time sample left right parent child by_left by_right position site node = record { time = time; sample = sample; left = left; right = right; parent = parent; child = child; by_left = by_left; by_right = by_right; position = position; site = site; node = node }

abbrev pub source_in : Source → Input
source_in s = input_of s.time.now s.sample.now s.edges.left.now s.edges.right.now s.edges.parent.now s.edges.child.now s.by_left.now s.by_right.now s.position.now s.site.now s.node.now

abbrev pub runs_of : List ℕ → List ℕ → OpenRuns
runs_of left par = record { left = left; par = par }

abbrev pub store_of : List ℕ → List ℕ → List ℕ → List ℕ → List ℕ → ℕ → Store
store_of left right parent child stood count = record { left = left; right = right; parent = parent; child = child; stood = stood; count = count }

abbrev pub moves_of : List ℕ → List ℕ → ℕ → Moves
moves_of row low count = record { row = row; low = low; count = count }

abbrev pub state_of : List ℕ → List ℕ → List ℕ → List ℕ → List ℕ → OpenRuns → Store → Moves → ℕ → ℕ → ℕ → State
state_of parents counts sums lows ups runs store moves begun ended placed = record { parents = parents; counts = counts; sums = sums; lows = lows; ups = ups; runs = runs; store = store; moves = moves; begun = begun; ended = ended; placed = placed }

-- ---- what they are about

abbrev pub edges_in : Input → EdgeColumns
edges_in I = record { left = I.left; right = I.right; parent = I.parent; child = I.child }

-- the output parent of each row at each position, for the sample rows Q
abbrev pub up_in : Input → List ℕ → ℕ → Par
up_in I Q = up_row (edges_in I) (length I.time) Q

-- the position of mutation i
abbrev pub position_of : Input → ℕ → ℕ
position_of I i = at I.position (at I.site i)

-- the cell of mutation i: the nearest standing row at or below its node, at its site's position, or none
abbrev pub low_cell : Input → List ℕ → ℕ → ℕ
low_cell I Q i = code (low_row (edges_in I) (length I.time) Q (position_of I i) (at I.node i))

-- what the rules 8 and 9 of the check find of sites and mutations
pub record Sited (L : ℕ) (I : Input) : Type 0 where
  pub nodes : length I.node ≡ length I.site
  pub site_row : (i : ℕ) → i < length I.site → at I.site i < length I.position
  pub node_row : (i : ℕ) → i < length I.site → at I.node i < length I.time
  pub inside : (i : ℕ) → i < length I.position → at I.position i < L
  pub ascending : (i j : ℕ) → j < i → i < length I.position → at I.position j < at I.position i
  pub rising : (i j : ℕ) → j < i → i < length I.site → at I.site j ≤ at I.site i
