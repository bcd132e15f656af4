-- What a sweep asks, keeps when all positions below x are dealt with, and has done at the end.
use Rattle.std.specs.Prelude.{◌≡◌, List, ℕ, ◌<◌, ◌≤◌, length}
use Rattle.meaning.specs.Words.{at}
use Rattle.meaning.specs.Rows.{Edge}
use Rattle.mend.specs.Right.{Shape}
use Rattle.tree.specs.Sweep.{Plan}
use Rattle.tree.specs.Sweep as tree
use Rattle.tree.specs.TreeAt.{Flags}
use Rattle.placing.specs.Placing.{Moves, Held, Beyond}
use Rattle.runs.specs.Runs.{Store, Room, Opened, Stored, Onward, Swept, Collected}
use Rattle.sweep.specs.Columns.{Input, State, up_in, position_of, low_cell, Sited}

-- the edges are those that the rules 5 and 7 pass, in both orders; sites and mutations those that 8 and 9 pass; every column is long enough
pub record Asked (L : ℕ) (I : Input) (touched : ℕ) (marks : List ℕ) (Z : State) : Type 0 where
  pub shape : Shape I.time I.sample Z.parents Z.counts Z.sums
  pub lows_long : length Z.lows ≡ length Z.parents
  pub ups_long : length Z.ups ≡ length Z.parents
  pub plan : Plan I.time I.left I.right I.parent I.child I.by_left I.by_right (length I.time)
  pub sites : Sited L I
  pub listed : length I.time ≤ touched
  pub marks_long : length marks ≡ length I.time
  pub left_long : length Z.runs.left ≡ length I.time
  pub par_long : length Z.runs.par ≡ length I.time
  pub room : Room (length I.time) Z.store
  pub numbered : length I.site ≤ 4294967295
  pub even : length Z.moves.low ≡ length Z.moves.row

-- the columns at x: the tree is that of the change before, no row has a mark, and the mutations still to be placed lie at x or past it
pub record Steady (L : ℕ) (I : Input) (touched : ℕ) (marks : List ℕ) (x : ℕ) (Z : State) : Type 0 where
  pub tree : tree.Swept I.time I.sample Z.parents Z.counts Z.sums Z.lows Z.ups I.left I.right I.parent I.child I.by_left I.by_right Z.begun Z.ended x
  pub sites : Sited L I
  pub listed : length I.time ≤ touched
  pub marks_long : length marks ≡ length I.time
  pub bare : (v : ℕ) → v < length I.time → at marks v ≡ 0
  pub runs : Opened (length I.time) Z.runs
  pub room : Room (length I.time) Z.store
  pub numbered : length I.site ≤ 4294967295
  pub even : length Z.moves.low ≡ length Z.moves.row
  pub few : Z.moves.count ≤ Z.placed
  pub most : Z.placed ≤ length I.site
  pub ahead : (i : ℕ) → Z.placed ≤ i → i < length I.site → x ≤ position_of I i
  pub inside : x ≤ L

-- what they mean for the sample rows Q: the finished edges are F, the open runs are of the tree's output parents, and the mutations placed
-- that move are listed
pub record Going (L : ℕ) (I : Input) (x : ℕ) (Q : List ℕ) (F : List Edge) (Z : State) : Type 0 where
  pub swept : Swept (up_in I Q) (length I.time) L x F (at Z.runs.left) (at Z.runs.par)
  pub stored : Stored (length I.time) F Z.store
  pub current : (c : ℕ) → c < length I.time → at Z.runs.par c ≡ at Z.ups c
  pub held : Held (low_cell I Q) Z.placed Z.moves

-- what was finished and listed stays, and no cell past it is written
pub record Later (Z Z' : State) : Type 0 where
  pub onward : Onward Z.store Z'.store
  pub beyond : Beyond Z.moves Z'.moves

-- from Z at x the sweep came to Z' at y
pub record Came (L : ℕ) (I : Input) (touched : ℕ) (marks : List ℕ) (x : ℕ) (Z : State) (marks' : List ℕ) (y : ℕ) (Z' : State) : Type 0 where
  pub steady : Steady L I touched marks' y Z'
  pub later : Later Z Z'
  pub going : (Q : List ℕ) → Flags I.sample Q (length I.time) → (F : List Edge) → Going L I x Q F Z → (F' : List Edge) × Going L I y Q F' Z'

-- for the sample rows Q: D holds edges that are exactly the longest runs of output parents, and W the mutations that move and their rows; no
-- cell past them is another than in D₀ and W₀
pub record Done (L : ℕ) (I : Input) (Q : List ℕ) (D₀ : Store) (W₀ : Moves) (D : Store) (W : Moves) : Type 0 where
  pub edges : (F : List Edge) × Collected (up_in I Q) (length I.time) L F × Stored (length I.time) F D
  pub onward : Onward D₀ D
  pub held : Held (low_cell I Q) (length I.site) W
  pub beyond : Beyond W₀ W
