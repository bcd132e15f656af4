-- What the functions of the sweep promise: each for every course of output parents U and every list F of edges finished so far.
use Rattle.std.specs.Prelude.{◌≡◌, true, false, List, [], ◌∷◌, ◌++◌, ◌⊎◌, ℕ, ◌<◌, eqb, length}
use Rattle.meaning.specs.Words.{at}
use Rattle.meaning.specs.Rows.{Edge}
use Rattle.meaning.specs.Forest.{Par}
use Rattle.bridge.specs.Parents.{no_row, code}
use Rattle.runs.specs.declared.Segment.{Segment}
use Rattle.runs.specs.Runs.{Named, OpenRuns, Store, Room, Opened, Stored, Onward, Swept, Settling, Settled, Collected}

-- the edge from a segment's row to a child, over the segment
abbrev pub edge_of : Segment → ℕ → Edge
edge_of s c = record { left = s.left; right = s.right; parent = s.row; child = c }

-- one edge more is stored
pub record Pushed (e : Edge) (D D' : Store) : Type 0 where
  pub one_more : (n : ℕ) (F : List Edge) → Stored n F D → Stored n (F ++ e ∷ []) D'
  pub onward : Onward D D'

-- the columns that the change at a position is dealt with in; up has the output parents at that position
pub record Ready (up : List ℕ) (O : OpenRuns) (D : Store) : Type 0 where
  pub runs : Opened (length up) O
  pub room : Room (length up) D
  pub rows : (c : ℕ) → c < length up → Named (length up) (at up c)

-- the open run of row c is that of x
pub record RowSettled (x c : ℕ) (up : List ℕ) (O : OpenRuns) (D : Store) (O' : OpenRuns) (D' : Store) : Type 0 where
  pub runs : Opened (length up) O'
  pub here : at O'.par c ≡ at up c
  pub others : (d : ℕ) → (d ≡ c → ⊥) → at O'.par d ≡ at O.par d
  pub onward : Onward D D'
  pub settles : (U : ℕ → Par) (L : ℕ) (F : List Edge) → Settling U (length up) L x F (at O.left) (at O.par) → at up c ≡ code (U x c) → Stored (length up) F D → (F' : List Edge) × Settling U (length up) L x F' (at O'.left) (at O'.par) × Stored (length up) F' D'

-- every row of n whose output parent is another than before is among the first k rows of touched
abbrev pub Touched : ℕ → List ℕ → List ℕ → ℕ → List ℕ → Type 0
Touched n up par k touched = (c : ℕ) → c < n → (at par c ≡ at up c → ⊥) → (i : ℕ) × (i < k) × (at touched i ≡ c)

-- the change at x is dealt with
pub record ChangeSettled (x : ℕ) (up touched : List ℕ) (k : ℕ) (O : OpenRuns) (D : Store) (O' : OpenRuns) (D' : Store) : Type 0 where
  pub runs : Opened (length up) O'
  pub onward : Onward D D'
  pub settles : (U : ℕ → Par) (L : ℕ) (F : List Edge) → Swept U (length up) L x F (at O.left) (at O.par) → ((c : ℕ) → c < length up → at up c ≡ code (U x c)) → Touched (length up) up O.par k touched → Stored (length up) F D → (F' : List Edge) × Settled U (length up) L x F' (at O'.left) (at O'.par) × Stored (length up) F' D'

-- the marks K of the first k rows of touched are taken away
pub record Bared (n : ℕ) (touched : List ℕ) (k : ℕ) (K K' : List ℕ) : Type 0 where
  pub long : length K' ≡ length K
  pub bare : (c : ℕ) → c < n → (at K c ≡ 0) ⊎ ((i : ℕ) × (i < k) × (at touched i ≡ c)) → at K' c ≡ 0

-- the edge that the open run of c, from s on with the cell o, leaves when it ends at x: none where it is of none
unfoldable pub leaves : ℕ → ℕ → ℕ → ℕ → List Edge
leaves x c s o = elim (eqb o no_row) [ true ↦ [] | false ↦ record { left = s; right = x; parent = o; child = c } ∷ [] ]

-- the open run of row c is finished at x
pub record RowClosed (x c : ℕ) (O : OpenRuns) (D D' : Store) : Type 0 where
  pub onward : Onward D D'
  pub closes : (n : ℕ) (F : List Edge) → Stored n F D → Stored n (F ++ leaves x c (at O.left c) (at O.par c)) D'

-- every open run is finished at the end of the chromosome
pub record Closed (L : ℕ) (O : OpenRuns) (D D' : Store) : Type 0 where
  pub onward : Onward D D'
  pub closes : (U : ℕ → Par) (F : List Edge) → Swept U (length O.par) L L F (at O.left) (at O.par) → Stored (length O.par) F D → (F' : List Edge) × Collected U (length O.par) L F' × Stored (length O.par) F' D'
