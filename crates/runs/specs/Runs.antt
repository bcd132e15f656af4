-- Open runs and finished edges of a sweep along the chromosome: what the lent columns hold when all positions below x are dealt with.
use Rattle.std.specs.Prelude.{◌≡◌, List, [], ◌∷◌, ◌⊎◌, ℕ, suc, min, ◌<◌, ◌≤◌, length, get_or}
use Rattle.std.proofs.Math.Option.{some}
use Rattle.meaning.specs.Words.{at}
use Rattle.meaning.specs.Rows.{Edge}
use Rattle.meaning.specs.Forest.{Par, is}
use Rattle.meaning.specs.Answer.{limits}
use Rattle.laws.specs.Facts.{Any, All, Cov}
use Rattle.bridge.specs.Parents.{no_row, code}
use Rattle.encoding.specs.Runs.{Longest}

-- a cell that holds a row holds one of n
abbrev pub Named : ℕ → ℕ → Type 0
Named n p = (p ≡ no_row → ⊥) → p < n

-- ---- the lent columns

-- the open run of each node row: where it began, and its parent row or none
pub record OpenRuns : Type 0 where
  pub left : List ℕ
  pub par : List ℕ

-- the finished edges, the rows that are the parent of one, and the count of finished edges
pub record Store : Type 0 where
  pub left : List ℕ
  pub right : List ℕ
  pub parent : List ℕ
  pub child : List ℕ
  pub stood : List ℕ
  pub count : ℕ

-- the columns of finished edges have one length, and there is a mark for each of n node rows
pub record Room (n : ℕ) (D : Store) : Type 0 where
  pub right_long : length D.right ≡ length D.left
  pub parent_long : length D.parent ≡ length D.left
  pub child_long : length D.child ≡ length D.left
  pub stood_long : length D.stood ≡ n

-- n open runs, each of a row or none
pub record Opened (n : ℕ) (O : OpenRuns) : Type 0 where
  pub left_long : length O.left ≡ n
  pub par_long : length O.par ≡ n
  pub rows : (c : ℕ) → c < n → Named n (at O.par c)

-- ---- the finished edges F as stored

abbrev pub no_edge : Edge
no_edge = record { left = 0; right = 0; parent = 0; child = 0 }

-- cell i of the columns is the edge e
pub record Cell (D : Store) (i : ℕ) (e : Edge) : Type 0 where
  pub left : at D.left i ≡ e.left
  pub right : at D.right i ≡ e.right
  pub parent : at D.parent i ≡ e.parent
  pub child : at D.child i ≡ e.child

-- some edge of F has the parent p
abbrev pub Parent : List Edge → ℕ → Type 0
Parent F p = Any (λ (e : Edge). e.parent ≡ p) F

-- the mark of p is 1 where p is the parent of an edge of F, and else 0
abbrev pub Mark : List Edge → ℕ → ℕ → Type 0
Mark F p m = ((m ≡ 1) × Parent F p) ⊎ ((m ≡ 0) × (Parent F p → ⊥))

-- the count stops at one more than the limit, and cells are written while they last
pub record Stored (n : ℕ) (F : List Edge) (D : Store) : Type 0 where
  pub counted : D.count ≡ min (length F) (suc limits.edges)
  pub cells : (i : ℕ) → i < D.count → i < length D.left → Cell D i (get_or F i no_edge)
  pub marks : (p : ℕ) → p < n → Mark F p (at D.stood p)

-- cell i of the columns is as it was
pub record Same (D D' : Store) (i : ℕ) : Type 0 where
  pub left : at D'.left i ≡ at D.left i
  pub right : at D'.right i ≡ at D.right i
  pub parent : at D'.parent i ≡ at D.parent i
  pub child : at D'.child i ≡ at D.child i

-- more edges are stored, and no cell from the count on is written
pub record Onward (D D' : Store) : Type 0 where
  pub more : D.count ≤ D'.count
  pub lefts : length D'.left ≡ length D.left
  pub rights : length D'.right ≡ length D.right
  pub parents : length D'.parent ≡ length D.parent
  pub children : length D'.child ≡ length D.child
  pub rest : (i : ℕ) → D'.count ≤ i → Same D D' i

-- ---- what open runs and finished edges say of U, the output parent at each position

-- the open run of c, from s on with the cell o, up to x: it is of one parent, and could not begin before
pub record Run (U : ℕ → Par) (x c s o : ℕ) : Type 0 where
  pub begun : s ≤ x
  pub same : (y : ℕ) → s ≤ y → y < x → code (U y c) ≡ o
  pub early : (o ≡ no_row → ⊥) → (y : ℕ) → suc y ≡ s → code (U y c) ≡ o → ⊥

-- a finished edge is as long as it can be, and ends where or before its child's open run begins
pub record Finished (U : ℕ → Par) (n L : ℕ) (left : ℕ → ℕ) (e : Edge) : Type 0 where
  pub parent_row : e.parent < n
  pub child_row-is : e.child < n
  pub whole : Longest L (λ y. is (U y e.child) e.parent) e
  pub ended : e.right ≤ left e.child

-- where d and e are of one child, e begins to the right of where d begins
abbrev pub Follows : Edge → Edge → Type 0
Follows d e = d.child ≡ e.child → d.left < e.left

-- each child's edges stand in a list from left to right
pub data InTurn : List Edge → Type 0 where
  none_yet : InTurn []
  one_more : {e : Edge} {l : List Edge} → All (Follows e) l → InTurn l → InTurn (e ∷ l)

-- open runs (left and par by row) and finished edges F up to x: every output parent below x is in one of them
pub record Kept (U : ℕ → Par) (n L x : ℕ) (F : List Edge) (left par : ℕ → ℕ) : Type 0 where
  pub inside : x ≤ L
  pub named : (y c p : ℕ) → c < n → U y c ≡ some p → p ≡ no_row → ⊥
  pub run : (c : ℕ) → c < n → Run U x c (left c) (par c)
  pub edges : All (Finished U n L left) F
  pub in_turn : InTurn F
  pub covers : (y c p : ℕ) → y < x → c < n → U y c ≡ some p → Any (Cov y c p) F ⊎ (left c ≤ y)

-- the run has a position behind it, or nothing was begun yet
abbrev pub Behind : ℕ → ℕ → ℕ → Type 0
Behind x s o = (s < x) ⊎ ((x ≡ 0) × (o ≡ no_row))

-- all positions below x are dealt with
pub record Swept (U : ℕ → Par) (n L x : ℕ) (F : List Edge) (left par : ℕ → ℕ) : Type 0 where
  pub kept : Kept U n L x F left par
  pub behind : (c : ℕ) → c < n → Behind x (left c) (par c)

-- while the change at x is dealt with: each open run is that of x already, or still that of before
pub record Settling (U : ℕ → Par) (n L x : ℕ) (F : List Edge) (left par : ℕ → ℕ) : Type 0 where
  pub kept : Kept U n L x F left par
  pub either : (c : ℕ) → c < n → (par c ≡ code (U x c)) ⊎ Behind x (left c) (par c)

-- the change at x is dealt with: each open run is that of x
pub record Settled (U : ℕ → Par) (n L x : ℕ) (F : List Edge) (left par : ℕ → ℕ) : Type 0 where
  pub kept : Kept U n L x F left par
  pub current : (c : ℕ) → c < n → par c ≡ code (U x c)

-- all is finished: every output parent is in an edge of F, and each edge is as long as it can be
pub record Collected (U : ℕ → Par) (n L : ℕ) (F : List Edge) : Type 0 where
  pub inside : All (λ (e : Edge). (e.parent < n) × (e.child < n)) F
  pub whole : All (λ (e : Edge). Longest L (λ y. is (U y e.child) e.parent) e) F
  pub in_turn : InTurn F
  pub covers : (y c p : ℕ) → y < L → c < n → U y c ≡ some p → Any (Cov y c p) F
