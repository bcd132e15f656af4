-- What calls that are not refused have found, as facts about records: the premises of every theorem on cleaning and joining.
use Rattle.std.specs.Prelude.{◌≡◌, Bool, true, false, List, [], ◌∷◌, ◌++◌, ◌⊎◌, ℕ, ◌<◌, ◌≤◌}
use Rattle.meaning.specs.Words.{mem}
use Rattle.meaning.specs.Rows.{Node, Edge, Mutation, Record, births, time_of, pos_of}
use Rattle.meaning.specs.Forest.{Ages}
use Rattle.meaning.specs.Join.{Batch}

abbrev pub In : List ℕ → ℕ → Type 0
In S s = mem s S ≡ true

-- no number stands twice
pub data Distinct : List ℕ → Type 0 where
  nil : Distinct []
  cons : {a : ℕ} {l : List ℕ} → mem a l ≡ false → Distinct l → Distinct (a ∷ l)

-- some member passes
pub data Any {A : Type 0} (Q : A → Type 0) : List A → Type 0 where
  now : {a : A} {l : List A} → Q a → Any Q (a ∷ l)
  later : {a : A} {l : List A} → Any Q l → Any Q (a ∷ l)

-- every member passes
pub data All {A : Type 0} (Q : A → Type 0) : List A → Type 0 where
  done : All Q []
  also : {a : A} {l : List A} → Q a → All Q l → All Q (a ∷ l)

-- e is an edge of b to q at y
pub record Cov (y b q : ℕ) (e : Edge) : Type 0 where
  pub of_child : e.child ≡ b
  pub begun : e.left ≤ y
  pub not_over : y < e.right
  pub to_parent : e.parent ≡ q

-- the births that a batch names as parents
unfoldable pub parents : List Edge → List ℕ
parents [] = []
parents (e ∷ l) = e.parent ∷ parents l

-- what the checks 1 to 9 find
pub record Good (R : Record) : Type 0 where
  pub once : Distinct (births R.nodes)
  pub young : (b : ℕ) → time_of R.nodes b < Ages
  pub edge : (x v q : ℕ) → Any (Cov x v q) R.edges → (mem v (births R.nodes) ≡ true) × (mem q (births R.nodes) ≡ true) × (time_of R.nodes v < time_of R.nodes q)
  pub single : (x v q r : ℕ) → Any (Cov x v q) R.edges → Any (Cov x v r) R.edges → q ≡ r
  pub muts_ok : All (λ (m : Mutation). (mem m.node (births R.nodes) ≡ true) × (pos_of R.sites m.site < R.len)) R.muts

-- every birth that a row names is a node's
pub record Closed (R : Record) : Type 0 where
  pub edges_in : All (λ (e : Edge). (mem e.parent (births R.nodes) ≡ true) × (mem e.child (births R.nodes) ≡ true)) R.edges
  pub muts_in : All (λ (m : Mutation). mem m.node (births R.nodes) ≡ true) R.muts

-- what a join's 20 to 25 find
pub record JoinOk (R : Record) (B : Batch) : Type 0 where
  pub once : Distinct (births B.nodes)
  pub fresh : (b : ℕ) → mem b (births B.nodes) ≡ true → mem b (births R.nodes) ≡ true → ⊥
  pub young : (b : ℕ) → time_of B.nodes b < Ages
  pub edge : (x v q : ℕ) → Any (Cov x v q) B.edges → (mem v (births B.nodes) ≡ true) × ((mem q (births B.nodes) ≡ true) ⊎ (mem q (births R.nodes) ≡ true)) × (time_of (R.nodes ++ B.nodes) v < time_of (R.nodes ++ B.nodes) q)
  pub rows_in : All (λ (e : Edge). ((mem e.parent (births B.nodes) ≡ true) ⊎ (mem e.parent (births R.nodes) ≡ true)) × (mem e.child (births B.nodes) ≡ true)) B.edges
  pub known : (q : ℕ) → mem q (parents B.edges) ≡ true → (mem q (births B.nodes) ≡ true) ⊎ (mem q (births R.nodes) ≡ true)
  pub single : (x v q r : ℕ) → Any (Cov x v q) B.edges → Any (Cov x v r) B.edges → q ≡ r
  pub muts_ok : All (λ (m : Mutation). (mem m.node (births B.nodes) ≡ true) × (pos_of R.sites m.site < R.len)) B.muts

-- what a cleaning's 1 to 12 find
pub record CleanOk (R : Record) (S : List ℕ) : Type 0 where
  pub good : Good R
  pub distinct : Distinct S
  pub listed : (s : ℕ) → In S s → mem s (births R.nodes) ≡ true
