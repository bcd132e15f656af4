-- Lines up and down a forest, by what stands (K) and what lives (L), and what a climb along them leaves.
use Rattle.std.specs.Prelude.{◌≡◌, ℕ, ◌<◌, ◌≤◌, Bool, true, false, List, length, ◌==◌, ◌≢◌, nat_lt, slice_index, slice_index_or}
use Rattle.std.proofs.Math.Option.{Option, none, some}
use Rattle.meaning.specs.Forest.{Par}
use Rattle.mend.specs.Right.{live, stands, more}

-- a cell of a column of rows: 4294967295 is none
unfoldable pub opt : ℕ → Option ℕ
opt r = elim (r == 4294967295) [ true ↦ none | false ↦ some r ]

-- the forest of a column of parents
unfoldable pub par_of : List ℕ → Par
unfolding opt
par_of P v = elim (nat_lt v (length P)) [ true ↦ opt (slice_index P v) | false ↦ none ]

-- w is the standing row at or below x to which the only live children lead
pub data Low (P : Par) (K L : ℕ → Bool) (w : ℕ) : ℕ → Type 0 where
  here : K w ≡ true → Low P K L w w
  down : {x d : ℕ} → K x ≡ false → P d ≡ some x → L d ≡ true → Low P K L w d → Low P K L w x

-- o is the nearest standing row properly above x, or none
pub data Over (P : Par) (K : ℕ → Bool) (o : Option ℕ) : ℕ → Type 0 where
  root : {x : ℕ} → P x ≡ none → o ≡ none → Over P K o x
  hit : {x p : ℕ} → P x ≡ some p → K p ≡ true → o ≡ some p → Over P K o x
  on : {x p : ℕ} → P x ≡ some p → K p ≡ false → Over P K o p → Over P K o x

-- from c up to d, all passed after c not standing
pub data Pass (P : Par) (K : ℕ → Bool) (c : ℕ) : ℕ → Type 0 where
  start : Pass P K c c
  next : {d y : ℕ} → Pass P K c d → P d ≡ some y → K y ≡ false → Pass P K c y

-- a parent of a live row lives, and a live row that does not stand has one live child only
pub record Lives (P : Par) (K L : ℕ → Bool) : Type 0 where
  pub up : {b p : ℕ} → P b ≡ some p → L b ≡ true → L p ≡ true
  pub only : {a b x : ℕ} → K x ≡ false → P a ≡ some x → P b ≡ some x → L a ≡ true → L b ≡ true → a ≡ b

-- P' is P with the edge from c to p, and K' is K but at q
pub record Edge (P P' : Par) (K K' : ℕ → Bool) (c p q : ℕ) : Type 0 where
  pub before : P c ≡ none
  pub after : P' c ≡ some p
  pub off : (v : ℕ) → (v ≢ c) → P' v ≡ P v
  pub same : (v : ℕ) → (v ≢ q) → K' v ≡ K v
  pub more : K q ≡ true → K' q ≡ true

-- r is the first row of L at or above q, or none
pub data Stop (P : List ℕ) (L : ℕ → Bool) (r : ℕ) : ℕ → Type 0 where
  ends : {q : ℕ} → q ≡ 4294967295 → r ≡ 4294967295 → Stop P L r q
  at : {q : ℕ} → (q ≢ 4294967295) → L q ≡ true → r ≡ q → Stop P L r q
  over : {q : ℕ} → (q ≢ 4294967295) → L q ≡ false → Stop P L r (slice_index P q) → Stop P L r q

-- v lives as before and D keeps its cell; or v came to live on the way up from d0, and D has w there
pub data Rise (P : Par) (L₀ L : ℕ → Bool) (D₀ D : List ℕ) (d0 w v : ℕ) : Type 0 where
  as_before : L v ≡ L₀ v → slice_index D v ≡ slice_index D₀ v → Rise P L₀ L D₀ D d0 w v
  risen : Pass P L₀ d0 v → slice_index D v ≡ w → Rise P L₀ L D₀ D d0 w v

-- a climb from d0 has passed d and is at q
pub record Climb (T S P C₀ C D₀ D : List ℕ) (q0 d0 w q d : ℕ) : Type 0 where
  pub inside : d < length P
  pub par : slice_index_or P d 0 ≡ q
  pub same : (v : ℕ) → stands S C v ≡ stands S C₀ v
  pub above : (v : ℕ) → slice_index T d < slice_index T v → live S C v ≡ live S C₀ v
  pub still : (v : ℕ) → slice_index T d < slice_index T v → slice_index D v ≡ slice_index D₀ v
  pub pass : Pass (par_of P) (live S C₀) d0 d
  pub wakes : (v : ℕ) → live S C₀ v ≡ true → live S C v ≡ true
  pub rose : (v : ℕ) → Rise (par_of P) (live S C₀) (live S C) D₀ D d0 w v
  pub stop : (r : ℕ) → Stop P (live S C₀) r q → Stop P (live S C₀) r q0

-- what a climb that ended at r leaves
pub record Gained (S P C₀ C D₀ D : List ℕ) (q0 d0 w r : ℕ) : Type 0 where
  pub stop : Stop P (live S C₀) r q0
  pub same : (v : ℕ) → (v ≢ r) → stands S C v ≡ stands S C₀ v
  pub yes : (r ≢ 4294967295) → stands S C r ≡ true
  pub stood : (r ≢ 4294967295) → more S C 2 r ≡ stands S C₀ r
  pub all : r ≡ 4294967295 → (v : ℕ) → stands S C v ≡ stands S C₀ v
  pub wakes : (v : ℕ) → live S C₀ v ≡ true → live S C v ≡ true
  pub rose : (v : ℕ) → Rise (par_of P) (live S C₀) (live S C) D₀ D d0 w v
  pub over : Over (par_of P) (stands S C) (opt r) d0

-- what is younger than q0 lives as before, and nothing comes to live
pub record Under (T S C₀ C : List ℕ) (q0 : ℕ) : Type 0 where
  pub same : (v : ℕ) → slice_index T v < slice_index T q0 → live S C v ≡ live S C₀ v
  pub less : (v : ℕ) → live S C v ≡ true → live S C₀ v ≡ true

-- what a climb that takes away and ended at r leaves
pub record Lost (T S P C₀ C : List ℕ) (q0 r : ℕ) : Type 0 where
  pub same : (v : ℕ) → (v ≢ r) → stands S C v ≡ stands S C₀ v
  pub was : (r ≢ 4294967295) → stands S C₀ r ≡ true
  pub all : r ≡ 4294967295 → (v : ℕ) → stands S C v ≡ stands S C₀ v
  pub still : (r ≢ 4294967295) → (r < length P) × (live S C r ≡ true)
  pub above : (r ≢ 4294967295) → slice_index T q0 ≤ slice_index T r
  pub under : Under T S C₀ C q0
