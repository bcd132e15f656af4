-- An output parent is a row, and a cell of the tree's columns is the code of what the definitions by rows say.
use mathlib.Core.Path.{◌≡◌, refl, ap, ◌∙◌}
use mathlib.Core.Bool.{Bool, true, false}
use mathlib.Core.List.{List}
use mathlib.Core.Option.{Option, none, some}
use Prim.Native.Nat.{ℕ, zero, suc, ◌<◌}
use native.Mathlib.Omega.{arith}
use Rattle.meaning.specs.Words.{at}
use Rattle.meaning.specs.Rows.{EdgeColumns, edges_of}
use Rattle.meaning.specs.Forest.{Par, Ages, near, up, drawn}
use Rattle.laws.specs.Bools.{none_some, some_inj}
use Rattle.laws.specs.Counting.{get_rows}
use Rattle.bridge.specs.Parents.{parent_row, code}
use Rattle.accepted.specs.Records.{row_of}
use Rattle.history.specs.Encode.{parent_of}
use Rattle.byrows.specs.Rows.{all_rows, reached_row, stands_row, up_row, low_row}
use Rattle.tree.specs.Sweep.{Checked}
use Rattle.tree.specs.TreeAt.{TreeAt, stands_at, low_at}
use Rattle.runs.specs.Runs.{Named}

-- ---- rows

module _ (n : ℕ) (P : Par) (inside : (b p : ℕ) → P b ≡ some p → p < n) (K : ℕ → Bool) where
  near_inside : (k v w : ℕ) → v < n → near P K k v ≡ some w → w < n
  unfolding near
  near_inside zero v w l h = go (K v) refl
    where
      go : (t : Bool) → K v ≡ t → w < n
      go true e = rw (some_inj (rw (e, near) at h) refl) l
      go false e = absurd (none_some refl (rw (e, near) at h))
  near_inside (suc k) v w l h = go (K v) refl (λ p q i. near_inside k p w q i)
    where
      on : K v ≡ false → (o : Option ℕ) → P v ≡ o → ((p : ℕ) → p < n → near P K k p ≡ some w → w < n) → w < n
      on e none f ih = absurd (none_some refl (rw f at (rw (e, near) at h)))
      on e (some p) f ih = ih p (inside v p f) (rw f at (rw (e, near) at h))

      go : (t : Bool) → K v ≡ t → ((p : ℕ) → p < n → near P K k p ≡ some w → w < n) → w < n
      go true e ih = rw (some_inj (rw (e, near) at h) refl) l
      go false e ih = on e (P v) refl ih

  up_inside : (v w : ℕ) → up P K v ≡ some w → w < n
  unfolding up
  up_inside v w h = go (P v) refl
    where
      go : (o : Option ℕ) → P v ≡ o → w < n
      go none e = absurd (none_some refl (rw (e, up) at h))
      go (some p) e = near_inside Ages p w (inside v p e) (rw (e, up) at h)

  drawn_inside : (v w : ℕ) → drawn P K v ≡ some w → w < n
  unfolding drawn
  drawn_inside v w h = go (K v) refl
    where
      go : (t : Bool) → K v ≡ t → w < n
      go true e = up_inside v w (rw (e, drawn) at h)
      go false e = absurd (none_some refl (rw (e, drawn) at h))

module _ {T l r pa ch : List ℕ} {n : ℕ} (k : Checked T l r pa ch n) where
  abbrev E : EdgeColumns
  E = record { left = l; right = r; parent = pa; child = ch }

  parent_inside : (x b p : ℕ) → parent_row E x b ≡ some p → p < n
  unfolding parent_row
  parent_inside x b p e =
      let w : _ = row_of (λ v. v) E x b p (parent_of x b (edges_of (λ v. v) E) p e) in
      omega (arith, k.parent w.0 (omega (arith, w.1.is_row, k.lefts)), w.1.to_parent)

  -- an output parent is one of the n rows
  pub up_row_inside : (Q : List ℕ) (x c p : ℕ) → up_row E n Q x c ≡ some p → p < n
  unfolding up_row
  up_row_inside Q x c p e = drawn_inside n (parent_row E x) (parent_inside x) (stands_row E n Q x) c p e

  pub up_named : (Q : List ℕ) (x c : ℕ) → Named n (code (up_row E n Q x c))
  unfolding code
  up_named Q x c = go (up_row E n Q x c) refl
    where
      go : (o : Option ℕ) → up_row E n Q x c ≡ o → Named n (code o)
      go none e = λ h. absurd (h refl)
      go (some p) e = λ h. up_row_inside Q x c p e

-- ---- cells

-- the tree's column of output parents, by rows
pub up_cell : {E : EdgeColumns} {Q S P C U : List ℕ} {n x : ℕ} → TreeAt E Q n x S P C U → (c : ℕ) → c < n → at U c ≡ code (up_row E n Q x c)
unfolding up_row parent_row stands_row stands_at all_rows
up_cell {E} {Q} {n = n} {x} t c l = ap (λ (z : List ℕ). at z c) t.ups ∙ get_rows (λ u. code (drawn (parent_row E x) (stands_at E Q n x) u)) 0 n c l

-- the nearest standing row, by rows
pub low_cell-is : (E : EdgeColumns) (Q : List ℕ) (n x u : ℕ) → code (low_at E Q n x u) ≡ code (low_row E n Q x u)
unfolding low_at low_row parent_row stands_row reached_row stands_at all_rows
low_cell-is E Q n x u = refl
