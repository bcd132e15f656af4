-- The way up to a row that is told, and telling the rows on it.
use mathlib.Core.Path.{◌≡◌, refl, sym, ap, ◌∙◌}
use mathlib.Core.Bool.{Bool, true, false}
use mathlib.Core.List.{List}
use mathlib.Core.Logic.{◌⊎◌, inl, inr}
use mathlib.Core.Option.{Option, none, some}
use Prim.Native.Nat.{ℕ, ◌<◌, ◌≤◌}
use native.Mathlib.Omega.{arith}
use lib.ListN.{length, set, length-set}
use lib.Seq.{get_or-set_same, get_or-set_other}
use Rattle.meaning.specs.Words.{at}
use Rattle.meaning.specs.Rows.{EdgeColumns}
use Rattle.laws.specs.Bools.{eq?, not_true}
use Rattle.bridge.specs.Parents.{no_row, code, parent_row}
use Rattle.ancestry.specs.Column.{older, Rising}
use Rattle.ancestry.specs.Older.{older_falls}
use Rattle.ancestry.specs.Rises.{parent_rises}
use Rattle.overtaking.proofs.Knowing.{still_keeping}
use Rattle.carrying.specs.Told.{Upwards, Handed, Told, Found, ToldUp, Carried}

-- ---- a parent as a cell

module _ {time : List ℕ} {E : EdgeColumns} (up : Rising time E) (few : length time ≤ no_row) (x u p : ℕ) (c : p ≡ code (parent_row E x u)) where
  pub no_parent : p ≡ no_row → parent_row E x u ≡ none
  unfolding code
  no_parent z = go (parent_row E x u) refl
    where
      go : (o : Option ℕ) → parent_row E x u ≡ o → o ≡ none
      go none e = refl
      go (some q) e = absurd (let y : code (parent_row E x u) ≡ q = ap code e in omega (arith, (parent_rises time E up x u q e).1))

  module _ (n : p ≡ no_row → ⊥) where
    pub a_parent : parent_row E x u ≡ some p
    unfolding code
    a_parent = go (parent_row E x u) refl
      where
        go : (o : Option ℕ) → parent_row E x u ≡ o → parent_row E x u ≡ some p
        go none e = absurd (n (c ∙ ap code e))
        go (some q) e = e ∙ ap some (sym (c ∙ ap code e))

    pub parent_in-is : p < length time
    parent_in-is = (parent_rises time E up x u p a_parent).1

    pub parent_falls : older time p < older time u
    parent_falls = let r : _ = parent_rises time E up x u p a_parent in older_falls time u p r.1 r.2

-- ---- columns of the same length will do

pub still_up : {time : List ℕ} {E : EdgeColumns} {ends par told state par' told' state' : List ℕ} → length par' ≡ length par → length told' ≡ length told → length state' ≡ length state → Upwards time E ends par told state → Upwards time E ends par' told' state'
still_up p r s k = record {
  keeping = still_keeping p k.keeping;
  rising = k.rising;
  few = k.few;
  told_long = omega (arith, k.told_long);
  state_long = omega (arith, k.state_long);
}

-- a row that is not told has no state of its own
untold : {n t : ℕ} {K : ℕ → Bool} {A : ℕ → ℕ} {told state : List ℕ} → Told n t K A told state → (u : ℕ) → u < n → (at told u ≡ t → ⊥) → K u ≡ false
untold {K = K} k u l n = not_true (K u) (λ e. n (k.own u l e))

-- ---- finding

-- from u0 it has come to u, which carries the same
pub record Climbing (E : EdgeColumns) (x n other t : ℕ) (told state : List ℕ) (u0 u : ℕ) : Type 0 where
  pub row : u < n
  pub same : (K : ℕ → Bool) (A : ℕ → ℕ) → Handed E x n other K A → Told n t K A told state → A u0 ≡ A u

pub climb_start : {E : EdgeColumns} {x n other t : ℕ} {told state : List ℕ} {u : ℕ} → u < n → Climbing E x n other t told state u u
climb_start l = record { row = l; same = λ K A h k. refl }

module _ {E : EdgeColumns} {x n other t : ℕ} {told state : List ℕ} {u0 u : ℕ} (w : Climbing E x n other t told state u0 u) where
  -- the row is told
  pub climb_told : at told u ≡ t → Found E x n other t told state u0 (at state u)
  climb_told e = record { carried = λ K A h k. k.cell u w.row e ∙ sym (w.same K A h k) }

  module _ (m : at told u ≡ t → ⊥) where
    -- the row has no parent
    pub climb_top : parent_row E x u ≡ none → Found E x n other t told state u0 other
    climb_top e = record { carried = λ K A h k. sym (w.same K A h k ∙ h.top u w.row (untold k u w.row m) e) }

    -- its parent carries the same
    pub climb_on : {p : ℕ} → p < n → parent_row E x u ≡ some p → Climbing E x n other t told state u0 p
    climb_on {p} l e = record { row = l; same = λ K A h k. w.same K A h k ∙ h.step u p w.row (untold k u w.row m) e }

-- ---- telling

-- the rows below u are told s, and u carries it
pub record Passing (E : EdgeColumns) (x n t s u0 : ℕ) (told₀ state₀ told state : List ℕ) (u : ℕ) : Type 0 where
  pub row : u < n
  pub told_long : length told ≡ length told₀
  pub state_long : length state ≡ length state₀
  pub still : (other : ℕ) (K : ℕ → Bool) (A : ℕ → ℕ) → Handed E x n other K A → Told n t K A told₀ state₀ → s ≡ A u0 → Told n t K A told state
  pub same : (other : ℕ) (K : ℕ → Bool) (A : ℕ → ℕ) → Handed E x n other K A → Told n t K A told₀ state₀ → s ≡ A u0 → s ≡ A u

pub pass_start : {E : EdgeColumns} {x n t s : ℕ} {told state : List ℕ} {u : ℕ} → u < n → Passing E x n t s u told state told state u
pass_start l = record { row = l; told_long = refl; state_long = refl; still = λ o K A h k q. k; same = λ o K A h k q. q }

-- one more row told
told_more : {n t : ℕ} {K : ℕ → Bool} {A : ℕ → ℕ} {told state : List ℕ} (u s : ℕ) → u < length told → u < length state → s ≡ A u → Told n t K A told state → Told n t K A (set told u t) (set state u s)
told_more {n} {t} {K} {A} {told} {state} u s a b q k = record {
  cell = λ v l e. cell v l e (eq? v u);
  own = λ v l e. own v l e (eq? v u);
  most = λ v. most v (eq? v u);
}
  where
    cell : (v : ℕ) → v < n → at (set told u t) v ≡ t → (v ≡ u) ⊎ (v ≡ u → ⊥) → at (set state u s) v ≡ A v
    cell v l e (inl z) = ap (at (set state u s)) z ∙ get_or-set_same state u s 0 b ∙ q ∙ ap A (sym z)
    cell v l e (inr m) = get_or-set_other state u v s 0 m ∙ k.cell v l (sym (get_or-set_other told u v t 0 m) ∙ e)

    own : (v : ℕ) → v < n → K v ≡ true → (v ≡ u) ⊎ (v ≡ u → ⊥) → at (set told u t) v ≡ t
    own v l e (inl z) = ap (at (set told u t)) z ∙ get_or-set_same told u t 0 a
    own v l e (inr m) = get_or-set_other told u v t 0 m ∙ k.own v l e

    most : (v : ℕ) → (v ≡ u) ⊎ (v ≡ u → ⊥) → at (set told u t) v ≤ t
    most v (inl z) = omega (arith, ap (at (set told u t)) z ∙ get_or-set_same told u t 0 a)
    most v (inr m) = omega (arith, get_or-set_other told u v t 0 m, k.most v)

module _ {E : EdgeColumns} {x n t s u0 : ℕ} {told₀ state₀ told state : List ℕ} {u : ℕ} (w : Passing E x n t s u0 told₀ state₀ told state u) where
  pub pass_end : ToldUp E x n t s u0 told₀ state₀ told state
  pass_end = record { still = w.still }

  module _ (a : u < length told) (b : u < length state) where
    -- the row has no parent
    pub pass_top : ToldUp E x n t s u0 told₀ state₀ (set told u t) (set state u s)
    pass_top = record { still = λ o K A h k q. told_more u s a b (w.same o K A h k q) (w.still o K A h k q) }

    -- its parent carries the same
    pub pass_on : (at told u ≡ t → ⊥) → {p : ℕ} → p < n → parent_row E x u ≡ some p → Passing E x n t s u0 told₀ state₀ (set told u t) (set state u s) p
    pass_on m {p} l e = record {
      row = l;
      told_long = length-set told u t ∙ w.told_long;
      state_long = length-set state u s ∙ w.state_long;
      still = λ o K A h k q. told_more u s a b (w.same o K A h k q) (w.still o K A h k q);
      same = λ o K A h k q. w.same o K A h k q ∙ h.step u p w.row (untold (w.still o K A h k q) u w.row m) e;
    }

-- ---- both

pub found_told : {E : EdgeColumns} {x n other t u s : ℕ} {told₀ state₀ told state : List ℕ} → Found E x n other t told₀ state₀ u s → ToldUp E x n t s u told₀ state₀ told state → Carried E x n other t u told₀ state₀ s told state
found_told {other = other} f g = record { carried = f.carried; still = λ K A h k. g.still other K A h k (f.carried K A h k) }
