-- A column that gets f u at each row u, row by row.
use mathlib.Core.Path.{◌≡◌, refl, sym, ap, ◌∙◌}
use mathlib.Core.Bool.{true, false, not}
use mathlib.Core.List.{List, [], ◌∷◌}
use mathlib.Core.Logic.{⊎_elim}
use Prim.Native.Nat.{ℕ, ◌+◌, ◌*◌, ◌<◌, ◌≤◌}
use native.Mathlib.Omega.{arith}
use lib.ListN.{length, get_or, set}
use lib.Seq.{ext_get_or, get_or-set_same, get_or-set_other}
use borrow.Author.Tests.{eq-eqb, lt-ltb}
use Rattle.meaning.specs.Words.{rows, and}
use Rattle.laws.specs.Bools.{eq?}
use Rattle.laws.specs.Counting.{length_rows, get_rows}
use Rattle.words.specs.Columns.{column, column_set, column_long, off, Only, only_none, only_set, edge, edge_set, edge_long, Aside, aside_none, aside_edge}

-- the first i rows of column k have got theirs, and no other column is touched
pub record Given (f : ℕ → ℕ) (k n i : ℕ) (w₀ w : List ℕ) : Type 0 where
  pub few : i ≤ n
  pub cells : (u : ℕ) → u < i → get_or (column k w n) u 0 ≡ f u
  pub only : Only (k ∷ []) n w₀ w

module _ (f : ℕ → ℕ) (k n : ℕ) (w₀ : List ℕ) (b : k < 16) (r : 16 * n ≤ length w₀) where
  pub given_start : Given f k n 0 w₀ w₀
  given_start = record { few = omega arith; cells = λ u h. absurd (omega arith); only = only_none }

  itself : off k (k ∷ []) ≡ false
  itself = ap (λ t. and (not t) true) (eq-eqb k k refl)

  module _ (i : ℕ) (w : List ℕ) (g : Given f k n i w₀ w) where
    rooms : 16 * n ≤ length w
    rooms = omega (arith, r, g.only.long)

    pub given_on : i < n → Given f k n (i + 1) w₀ (set w (k * n + i) (f i))
    given_on h = record {
      few = omega arith;
      cells = λ u l. ap (λ (x : List ℕ). get_or x u 0) (column_set k n w i (f i) h) ∙ ⊎_elim (here u) (other u l) (eq? u i);
      only = only_set (k ∷ []) n w₀ w k i (f i) g.only h itself (lt-ltb k 16 b);
    }
      where
        here : (u : ℕ) → u ≡ i → get_or (set (column k w n) i (f i)) u 0 ≡ f u
        here u e = rw e (get_or-set_same (column k w n) i (f i) 0 (omega (arith, column_long k n w rooms (lt-ltb k 16 b))))

        other : (u : ℕ) → u < i + 1 → (u ≡ i → ⊥) → get_or (set (column k w n) i (f i)) u 0 ≡ f u
        other u l d = get_or-set_other (column k w n) i u (f i) 0 d ∙ g.cells u (omega arith)

    pub given_all : i ≡ n → column k w n ≡ rows f n
    given_all e = ext_get_or 0 _ _ (long ∙ sym (length_rows f n)) (λ u h. g.cells u (omega (arith, long)) ∙ sym (get_rows f 0 n u (omega (arith, long))))
      where
        long : length (column k w n) ≡ n
        long = column_long k n w rooms (lt-ltb k 16 b)

-- ---- an edges' column likewise

-- the first e rows of the edges' column k have got theirs, and no other column is touched
pub record GivenEdges (f : ℕ → ℕ) (k n m e : ℕ) (w₀ w : List ℕ) : Type 0 where
  pub few : e ≤ m
  pub cells : (u : ℕ) → u < e → get_or (edge k w n m) u 0 ≡ f u
  pub aside : Aside [] (k ∷ []) n m w₀ w

module _ (f : ℕ → ℕ) (k n m : ℕ) (w₀ : List ℕ) (b : k < 6) (r : 16 * n + 6 * m ≤ length w₀) where
  pub edges_start : GivenEdges f k n m 0 w₀ w₀
  edges_start = record { few = omega arith; cells = λ u h. absurd (omega arith); aside = aside_none }

  alone : off k (k ∷ []) ≡ false
  alone = ap (λ t. and (not t) true) (eq-eqb k k refl)

  module _ (e : ℕ) (w : List ℕ) (g : GivenEdges f k n m e w₀ w) where
    place : 16 * n + 6 * m ≤ length w
    place = omega (arith, r, g.aside.long)

    long : length (edge k w n m) ≡ m
    long = edge_long k n m w place (lt-ltb k 6 b)

    pub edges_on : e < m → GivenEdges f k n m (e + 1) w₀ (set w (16 * n + k * m + e) (f e))
    edges_on h = record {
      few = omega arith;
      cells = λ u i. ap (λ (x : List ℕ). get_or x u 0) (edge_set k n m w e (f e) h) ∙ ⊎_elim (here u) (other u i) (eq? u e);
      aside = aside_edge [] (k ∷ []) n m w₀ w k e (f e) g.aside h alone (lt-ltb k 6 b);
    }
      where
        here : (u : ℕ) → u ≡ e → get_or (set (edge k w n m) e (f e)) u 0 ≡ f u
        here u q = rw q (get_or-set_same (edge k w n m) e (f e) 0 (omega (arith, long)))

        other : (u : ℕ) → u < e + 1 → (u ≡ e → ⊥) → get_or (set (edge k w n m) e (f e)) u 0 ≡ f u
        other u i d = get_or-set_other (edge k w n m) e u (f e) 0 d ∙ g.cells u (omega arith)

    pub edges_all : e ≡ m → edge k w n m ≡ rows f m
    edges_all q = ext_get_or 0 _ _ (long ∙ sym (length_rows f m)) (λ u h. g.cells u (omega (arith, long)) ∙ sym (get_rows f 0 m u (omega (arith, long))))
