-- Noting the spans of a column, row by row.
use mathlib.Core.Path.{◌≡◌, ap, ◌∙◌}
use mathlib.Core.List.{List}
use mathlib.Core.Logic.{◌⊎◌, inl, inr}
use Prim.Native.Nat.{ℕ, ◌+◌, ◌<◌, ◌≤◌}
use native.Mathlib.Omega.{arith}
use lib.ListN.{length, set}
use lib.Seq.{get_or-set_same, get_or-set_other}
use borrow.Author.Tests.{eq-eqb, ne_eqb}
use Rattle.meaning.specs.Words.{at}
use Rattle.laws.specs.Bools.{eq?}
use Rattle.carrying.specs.Spans.{Spans, first_by}

module _ (first past e : ℕ) where
  pub first_new : past ≡ 0 → first_by first past e ≡ e
  unfolding first_by
  first_new z = rw (eq-eqb past 0 z, first_by)

  pub first_old : (past ≡ 0 → ⊥) → first_by first past e ≡ first
  unfolding first_by
  first_old n = rw (ne_eqb past 0 n, first_by)

-- the spans of the first e rows are noted
pub record Noted (column : List ℕ) (e : ℕ) (first past : List ℕ) : Type 0 where
  pub from : (j : ℕ) → j < e → at first (at column j) ≤ j
  pub to : (j : ℕ) → j < e → j < at past (at column j)
  pub inside : (v : ℕ) → at past v ≤ e
  pub begun : (v : ℕ) → 0 < at past v → at first v ≤ e

pub none_noted : {column first past : List ℕ} → ((v : ℕ) → at past v ≡ 0) → Noted column 0 first past
none_noted z = record { from = λ j l. absurd (omega arith); to = λ j l. absurd (omega arith); inside = λ v. omega (arith, z v); begun = λ v l. absurd (omega (arith, z v)) }

pub all_noted : {column first past : List ℕ} {e : ℕ} → length column ≤ e → e ≤ length column → Noted column e first past → Spans column first past
all_noted h l k = record { from = λ j m. k.from j (omega arith); to = λ j m. k.to j (omega arith); inside = λ v. omega (arith, k.inside v) }

module _ {column first past : List ℕ} {e : ℕ} (k : Noted column e first past) (f : ℕ) (q : f ≡ first_by (at first (at column e)) (at past (at column e)) e) (a : at column e < length first) (b : at column e < length past) where
  abbrev v : ℕ
  v = at column e

  -- what is noted of row e's number
  noted_first : (f ≡ e) ⊎ ((f ≡ at first v) × (0 < at past v))
  noted_first = go (eq? (at past v) 0)
    where
      go : (at past v ≡ 0) ⊎ (at past v ≡ 0 → ⊥) → (f ≡ e) ⊎ ((f ≡ at first v) × (0 < at past v))
      go (inl z) = inl (q ∙ first_new (at first v) (at past v) e z)
      go (inr n) = inr (q ∙ first_old (at first v) (at past v) e n, omega arith)

  -- a row before e that names the number has been noted
  not_after : (j : ℕ) → j < e → at column j ≡ v → f ≤ j
  not_after j l z = go (eq? (at past v) 0)
    where
      go : (at past v ≡ 0) ⊎ (at past v ≡ 0 → ⊥) → f ≤ j
      go (inl n) = absurd (omega (arith, k.to j l, ap (at past) z))
      go (inr n) = omega (arith, q ∙ first_old (at first v) (at past v) e n, k.from j l, ap (at first) z)

  up_to : f ≤ e
  up_to = go noted_first
    where
      go : (f ≡ e) ⊎ ((f ≡ at first v) × (0 < at past v)) → f ≤ e
      go (inl z) = omega arith
      go (inr z) = omega (arith, k.begun v z.1, z.0)

  -- one row more
  pub noted_more : Noted column (e + 1) (set first v f) (set past v (e + 1))
  noted_more = record {
    from = λ j l. from j l (eq? (at column j) v) (eq? j e);
    to = λ j l. to j l (eq? (at column j) v) (eq? j e);
    inside = λ w. inside w (eq? w v);
    begun = λ w l. begun w l (eq? w v);
  }
    where
      f_at : (w : ℕ) → w ≡ v → at (set first v f) w ≡ f
      f_at w z = ap (at (set first v f)) z ∙ get_or-set_same first v f 0 a

      p_at : (w : ℕ) → w ≡ v → at (set past v (e + 1)) w ≡ e + 1
      p_at w z = ap (at (set past v (e + 1))) z ∙ get_or-set_same past v (e + 1) 0 b

      from : (j : ℕ) → j < e + 1 → (at column j ≡ v) ⊎ (at column j ≡ v → ⊥) → (j ≡ e) ⊎ (j ≡ e → ⊥) → at (set first v f) (at column j) ≤ j
      from j l (inl z) (inl y) = omega (arith, f_at (at column j) z, up_to)
      from j l (inl z) (inr y) = omega (arith, f_at (at column j) z, not_after j (omega arith) z)
      from j l (inr n) (inl y) = absurd (n (ap (at column) y))
      from j l (inr n) (inr y) = omega (arith, get_or-set_other first v (at column j) f 0 n, k.from j (omega arith))

      to : (j : ℕ) → j < e + 1 → (at column j ≡ v) ⊎ (at column j ≡ v → ⊥) → (j ≡ e) ⊎ (j ≡ e → ⊥) → j < at (set past v (e + 1)) (at column j)
      to j l (inl z) y = omega (arith, p_at (at column j) z)
      to j l (inr n) (inl y) = absurd (n (ap (at column) y))
      to j l (inr n) (inr y) = omega (arith, get_or-set_other past v (at column j) (e + 1) 0 n, k.to j (omega arith))

      inside : (w : ℕ) → (w ≡ v) ⊎ (w ≡ v → ⊥) → at (set past v (e + 1)) w ≤ e + 1
      inside w (inl z) = omega (arith, p_at w z)
      inside w (inr n) = omega (arith, get_or-set_other past v w (e + 1) 0 n, k.inside w)

      begun : (w : ℕ) → 0 < at (set past v (e + 1)) w → (w ≡ v) ⊎ (w ≡ v → ⊥) → at (set first v f) w ≤ e + 1
      begun w l (inl z) = omega (arith, f_at w z, up_to)
      begun w l (inr n) =
          let p : 0 < at past w = omega (arith, get_or-set_other past v w (e + 1) 0 n) in
          omega (arith, get_or-set_other first v w f 0 n, k.begun w p)
