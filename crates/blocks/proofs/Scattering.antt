-- One cell after another of a column written to a block, and whether a block takes all.
use mathlib.Core.Path.{◌≡◌, refl, sym, ap, subst, ◌∙◌}
use mathlib.Core.Bool.{Bool, true, false}
use mathlib.Core.List.{List}
use mathlib.Core.Logic.{◌⊎◌, inl, inr}
use Prim.Native.Nat.{ℕ, zero, suc, ◌+◌, ◌*◌, ◌/◌, ◌<◌, ◌≤◌}
use native.Mathlib.Nat.{suc-mul, mul-le-mul_right, div-mul-le_self, div-lt_iff_lt-mul, le_trans}
use native.Mathlib.Omega.{arith}
use lib.Dec.{leb}
use lib.ListN.{length, set, length-set}
use lib.Seq.{get_or-set_same, get_or-set_other}
use borrow.Author.Tests.{le-leb, lt-leb, leb-true, leb-false}
use Rattle.meaning.specs.Words.{at}
use Rattle.order.specs.Lex.{trichotomy}
use Rattle.blocks.specs.Block.{Scattered, row_below}

-- ---- the room

-- a product is at most a number exactly if a factor is at most the quotient
pub fits_by_division : (a s r : ℕ) → 0 < s → leb a (r / s) ≡ leb (a * s) r
fits_by_division a s r p = go (leb a (r / s)) refl
  where
    go : (t : Bool) → leb a (r / s) ≡ t → leb a (r / s) ≡ leb (a * s) r
    go true e = e ∙ sym (le-leb (a * s) r (le_trans (mul-le-mul_right s (leb-true a (r / s) e)) (div-mul-le_self r s)))
    go false e = e ∙ sym (lt-leb (a * s) r ((div-lt_iff_lt-mul p).0 (leb-false a (r / s) e)))

-- a number of rows is at most the number of their cells
pub rows_few : (n s : ℕ) → 0 < s → n ≤ n * s
rows_few zero s p = omega arith
rows_few (suc n) s p = omega (arith, suc-mul n s, rows_few n s p)

-- ---- the cells

module _ (s base j : ℕ) (column old : List ℕ) where
  pub none_scattered : Scattered s base 0 j column old old
  none_scattered = record { long = refl; here = λ a l. absurd (omega arith); else = λ p h. refl }

  pub one_more : (a : ℕ) (mid : List ℕ) → j < s → (base + a) * s + j < length mid → Scattered s base a j column old mid → Scattered s base (a + 1) j column old (set mid ((base + a) * s + j) (at column a))
  one_more a mid h room w = record {
    long = length-set mid ((base + a) * s + j) (at column a) ∙ w.long;
    here = λ b l. go b l (trichotomy b a);
    else = λ p n. get_or-set_other mid ((base + a) * s + j) p (at column a) 0 (λ z. n a (omega arith) z) ∙ w.else p (λ b l e. n b (omega arith) e);
  }
    where
      go : (b : ℕ) → b < a + 1 → (b < a) ⊎ ((b ≡ a) ⊎ (a < b)) → at (set mid ((base + a) * s + j) (at column a)) ((base + b) * s + j) ≡ at column b
      go b l (inl q) =
          get_or-set_other mid ((base + a) * s + j) ((base + b) * s + j) (at column a) 0 (λ z. omega (arith, row_below s (base + b) (base + a) (omega arith)))
          ∙ w.here b q
      go b l (inr (inl q)) = ap (λ c. at (set mid ((base + a) * s + j) (at column a)) ((base + c) * s + j)) q ∙ get_or-set_same mid ((base + a) * s + j) (at column a) 0 room ∙ ap (at column) (sym q)
      go b l (inr (inr q)) = absurd (omega arith)

  pub all_scattered : (a k : ℕ) (new : List ℕ) → a ≤ k → k ≤ a → Scattered s base a j column old new → Scattered s base k j column old new
  all_scattered a k new h l w = let q : a ≡ k = omega arith in subst (λ (k : ℕ). Scattered s base k j column old new) q w

-- where the cell stands, and that every number on the way to it is small
module _ (s base k j a n : ℕ) (h : j < s) (room : (base + k) * s ≤ n) (l : a < k) where
  pub cell_inside : (base + a) * s + j < n
  cell_inside = omega (arith, row_below s (base + a) (base + k) (omega arith))

  pub row_inside : base + a ≤ n
  row_inside = omega (arith, cell_inside, rows_few (base + a) s (omega arith))
