-- The count of older rows falls on the way up: the measure of every function that climbs by calling itself.
use Rattle.std.specs.Prelude.{◌≡◌, Bool, ℕ, suc, ◌<◌, ◌≤◌, ltb, length}
use Rattle.std.proofs.Math.Path.{refl}
use Rattle.std.proofs.Math.Bool.{true, false}
use mathlib.Core.List.{List, [], ◌∷◌}
use Rattle.std.proofs.Common.{⊎_elim, lt-ltb, le-ltb, ltb-true}
use native.Mathlib.Omega.{arith}
use Rattle.meaning.specs.Words.{at, mem, count, rows}
use Rattle.laws.specs.Bools.{clash}
use Rattle.laws.specs.Counting.{length_rows, get_rows}
use Rattle.laws.specs.Members.{mem_nil, mem_cases, at_mem}
use Rattle.ancestry.specs.Column.{older}

module _ (f : ℕ → Bool) where
  count_yes : (b : ℕ) (l : List ℕ) → f b ≡ true → count f (b ∷ l) ≡ suc (count f l)
  unfolding count
  count_yes b l e = rw (e, count)

  count_no : (b : ℕ) (l : List ℕ) → f b ≡ false → count f (b ∷ l) ≡ count f l
  unfolding count
  count_no b l e = rw (e, count)

module _ (f g : ℕ → Bool) (sub : (k : ℕ) → f k ≡ true → g k ≡ true) where
  -- a test that passes less often counts at most as many
  count_le : (l : List ℕ) → count f l ≤ count g l
  unfolding count
  count_le [] = omega arith
  count_le (b ∷ l) = go (f b) refl (g b) refl (count_le l)
    where
      go : (s : Bool) → f b ≡ s → (t : Bool) → g b ≡ t → count f l ≤ count g l → count f (b ∷ l) ≤ count g (b ∷ l)
      go true p true q ih = omega (arith, count_yes f b l p, count_yes g b l q)
      go true p false q ih = absurd (clash (sub b p) q)
      go false p true q ih = omega (arith, count_no f b l p, count_yes g b l q)
      go false p false q ih = omega (arith, count_no f b l p, count_no g b l q)

  -- and fewer, where it fails at a member at which the other passes
  count_lt : (a : ℕ) (l : List ℕ) → mem a l ≡ true → f a ≡ false → g a ≡ true → count f l < count g l
  count_lt a [] h p q = absurd (mem_nil a h)
  count_lt a (b ∷ l) h p q = ⊎_elim (λ (e : a ≡ b). first (rw e at p) (rw e at q)) (λ (m : mem a l ≡ true). later (f b) refl (g b) refl (count_lt a l m p q)) (mem_cases a b l h)
    where
      first : f b ≡ false → g b ≡ true → count f (b ∷ l) < count g (b ∷ l)
      first p q = omega (arith, count_no f b l p, count_yes g b l q, count_le l)

      later : (s : Bool) → f b ≡ s → (t : Bool) → g b ≡ t → count f l < count g l → count f (b ∷ l) < count g (b ∷ l)
      later true p true q ih = omega (arith, count_yes f b l p, count_yes g b l q)
      later true p false q ih = absurd (clash (sub b p) q)
      later false p true q ih = omega (arith, count_no f b l p, count_yes g b l q)
      later false p false q ih = omega (arith, count_no f b l p, count_no g b l q)

-- every row is among the rows
row_in-is : (n p : ℕ) → p < n → mem p (rows (λ v. v) n) ≡ true
row_in-is n p h = rw (get_rows (λ v. v) 0 n p h) at (at_mem (rows (λ v. v) n) p (omega (arith, length_rows (λ v. v) n)))

-- an older row has fewer older rows
pub older_falls : (time : List ℕ) (u p : ℕ) → p < length time → at time u < at time p → older time p < older time u
unfolding older
older_falls time u p h lt =
    count_lt (λ v. ltb (at time p) (at time v)) (λ v. ltb (at time u) (at time v))
    (λ k e. lt-ltb (at time u) (at time k) (omega (arith, ltb-true (at time p) (at time k) e)))
    p (rows (λ v. v) (length time)) (row_in-is (length time) p h)
    (le-ltb (at time p) (at time p) (omega arith)) (lt-ltb (at time u) (at time p) lt)
