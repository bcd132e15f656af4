-- The lowest row that passes, by halving: whether some row below a bound passes tells on which side of the bound it lies.
use mathlib.Core.Path.{◌≡◌, sym, ap, ◌∙◌}
use mathlib.Core.Bool.{Bool, true, false}
use mathlib.Core.Logic.{⊎_elim}
use Prim.Native.Nat.{ℕ, ◌+◌, ◌<◌, ◌≤◌}
use native.Mathlib.Omega.{arith}
use Rattle.std.specs.Prelude.{Some, None}
use Rattle.meaning.specs.Words.{any_below, lowest, lowest_row}
use Rattle.laws.specs.Bools.{clash}
use Rattle.laws.specs.Counting.{below_of, of_below, row_some, row_none, lowest_le, before_lowest, lowest_passes}
use Rattle.order.specs.Lex.{trichotomy}

module _ (f : ℕ → Bool) (n : ℕ) where
  -- a row below k that passes is not below the lowest
  pub lowest_below : (k : ℕ) → any_below f k ≡ true → lowest f n < k
  lowest_below k h = go (below_of f k h)
    where
      go : (x : ℕ) × (x < k) × (f x ≡ true) → lowest f n < k
      go r = ⊎_elim (λ (l : lowest f n < k). l)
          (λ s. absurd (clash r.2 (before_lowest f n r.0 (⊎_elim (λ (e : lowest f n ≡ k). omega (arith, r.1)) (λ (l : k < lowest f n). omega (arith, r.1)) s))))
          (trichotomy (lowest f n) k)

  -- where no row below k passes, the lowest is not below k
  pub lowest_above : (k : ℕ) → k ≤ n → any_below f k ≡ false → k ≤ lowest f n
  lowest_above k h e = ⊎_elim
      (λ (l : lowest f n < k). absurd (clash (of_below f k (lowest f n) l (lowest_passes f n (omega arith))) e))
      (λ s. ⊎_elim (λ (q : lowest f n ≡ k). omega arith) (λ (l : k < lowest f n). omega arith) s)
      (trichotomy (lowest f n) k)

  module _ (k : ℕ) (long : k ≡ n) where
    -- where none of k rows passes, there is none
    pub none_lined : any_below f k ≡ false → None ≡ lowest_row f n
    none_lined e = let l : n ≤ lowest f n = omega (arith, lowest_above k (omega arith) e) in sym (row_none l)

    -- the halving begins with all rows
    pub all_lined : (0 ≤ lowest f n) × (lowest f n ≤ k) × (k ≤ n)
    all_lined = (omega arith, omega (arith, lowest_le f n), omega arith)

    -- and ends with the lowest, where some row passes
    pub found_lined : any_below f k ≡ true → (low high : ℕ) → low ≤ lowest f n → lowest f n ≤ high → high ≤ low → Some low ≡ lowest_row f n
    found_lined e low high a b h =
        let q : low ≡ lowest f n = omega arith in
        let l : lowest f n < n = omega (arith, lowest_below k e) in
        ap (λ (x : ℕ). Some x) q ∙ sym (row_some l)

  -- one step of the halving: the lowest row lies up to m, or after it
  pub halved_down : (m : ℕ) → any_below f (m + 1) ≡ true → lowest f n ≤ m
  halved_down m e = omega (arith, lowest_below (m + 1) e)

  pub halved_up : (m high : ℕ) → m < high → high ≤ n → any_below f (m + 1) ≡ false → m + 1 ≤ lowest f n
  halved_up m high h k e = lowest_above (m + 1) (omega arith) e
