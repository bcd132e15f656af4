-- Rows lined up: some two rows below a bound are related exactly if two neighbours below it are.
use mathlib.Core.Path.{◌≡◌, sym, ap, ap₂, ◌∙◌}
use mathlib.Core.Bool.{Bool, true, false}
use mathlib.Core.List.{List}
use mathlib.Core.Logic.{⊎_elim}
use Prim.Native.Nat.{ℕ, ◌+◌, ◌<◌, ◌≤◌}
use native.Mathlib.Omega.{arith}
use lib.ListN.{length}
use Rattle.meaning.specs.Words.{at, any_below}
use Rattle.laws.specs.Bools.{clash, not_true}
use Rattle.laws.specs.Counting.{below_of, of_below}
use Rattle.order.specs.Lex.{trichotomy}
use Rattle.rules.specs.Lined.{Lined, Next, related}

pub lined_row : (R : ℕ → ℕ → Bool) (n : ℕ) (idx : List ℕ) → Lined R n idx → (p : ℕ) → p < length idx → at idx p < n
lined_row R n idx L p h = L.row p (omega (arith, L.long))

-- the walk has come to place p: no two rows below k up to there are related
pub record Passed (R : ℕ → ℕ → Bool) (n : ℕ) (idx : List ℕ) (k p : ℕ) : Type 0 where
  pub inside : p ≤ n
  pub low : p < n → at idx p < k
  pub clear : (a b : ℕ) → a < b → b ≤ p → b < n → at idx a < k → at idx b < k → R (at idx a) (at idx b) ≡ false

module _ (R : ℕ → ℕ → Bool) (even : (a b : ℕ) → R a b ≡ true → R b a ≡ true) (n : ℕ) (idx : List ℕ) (k : ℕ) (L : Lined R n idx) where
  -- two rows below k that are related
  two_related : (a b : ℕ) → a < k → b < k → (a ≡ b → ⊥) → R a b ≡ true → any_below (related R) k ≡ true
  two_related a b h l d e = ⊎_elim
      (λ (m : a < b). of_below (related R) k b l (of_below (λ j. R j b) b a m e))
      (λ s. ⊎_elim (λ (m : a ≡ b). absurd (d m)) (λ (m : b < a). of_below (related R) k a h (of_below (λ j. R j a) a b m (even a b e))) s)
      (trichotomy a b)

  module _ (small : k ≤ n) where
    -- places at which no two rows below k are related
    none_related : ((a b : ℕ) → a < b → b < n → at idx a < k → at idx b < k → R (at idx a) (at idx b) ≡ false) → any_below (related R) k ≡ false
    none_related f = not_true (any_below (related R) k) (λ h. row (below_of (related R) k h))
      where
        pair : (i j p q : ℕ) → j < i → i < k → p < n → q < n → at idx p ≡ j → at idx q ≡ i → R j i ≡ true → ⊥
        pair i j p q h l a b d e r = ⊎_elim
            (λ (m : p < q). clash (ap₂ R d e ∙ r) (f p q m b (omega arith) (omega arith)))
            (λ s. ⊎_elim (λ (m : p ≡ q). omega (arith, ap (at idx) m)) (λ (m : q < p). clash (ap₂ R e d ∙ even j i r) (f q p m a (omega arith) (omega arith))) s)
            (trichotomy p q)

        places : (i j : ℕ) → j < i → i < k → R j i ≡ true → (p : ℕ) × (p < n) × (at idx p ≡ j) → (p : ℕ) × (p < n) × (at idx p ≡ i) → ⊥
        places i j h l r u v = pair i j u.0 v.0 h l u.1 v.1 u.2 v.2 r

        earlier : (i : ℕ) → i < k → (j : ℕ) × (j < i) × (R j i ≡ true) → ⊥
        earlier i l s = places i s.0 s.1 l s.2 (L.place s.0 (omega (arith, s.1))) (L.place i (omega arith))

        row : (i : ℕ) × (i < k) × (related R i ≡ true) → ⊥
        row s = earlier s.0 s.1 (below_of (λ j. R j s.0) s.0 s.2)

    pub passed_end : (p : ℕ) → Passed R n idx k p → length idx ≤ p → false ≡ any_below (related R) k
    passed_end p w h = sym (none_related (λ a b l m. w.clear a b l (omega (arith, L.long)) m))

    pub passed_last : (p q : ℕ) → Passed R n idx k p → Next idx k (p + 1) q → length idx ≤ q → false ≡ any_below (related R) k
    passed_last p q w x h = sym (none_related go)
      where
        go : (a b : ℕ) → a < b → b < n → at idx a < k → at idx b < k → R (at idx a) (at idx b) ≡ false
        go a b l m c d = ⊎_elim
            (λ (s : b < p). w.clear a b l (omega arith) m c d)
            (λ s. ⊎_elim (λ (e : b ≡ p). w.clear a b l (omega arith) m c d) (λ (g : p < b). absurd (omega (arith, x.skipped b (omega arith) (omega (arith, L.long))))) s)
            (trichotomy b p)

  module _ (p q : ℕ) (w : Passed R n idx k p) (low : p < length idx) (x : Next idx k (p + 1) q) (far : q < length idx) where
    h : p < n
    h = omega (arith, L.long)

    g : q < n
    g = omega (arith, L.long)

    pub passed_hit : R (at idx p) (at idx q) ≡ true → true ≡ any_below (related R) k
    passed_hit e = sym (two_related (at idx p) (at idx q) (w.low h) (x.low far) (L.once p q (omega (arith, x.after)) g) e)

    pub passed_miss : R (at idx p) (at idx q) ≡ false → Passed R n idx k q
    passed_miss e = record { inside = omega (arith, L.long); low = λ l. x.low far; clear = clear }
      where
        -- the row of place q is related with none up to place p
        first : (a : ℕ) → a ≤ p → at idx a < k → R (at idx a) (at idx q) ≡ false
        first a l c = ⊎_elim
            (λ (m : a < p). not_true (R (at idx a) (at idx q)) (λ t. clash (L.between a p q m (omega (arith, x.after)) g t) (w.clear a p m (omega arith) h c (w.low h))))
            (λ s. ⊎_elim (λ (m : a ≡ p). ap (λ y. R (at idx y) (at idx q)) m ∙ e) (λ (m : p < a). absurd (omega arith)) s)
            (trichotomy a p)

        clear : (a b : ℕ) → a < b → b ≤ q → b < n → at idx a < k → at idx b < k → R (at idx a) (at idx b) ≡ false
        clear a b l m t c d = ⊎_elim
            (λ (s : b < q). old s)
            (λ s. ⊎_elim (λ (u : b ≡ q). ap (λ y. R (at idx a) (at idx y)) u ∙ first a (kept u) c) (λ (u : q < b). absurd (omega arith)) s)
            (trichotomy b q)
          where
            -- a place past p and before q has no row below k
            old : b < q → R (at idx a) (at idx b) ≡ false
            old s = ⊎_elim
                (λ (u : p < b). absurd (omega (arith, x.skipped b (omega arith) s)))
                (λ v. ⊎_elim (λ (u : p ≡ b). w.clear a b l (omega arith) t c d) (λ (u : b < p). w.clear a b l (omega arith) t c d) v)
                (trichotomy p b)

            kept : b ≡ q → a ≤ p
            kept u = ⊎_elim
                (λ (v : p < a). absurd (omega (arith, x.skipped a (omega arith) (omega arith))))
                (λ v. ⊎_elim (λ (z : p ≡ a). omega arith) (λ (z : a < p). omega arith) v)
                (trichotomy p a)
