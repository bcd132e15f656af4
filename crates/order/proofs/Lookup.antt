-- A number looked up: among ranked rows by halving, and by a search through all rows.
use mathlib.Core.Path.{◌≡◌, sym, ap}
use mathlib.Core.Bool.{true}
use mathlib.Core.List.{List}
use mathlib.Core.Logic.{⊎_elim}
use Prim.Native.Nat.{ℕ, ◌+◌, ◌<◌, ◌≤◌}
use native.Mathlib.Omega.{arith}
use lib.ListN.{length}
use Rattle.std.specs.Option.{MatchOption}
use Rattle.std.specs.List.{AllWithin, HoldsAt}
use Rattle.std.proofs.Common.{Option, Some, None}
use Rattle.meaning.specs.Words.{at, mem, index_of, place_in}
use Rattle.laws.specs.Bools.{eq?, not_true}
use Rattle.laws.specs.Members.{at_mem, index_at, index_below}
use Rattle.order.specs.Lex.{trichotomy}
use Rattle.order.specs.Dealing.{step_below}
use Rattle.order.specs.Ranks.{Ranked, Placed, index_first, index_none, place_some, place_none}

-- before low stand smaller numbers, from high on none that is smaller
pub record Ringed (l idx : List ℕ) (b low high : ℕ) : Type 0 where
  pub apart : low ≤ high
  pub inside : high ≤ length l
  pub under : (p : ℕ) → p < low → at l (at idx p) < b
  pub over : (p : ℕ) → high ≤ p → p < length l → b ≤ at l (at idx p)

module _ (l idx : List ℕ) (b : ℕ) (r : Ranked l idx) where
  pub ringed_start : Ringed l idx b 0 (length idx)
  ringed_start = record {
    apart = omega arith;
    inside = omega (arith, r.long);
    under = λ p h. absurd (omega arith);
    over = λ p h k. absurd (omega (arith, r.long));
  }

  module _ (low high : ℕ) (w : Ringed l idx b low high) where
    module _ (m v : ℕ) (a : low ≤ m) (h : m < high) (q : v ≡ at idx m) where
      pub ringed_up : at l v < b → Ringed l idx b (m + 1) high
      ringed_up e = record { apart = omega arith; inside = w.inside; under = under; over = w.over }
        where
          under : (p : ℕ) → p < m + 1 → at l (at idx p) < b
          under p g = ⊎_elim
              (λ (x : p < m). omega (arith, ap (at l) q, r.rising p m x (omega (arith, w.inside))))
              (λ s. ⊎_elim (λ (x : p ≡ m). omega (arith, ap (at l) q, ap (λ y. at l (at idx y)) x)) (λ (x : m < p). absurd (omega arith)) s)
              (trichotomy p m)

      pub ringed_down : b ≤ at l v → Ringed l idx b low m
      ringed_down e = record { apart = a; inside = omega (arith, w.inside); under = w.under; over = over }
        where
          over : (p : ℕ) → m ≤ p → p < length l → b ≤ at l (at idx p)
          over p g k = ⊎_elim
              (λ (x : m < p). omega (arith, ap (at l) q, r.rising m p x k))
              (λ s. ⊎_elim (λ (x : m ≡ p). omega (arith, ap (at l) q, ap (λ y. at l (at idx y)) x)) (λ (x : p < m). absurd (omega arith)) s)
              (trichotomy m p)

    pub ringed_end : high ≤ low → Placed l idx b low
    ringed_end h = record { inside = omega (arith, w.apart, w.inside); under = w.under; over = λ p g k. w.over p (omega arith) k }

-- ---- a search through all rows: none of the rows before its answer has the number

module _ (l : List ℕ) (b : ℕ) where
  found_hit : (i : ℕ) → i < length l → at l i ≡ b → ((j : ℕ) → j < i → at l j ≡ b → ⊥) → i ≡ index_of b l
  found_hit i h e w =
      let there : mem b l ≡ true = rw e at (at_mem l i h) in
      ⊎_elim (λ (q : i ≡ index_of b l). q)
      (λ (n : i ≡ index_of b l → ⊥). absurd (w (index_of b l) (step_below (index_of b l) i (omega (arith, index_first b l i h e)) (λ q. n (sym q))) (index_at b l there)))
      (eq? i (index_of b l))

  found_none : ((j : ℕ) → j < length l → at l j ≡ b → ⊥) → length l ≡ index_of b l
  found_none w = sym (index_none b l (not_true (mem b l) (λ e. w (index_of b l) (omega (arith, index_below b l e)) (index_at b l e))))

  -- what `position` answers is the place
  pub found_place : (r : Option ℕ) → MatchOption r (AllWithin (λ x. x ≡ b → ⊥) l 0 (length l)) (λ i. (i < length l) × HoldsAt (λ x. x ≡ b) l i × AllWithin (λ x. x ≡ b → ⊥) l 0 i) → r ≡ place_in b l
  found_place None w = place_none b l (found_none (λ j h. w j 0 (omega arith) h))
  found_place (Some i) w = place_some b l i w.0 (found_hit i w.0 (w.1 0) (λ j h. w.2 j 0 (omega arith) h))
