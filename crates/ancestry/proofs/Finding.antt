-- The first place of a row among its edges, and how far none holds.
use mathlib.Core.Path.{◌≡◌, refl, sym, ap, ◌∙◌}
use mathlib.Core.List.{List}
use Prim.Native.Nat.{ℕ, zero, suc, ◌-◌, ◌<◌, ◌≤◌}
use native.Mathlib.Omega.{arith}
use borrow.Author.Tests.{lt-ltb, le-ltb}
use Rattle.meaning.specs.Words.{at}
use Rattle.bridge.specs.Parents.{no_row}
use Rattle.ancestry.specs.Index.{begins}
use Rattle.ancestry.specs.declared.Stretch.{Stretch}
use Rattle.ancestry.specs.Lookup.{gap_end, none_until}

-- ---- the first place

pub begins_zero : (closed : List ℕ) (u : ℕ) → u ≡ 0 → 0 ≡ begins closed u
unfolding begins
begins_zero closed zero e = refl
begins_zero closed (suc u) e = absurd (omega arith)

pub begins_after : (closed : List ℕ) (u : ℕ) → (u ≡ 0 → ⊥) → at closed (u - 1) ≡ begins closed u
unfolding begins
begins_after closed zero n = absurd (n refl)
begins_after closed (suc u) n = let q : suc u - 1 ≡ u = omega arith in ap (at closed) q

-- ---- none

module _ (L : ℕ) (left by : List ℕ) (r high : ℕ) where
  pub gap_next : r < high → gap_end L left by r high ≡ at left (at by r)
  unfolding gap_end
  gap_next l = rw (lt-ltb r high l, gap_end)

  pub gap_over : high ≤ r → gap_end L left by r high ≡ L
  unfolding gap_end
  gap_over l = rw (le-ltb r high l, gap_end)

  none_to : {z : ℕ} → z ≡ gap_end L left by r high → ◌≡◌ {A = Stretch} (record { parent = no_row; end = z }) (none_until L left by r high)
  none_to e = λ i. record { parent = no_row; end = e i }

  pub none_next : {z : ℕ} → z ≡ at left (at by r) → r < high → ◌≡◌ {A = Stretch} (record { parent = no_row; end = z }) (none_until L left by r high)
  none_next e l = none_to (e ∙ sym (gap_next l))

  pub none_over : high ≤ r → ◌≡◌ {A = Stretch} (record { parent = no_row; end = L }) (none_until L left by r high)
  none_over l = none_to (sym (gap_over l))
