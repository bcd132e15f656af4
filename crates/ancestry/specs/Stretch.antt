-- 02, M-104: "It shall also give the stretch's end: the largest position bound, at most L, up to which that answer stays true from the position asked."
use Rattle.std.specs.Prelude.{Bool, true, false, not, ℕ, zero, suc, min, eqb, leb}
use Rattle.std.proofs.Math.Option.{Option, none, some}
use Rattle.meaning.specs.Words.{and, lowest}
use Rattle.meaning.specs.Rows.{EdgeColumns}
use Rattle.bridge.specs.Parents.{code, parent_row}
use Rattle.ancestry.specs.declared.Stretch.{Stretch}

-- two answers are one: the same row, or none both times
unfoldable pub same : Option ℕ → Option ℕ → Bool
same none none = true
same none (some q) = false
same (some p) none = false
same (some p) (some q) = eqb p q

-- at y, which is x or later, row u has another parent than at x
unfoldable pub another : EdgeColumns → ℕ → ℕ → ℕ → Bool
unfolding parent_row same
another E x u y = and (leb x y) (not (same (parent_row E y u) (parent_row E x u)))

-- the first such position, or L where there is none below it
unfoldable pub until : EdgeColumns → ℕ → ℕ → ℕ → ℕ
unfolding another lowest
until E L x u = lowest (another E x u) L

-- the parent of row u at x, as a cell, and how far it holds
abbrev pub stretch_at : EdgeColumns → ℕ → ℕ → ℕ → Stretch
stretch_at E L x u = record { parent = code (parent_row E x u); end = until E L x u }

-- how far the way from row u up to the nearest row of K, at most k steps, holds: the least end on it
unfoldable pub near_until : EdgeColumns → ℕ → ℕ → (ℕ → Bool) → ℕ → ℕ → ℕ
unfolding parent_row until
near_until E L x K zero u = L
near_until E L x K (suc k) u = elim (K u) [
  | true ↦ L
  | false ↦ elim (parent_row E x u) [ none ↦ until E L x u | some p ↦ min (until E L x u) (near_until E L x K k p) ]
]
