-- The places of one row's edges among the edges by child, and what looking among them finds.
use Rattle.std.specs.Prelude.{◌≡◌, true, false, List, ℕ, suc, ◌<◌, ◌≤◌, ltb, length}
use Rattle.meaning.specs.Words.{at}
use Rattle.meaning.specs.Rows.{EdgeColumns}
use Rattle.bridge.specs.Parents.{no_row}
use Rattle.ancestry.specs.declared.Stretch.{Stretch}

-- the places from low up to high have row u's edges, all of them, and one ends before the next begins
pub record Places (E : EdgeColumns) (L : ℕ) (by : List ℕ) (u low high : ℕ) : Type 0 where
  pub inside : high ≤ length by
  pub order : low ≤ high
  pub row : (p : ℕ) → low ≤ p → p < high → at by p < length E.left
  pub own : (p : ℕ) → low ≤ p → p < high → at E.child (at by p) ≡ u
  pub held : (p : ℕ) → low ≤ p → p < high → at E.left (at by p) < at E.right (at by p)
  pub most : (p : ℕ) → low ≤ p → p < high → at E.right (at by p) ≤ L
  pub apart : (p q : ℕ) → low ≤ p → p < q → q < high → at E.right (at by p) ≤ at E.left (at by q)
  pub all : (e : ℕ) → e < length E.left → at E.child e ≡ u → (p : ℕ) × (low ≤ p) × (p < high) × (at by p ≡ e)

-- what is asked of them to find one by its left
pub record Lefts (left by : List ℕ) (low high : ℕ) : Type 0 where
  pub inside : high ≤ length by
  pub order : low ≤ high
  pub row : (p : ℕ) → low ≤ p → p < high → at by p < length left
  pub rise : (p q : ℕ) → low ≤ p → p ≤ q → q < high → at left (at by p) ≤ at left (at by q)

-- the search for the first place that begins after x has come down to those from low up to high
pub record Halved (left by : List ℕ) (from to x low high : ℕ) : Type 0 where
  pub start : from ≤ low
  pub order : low ≤ high
  pub inside : high ≤ to
  pub before : (p : ℕ) → from ≤ p → p < low → at left (at by p) ≤ x
  pub after : (p : ℕ) → high ≤ p → p < to → x < at left (at by p)

-- r is that place
abbrev pub After : List ℕ → List ℕ → ℕ → ℕ → ℕ → ℕ → Type 0
After left by from to x r = Halved left by from to x r r

-- how far none holds before place r
unfoldable pub gap_end : ℕ → List ℕ → List ℕ → ℕ → ℕ → ℕ
gap_end L left by r high = elim (ltb r high) [ true ↦ at left (at by r) | false ↦ L ]

-- none, and how far it does
abbrev pub none_until : ℕ → List ℕ → List ℕ → ℕ → ℕ → Stretch
none_until L left by r high = record { parent = no_row; end = gap_end L left by r high }

-- the edges from place p to j, j left out, touch and have one parent; the last ends at z
pub record Chained (left right parent by : List ℕ) (p j z : ℕ) : Type 0 where
  pub some : p < j
  pub last : (q : ℕ) → suc q ≡ j → at right (at by q) ≡ z
  pub same : (q : ℕ) → p ≤ q → q < j → at parent (at by q) ≡ at parent (at by p)
  pub touch : (q : ℕ) → p ≤ q → suc q < j → at right (at by q) ≡ at left (at by (suc q))

-- and the edge after them does not touch, or has another parent
pub record Carried (left right parent by : List ℕ) (p high z : ℕ) : Type 0 where
  pub place : ℕ
  pub most : place ≤ high
  pub chain : Chained left right parent by p place z
  pub stop : place < high → at left (at by place) ≡ z → at parent (at by place) ≡ at parent (at by p) → ⊥
