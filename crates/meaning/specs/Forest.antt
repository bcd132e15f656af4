-- The forest at one position: parent, ancestors, reached, stands, and the nearest standing node above and below.
use Rattle.std.specs.Prelude.{Bool, true, false, List, [], ◌∷◌, ℕ, zero, suc, eqb, leb, ltb}
use Rattle.std.proofs.Math.Option.{Option, none, some}
use Rattle.meaning.specs.Words.{and, or, mem, any, count, first_of}
use Rattle.meaning.specs.Rows.{Edge}

-- 01: "At each position every node has at most one parent." Any number may be a birth, so no number means none.
abbrev pub Par : Type 0
Par = ℕ → Option ℕ

-- above every time, so enough steps for any line: a time grows at each step up
abbrev pub Ages : ℕ
Ages = 4294967296

-- 01: "An edge holds for positions x with left <= x < right."
unfoldable pub holds : ℕ → ℕ → Edge → Bool
holds x b e = and (eqb e.child b) (and (leb e.left x) (ltb x e.right))

-- the parent of b at x
unfoldable pub parent_in : List Edge → ℕ → Par
unfolding holds
parent_in [] x b = none
parent_in (e ∷ l) x b = elim (holds x b e) [ true ↦ some e.parent | false ↦ parent_in l x b ]

-- "Its ancestors are the parent, the parent's parent at that position, and so on upwards": a is b or an ancestor of b, at most k steps up
unfoldable pub above : Par → ℕ → ℕ → ℕ → Bool
above P zero a b = eqb a b
above P (suc k) a b = elim (eqb a b) [ true ↦ true | false ↦ elim (P b) [ none ↦ false | some p ↦ above P k a p ] ]

-- a is a proper ancestor of b
unfoldable pub ancestor : Par → ℕ → ℕ → Bool
unfolding above
ancestor P a b = elim (P b) [ none ↦ false | some p ↦ above P Ages a p ]

-- "A node is reached at x if it is a sample or has a sample below it at x."
unfoldable pub reached : Par → List ℕ → ℕ → Bool
unfolding any above
reached P S u = any (above P Ages u) S

-- o is the number u
unfoldable pub is : Option ℕ → ℕ → Bool
is none u = false
is (some p) u = eqb p u

-- v is a child of u at x, and R holds of v
unfoldable pub feeds : Par → (ℕ → Bool) → ℕ → ℕ → Bool
unfolding is
feeds P R u v = and (is (P v) u) (R v)

-- a rule of what stands: of the nodes, the forest, the samples and a node
abbrev pub Rules : Type 0
Rules = List ℕ → Par → List ℕ → ℕ → Bool

-- "It stands at x if it is a sample, or if two or more of its children at x are reached." N are the nodes
unfoldable pub stands : Rules
unfolding reached mem count feeds
stands N P S u = or (mem u S) (leb 2 (count (feeds P (reached P S) u) N))

-- the nearest node of K at or above v, at most k steps up
unfoldable pub near : Par → (ℕ → Bool) → ℕ → ℕ → Option ℕ
near P K zero v = elim (K v) [ true ↦ some v | false ↦ none ]
near P K (suc k) v = elim (K v) [ true ↦ some v | false ↦ elim (P v) [ none ↦ none | some p ↦ near P K k p ] ]

-- "its nearest proper ancestor that stands at x", for K what stands
unfoldable pub up : Par → (ℕ → Bool) → ℕ → Option ℕ
unfolding near
up P K v = elim (P v) [ none ↦ none | some p ↦ near P K Ages p ]

-- "the nearest standing node at or below u, of which there is only one": by the only reached child where u does not stand
unfoldable pub low : List ℕ → Par → (ℕ → Bool) → (ℕ → Bool) → ℕ → ℕ → Option ℕ
unfolding first_of feeds
low N P R K zero u = elim (K u) [ true ↦ some u | false ↦ none ]
low N P R K (suc k) u = elim (K u) [ true ↦ some u | false ↦ elim (first_of (feeds P R u) N) [ none ↦ none | some c ↦ low N P R K k c ] ]

-- the forest that a cleaning leaves: "at x a standing node's parent is its nearest proper ancestor that stands at x"
unfoldable pub drawn : Par → (ℕ → Bool) → Par
unfolding up
drawn P K v = elim (K v) [ true ↦ up P K v | false ↦ none ]
