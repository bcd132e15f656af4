-- What the stages of the first sweep ask, from what the check and the stages before leave.
use mathlib.Core.Path.{◌≡◌}
use mathlib.Core.List.{List}
use Prim.Native.Nat.{ℕ, ◌≤◌}
use native.Mathlib.Omega.{arith}
use lib.ListN.{length, take}
use Rattle.meaning.specs.Rows.{NodeColumns, EdgeColumns}
use Rattle.meaning.specs.Answer.{limits, put}
use Rattle.order.specs.Order.{Inside}
use Rattle.byrows.specs.Rows.{sample_rows}
use Rattle.byrows.specs.Ground.{samples_inside}
use Rattle.keeping.specs.Fronts.{samples_front, inside_of}
use Rattle.cleaner.specs.Tracing.{Passed}

module _ {L : ℕ} {N : NodeColumns} {E : EdgeColumns} {position site node S : List ℕ} (p : Passed L N E position site node S) where
  -- columns as long as the limits have room for every node and every edge
  pub nodes_within : (l : List ℕ) → length l ≡ limits.nodes → length N.time ≤ length l
  nodes_within l e = omega (arith, p.footing.sound.size.nodes, e)

  pub edges_within : (l : List ℕ) → length l ≡ limits.edges → length E.left ≤ length l
  edges_within l e = omega (arith, p.footing.sound.size.edges, e)

  -- the samples' rows in front are rows
  pub samples_rows : (kept kept' : List ℕ) → kept' ≡ put (sample_rows N.birth S) kept → Inside (length N.time) (take (length S) kept')
  samples_rows kept kept' e = rw (samples_front N.birth S kept kept' e) (rw p.footing.sound.shape.births at (inside_of (length N.birth) (sample_rows N.birth S) (samples_inside limits L _ S p.footing)))
