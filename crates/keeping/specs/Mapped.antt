-- The places of the rows kept are the node map.
use Rattle.std.specs.Prelude.{◌≡◌, List, ◌++◌, map, ℕ, length, take}
use Rattle.std.proofs.Common.{sym, ap₂, ◌∙◌}
use Rattle.meaning.specs.Rows.{Tables, Edge}
use Rattle.meaning.specs.Forest.{stands}
use Rattle.meaning.specs.Answer.{Limits}
use Rattle.meaning.specs.Clean.{row_in, node_map}
use Rattle.order.specs.Order.{Inside}
use Rattle.byrows.specs.Rows.{all_rows, sample_rows}
use Rattle.byrows.specs.Ground.{Ground, samples_inside}
use Rattle.byrows.specs.Kept.{Others, EdgeRows}
use Rattle.byrows.specs.Result.{map_by_rows}
use Rattle.keeping.specs.Fronts.{inside_of}

module _ (m : Limits) (L : ℕ) (T : Tables) (S : List ℕ) (g : Ground m L T S) where
  abbrev n : ℕ
  n = length T.nodes.birth

  abbrev SR : List ℕ
  SR = sample_rows T.nodes.birth S

  -- the samples' rows and the others are rows, as the places ask
  pub samples_are_rows : Inside n SR
  samples_are_rows = inside_of n SR (samples_inside m L T S g)

  pub others_are_rows : (OR : List ℕ) → Others m L T S g OR → Inside n OR
  others_are_rows OR o = inside_of n OR o.inside

  pub places_map : (OR : List ℕ) → Others m L T S g OR → (F : List Edge) → EdgeRows m L T S g F → (srow others cells : List ℕ) (k : ℕ) → take (length S) srow ≡ SR → take k others ≡ OR → cells ≡ map (row_in (take (length S) srow ++ take k others)) (all_rows n) → cells ≡ node_map stands L T S
  places_map OR o F r srow others cells k p q e = e ∙ ap₂ (λ a b. map (row_in (a ++ b)) (all_rows n)) p q ∙ sym (map_by_rows m L T S g OR o F r)
