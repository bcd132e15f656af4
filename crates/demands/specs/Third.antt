-- Of the third demand: what its proof asks of the batches.
use Rattle.std.specs.Prelude.{List, [], ◌∷◌}
use Rattle.accepted.specs.Records.{Young}
use Rattle.demands.specs.Histories.{Call, joins, cleans}

-- every batch's times are below 2 to the 32
abbrev pub YoungBatches : List Call → Type 0
YoungBatches [] = Prim.Unit
YoungBatches (joins B o p ∷ l) = Young B.nodes × YoungBatches l
YoungBatches (cleans S o ∷ l) = YoungBatches l
