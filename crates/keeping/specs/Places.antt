-- The places of the rows kept, given to one part of them after the other.
use Rattle.std.specs.Prelude.{true, false, List, ℕ, ◌+◌}
use Rattle.meaning.specs.Words.{at, mem, index_of}

-- the cell of row u when the rows l have got their places, counted from first, in a column that was old
unfoldable pub placed : List ℕ → ℕ → List ℕ → ℕ → ℕ
unfolding mem index_of
placed l first old u = let r : ℕ = first + index_of u l in elim (mem u l) [ true ↦ r | false ↦ at old u ]
