-- A row by its new name.
use Rattle.std.specs.Prelude.{true, false, List, ℕ, ltb, length}
use Rattle.meaning.specs.Words.{at}

-- a row gets the name that the column has for it; what is no row of it stays
unfoldable pub renamed : List ℕ → ℕ → ℕ
renamed names v = elim (ltb v (length names)) [ true ↦ at names v | false ↦ v ]
