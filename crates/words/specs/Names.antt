-- The columns by their names, as contracts use them; the numbers are those of `NodeColumn` and `EdgeColumn`.
use Rattle.std.specs.Prelude.{List, ℕ}
use Rattle.words.specs.Columns.{column, edge}

-- ---- columns of the n nodes

abbrev pub open_pars : List ℕ → ℕ → List ℕ
open_pars w n = column 0 w n

abbrev pub parents : List ℕ → ℕ → List ℕ
parents w n = column 1 w n

abbrev pub counts : List ℕ → ℕ → List ℕ
counts w n = column 2 w n

abbrev pub sums : List ℕ → ℕ → List ℕ
sums w n = column 3 w n

abbrev pub ups : List ℕ → ℕ → List ℕ
ups w n = column 4 w n

abbrev pub open_lefts : List ℕ → ℕ → List ℕ
open_lefts w n = column 5 w n

abbrev pub samples : List ℕ → ℕ → List ℕ
samples w n = column 6 w n

abbrev pub lows : List ℕ → ℕ → List ℕ
lows w n = column 8 w n

abbrev pub stood : List ℕ → ℕ → List ℕ
stood w n = column 11 w n

abbrev pub touched : List ℕ → ℕ → List ℕ
touched w n = column 12 w n

abbrev pub listed : List ℕ → ℕ → List ℕ
listed w n = column 13 w n

-- ---- columns of the m edges

abbrev pub by_left : List ℕ → ℕ → ℕ → List ℕ
by_left w n m = edge 0 w n m

abbrev pub by_right : List ℕ → ℕ → ℕ → List ℕ
by_right w n m = edge 1 w n m
