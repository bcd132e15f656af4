-- Three segments and the columns that are made of them.
use mathlib.Core.Path.{◌≡◌}
use mathlib.Core.List.{List, [], ◌∷◌}
use Prim.Native.Nat.{ℕ}
use native.Mathlib.Omega.{arith}
use lib.ListN.{length, get_or}
use Rattle.runs.specs.declared.Segment.{Segment}
use Rattle.segments.specs.Columns.{segments_of, columns_make, zeros}

-- a column of three
abbrev pub column : (Segment → ℕ) → List Segment → List ℕ
column f l = f (get_or l 0 zeros) ∷ f (get_or l 1 zeros) ∷ f (get_or l 2 zeros) ∷ []

pub three_make : (l : List Segment) → length l ≡ 3 → segments_of (column (λ s. s.left) l) (column (λ s. s.right) l) (column (λ s. s.row) l) ≡ l
three_make [] e = absurd (omega arith)
three_make (a ∷ []) e = absurd (omega arith)
three_make (a ∷ b ∷ []) e = absurd (omega arith)
three_make (a ∷ b ∷ c ∷ []) e = columns_make (a ∷ b ∷ c ∷ [])
three_make (a ∷ b ∷ c ∷ d ∷ l) e = absurd (omega arith)
