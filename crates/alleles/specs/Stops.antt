-- What a climb of bounded depth tells: the first marked row, or the row to go on from.
use Rattle.std.specs.Prelude.{◌≡◌, List, ℕ, ◌<◌, ◌≤◌, min, length}
use Rattle.meaning.specs.Rows.{EdgeColumns}
use Rattle.meaning.specs.Forest.{near}
use Rattle.bridge.specs.Parents.{parent_row}
use Rattle.ancestry.specs.Column.{older}
use Rattle.missing.specs.Marks.{marked}
use Rattle.ancestry.specs.Stretch.{near_until}
use Rattle.std.specs.declared.ops.ControlFlow.{ControlFlow}
use Rattle.std.specs.declared.ops.ControlFlow.TheVariants.{Break, Continue}
use Rattle.alleles.specs.declared.Carrier.{Carrier}
use Rattle.alleles.specs.Reading.{row_in}

module _ (time : List ℕ) (E : EdgeColumns) (L x : ℕ) (has : List ℕ) where
  -- r is the first marked row at or above u, where there is one, and the least of the ends met above u and of one met before
  pub record Reached (u least : ℕ) (r : Carrier) : Type 0 where
    pub found : (k : ℕ) → older time u < k → r.row ≡ row_in (near (parent_row E x) (marked has) k u)
    pub until : (k : ℕ) → older time u < k → r.end ≡ min least (near_until E L x (marked has) k u)

  -- from u it is enough to go on from p, which is older, with the end m
  pub record Onward (u least p m : ℕ) : Type 0 where
    pub row : p < length time
    pub fewer : older time p < older time u
    pub inside : m ≤ L
    pub reached : (r : Carrier) → Reached p m r → Reached u least r

  -- what a climb from u tells
  abbrev pub Led : ℕ → ℕ → ControlFlow Carrier (ℕ × ℕ) → Type 0
  Led u least (Break r) = Reached u least r
  Led u least (Continue (p, m)) = Onward u least p m
