-- The ends of the rows' edges, filled in from row to row.
use mathlib.Core.Path.{◌≡◌, ap}
use mathlib.Core.List.{List}
use mathlib.Core.Logic.{⊎_elim}
use Prim.Native.Nat.{ℕ, ◌<◌, ◌≤◌}
use native.Mathlib.Omega.{arith}
use lib.ListN.{length}
use Rattle.meaning.specs.Words.{at}
use Rattle.meaning.specs.Rows.{EdgeColumns}
use Rattle.laws.specs.Bools.{eq?}
use Rattle.rules.specs.ByChild.{ByChild}
use Rattle.meaning.specs.Even.{EvenEdges}
use Rattle.ancestry.specs.Index.{Grouped, Passed, Ending}

-- the order by child has the children in order
pub grouped : (E : EdgeColumns) (by : List ℕ) → EvenEdges E → ByChild E by → Grouped E.child by
grouped E by v b = record { row = λ p l. omega (arith, b.row p l, v.child_long); rise = rise }
  where
    rise : (p q : ℕ) → p ≤ q → q < length by → at E.child (at by p) ≤ at E.child (at by q)
    rise p q h l = ⊎_elim
        (λ (e : p ≡ q). omega (arith, ap (λ i. at E.child (at by i)) e))
        (λ (e : p ≡ q → ⊥). ⊎_elim (λ (m : at E.child (at by p) < at E.child (at by q)). omega arith) (λ (m : (at E.child (at by p) ≡ at E.child (at by q)) × (at E.right (at by p) ≤ at E.left (at by q))). omega (arith, m.0)) (b.order p q (omega arith) l))
        (eq? p q)

pub ending_passed : (child by : List ℕ) (k i : ℕ) (closed : List ℕ) → Ending child by k i closed → Passed child by k i
ending_passed child by k i closed ok = record { inside = ok.inside; within = λ p l. omega (arith, ok.below p l) }
