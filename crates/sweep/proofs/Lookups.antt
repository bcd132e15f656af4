-- How the kept tree and the lookup meet: where the sweep is, the tree's parent of a row is the one that the lookup gives, and the next
-- change is not past the end of any row's stretch. So a sweep steps from change to change with no row's parent passed over.
use mathlib.Core.Path.{◌≡◌, sym, ap, ◌∙◌}
use mathlib.Core.List.{List}
use mathlib.Core.Logic.{⊎_elim}
use Prim.Native.Nat.{ℕ, ◌+◌, ◌<◌, ◌≤◌}
use native.Mathlib.Omega.{arith}
use Rattle.meaning.specs.Words.{at}
use Rattle.meaning.specs.Rows.{EdgeColumns}
use Rattle.meaning.specs.Forest.{Par}
use Rattle.laws.specs.Counting.{get_rows}
use Rattle.bridge.specs.Parents.{code, parent_row}
use Rattle.ancestry.specs.Stretch.{until, stretch_at}
use Rattle.ancestry.specs.Holds.{until_other, until_after}
use Rattle.mend.proofs.Reading.{lt?}
use Rattle.tree.specs.Sweep.{Ahead, Plan}
use Rattle.tree.specs.TreeAt.{columns, TreeAt}
use Rattle.sweep.proofs.Still.{forest_same}

-- the parent that the tree keeps is the one that the lookup gives
pub parent_looked_up : {E : EdgeColumns} {Q S P C U : List ℕ} {n x : ℕ} → TreeAt E Q n x S P C U → (L u : ℕ) → u < n → at P u ≡ (stretch_at E L x u).parent
parent_looked_up {E} {n = n} {x} t L u l = ap (λ (P : List ℕ). at P u) t.parents ∙ get_rows (λ u. code (parent_row E x u)) 0 n u l

-- no stretch that the lookup gives at x ends before the next change
pub change_in_stretch : (x : ℕ) {T l r pa ch bl br : List ℕ} {n i j next : ℕ} → Plan T l r pa ch bl br n → Ahead l r bl br i j (x + 1) → Ahead l r bl br i j next → (L u : ℕ) → next ≤ L → next ≤ until (columns l r pa ch) L x u
change_in_stretch x {l = l} {r} {pa} {ch} {next = next} pl here there L u h = ⊎_elim
    (λ (e : until (columns l r pa ch) L x u < next).
    absurd (until_other (columns l r pa ch) x u L (omega arith)
    (ap (λ (P : Par). P u) (sym (forest_same x pl here there (until (columns l r pa ch) L x u) (omega (arith, until_after (columns l r pa ch) x u L (omega arith))) e)))))
    (λ (e : next ≤ until (columns l r pa ch) L x u). e)
    (lt? (until (columns l r pa ch) L x u) next)
