-- The bound of a mutation row: the oldest time met while the rows after it are gone over.
use mathlib.Core.Path.{◌≡◌, refl, ap}
use mathlib.Core.List.{List}
use mathlib.Core.Logic.{⊎_elim}
use Prim.Native.Nat.{ℕ, max, ◌+◌, ◌<◌, ◌≤◌}
use native.Mathlib.Omega.{arith}
use lib.Dec.{ltb}
use lib.ListN.{length}
use borrow.Author.Tests.{ltb-true, ltb-false}
use mathlib.Core.Bool.{Bool, true, false}
use Rattle.meaning.specs.Words.{at}
use Rattle.laws.specs.Bools.{eq?}
use Rattle.overtaking.specs.Bounds.{Bounded}
use Rattle.overtaking.specs.Overtaken.{Lined}
use Rattle.overtaking.proofs.Overtaking.{not_falling}

-- no node of the rows after i and before k is older than top
pub record Met (time node : List ℕ) (i k top : ℕ) : Type 0 where
  pub rows : (j : ℕ) → i < j → j < k → at time (at node j) ≤ top

module _ {time node : List ℕ} {i k top : ℕ} where
  pub met_next : (next : ℕ) → next ≡ max top (at time (at node k)) → Met time node i k top → Met time node i (k + 1) next
  met_next next w m = record { rows = λ j h l. ⊎_elim (λ (z : j ≡ k). omega (arith, ap (λ j. at time (at node j)) z)) (λ (z : j ≡ k → ⊥). omega (arith, m.rows j h (omega arith))) (eq? j k) }

  -- at a row of another site all rows of the site are met
  pub bounded_met : {site : List ℕ} {sites nodes : ℕ} → Lined sites nodes site node → i < k → k < length site → (at site k ≡ at site i → ⊥) → Met time node i k top → Bounded time site node i top
  bounded_met {site} {sites} {nodes} ok h l n m = record { later = λ j f. go j (omega (arith, f.after)) f.row f.own (ltb j k) refl }
    where
      go : (j : ℕ) → i < j → j < length site → at site j ≡ at site i → (t : Bool) → ltb j k ≡ t → at time (at node j) ≤ top
      go j a r e true q = m.rows j a (ltb-true j k q)
      go j a r e false q = absurd (n (omega (arith, e, not_falling site sites nodes node ok i k (omega arith) l, not_falling site sites nodes node ok k j (ltb-false j k q) r)))
