-- The state that a row carries, one step up: what its parent carries, however many steps are counted, if they are enough.
use mathlib.Core.Path.{◌≡◌, refl, sym, ap, ◌∙◌}
use mathlib.Core.Bool.{Bool, true, false}
use mathlib.Core.List.{List}
use mathlib.Core.Option.{Option, none, some}
use Prim.Native.Nat.{ℕ, zero, suc, ◌<◌, ◌≤◌}
use native.Mathlib.Omega.{arith}
use lib.ListN.{length}
use Rattle.meaning.specs.Words.{at}
use Rattle.meaning.specs.Rows.{EdgeColumns}
use Rattle.meaning.specs.Forest.{Ages, near}
use Rattle.bridge.specs.Parents.{no_row, parent_row}
use Rattle.bridge.specs.Rename.{near_here, near_top, near_step}
use Rattle.ancestry.specs.Column.{older, Rising}
use Rattle.ancestry.specs.Older.{older_falls}
use Rattle.ancestry.specs.Rises.{parent_rises}
use Rattle.missing.specs.Marks.{marked}
use Rattle.alleles.specs.Reading.{carried_by}
use Rattle.alleles.specs.ByRows.{carried_none, carried_some}
use Rattle.alleles.proofs.Climbing.{older_few}

module _ (time : List ℕ) (E : EdgeColumns) (up : Rising time E) (x : ℕ) (K : ℕ → Bool) where
  falls : (u p : ℕ) → parent_row E x u ≡ some p → older time p < older time u
  falls u p e = let r : _ = parent_rises time E up x u p e in older_falls time u p r.1 r.2

  -- steps that are enough find what one step more finds
  enough : (k u : ℕ) → older time u ≤ k → near (parent_row E x) K k u ≡ near (parent_row E x) K (suc k) u
  enough zero u h = go (K u) refl (parent_row E x u) refl
    where
      go : (t : Bool) → K u ≡ t → (o : Option ℕ) → parent_row E x u ≡ o → near (parent_row E x) K zero u ≡ near (parent_row E x) K (suc zero) u
      go true e o f = near_here (parent_row E x) K zero u e ∙ sym (near_here (parent_row E x) K (suc zero) u e)
      go false e none f = near_top (parent_row E x) K zero u e f ∙ sym (near_top (parent_row E x) K (suc zero) u e f)
      go false e (some p) f = absurd (omega (arith, falls u p f))
  enough (suc k) u h = go (K u) refl (parent_row E x u) refl (λ p l. enough k p l)
    where
      go : (t : Bool) → K u ≡ t → (o : Option ℕ) → parent_row E x u ≡ o → ((p : ℕ) → older time p ≤ k → near (parent_row E x) K k p ≡ near (parent_row E x) K (suc k) p) → near (parent_row E x) K (suc k) u ≡ near (parent_row E x) K (suc (suc k)) u
      go true e o f ih = near_here (parent_row E x) K (suc k) u e ∙ sym (near_here (parent_row E x) K (suc (suc k)) u e)
      go false e none f ih = near_top (parent_row E x) K (suc k) u e f ∙ sym (near_top (parent_row E x) K (suc (suc k)) u e f)
      go false e (some p) f ih = near_step (parent_row E x) K k u p e f ∙ ih p (omega (arith, falls u p f)) ∙ sym (near_step (parent_row E x) K (suc k) u p e f)

  near_parent : (k u p : ℕ) → older time u < k → K u ≡ false → parent_row E x u ≡ some p → near (parent_row E x) K k u ≡ near (parent_row E x) K k p
  near_parent zero u p h e f = absurd (omega arith)
  near_parent (suc k) u p h e f = near_step (parent_row E x) K k u p e f ∙ enough k p (omega (arith, falls u p f))

module _ (E : EdgeColumns) (x : ℕ) (has state : List ℕ) (other u : ℕ) where
  -- a marked row carries its own state
  pub carried_here : marked has u ≡ true → carried_by E x has state other u ≡ at state u
  carried_here e = carried_some E x has state other u u (near_here (parent_row E x) (marked has) Ages u e)

  -- one with no parent the other
  pub carried_top : marked has u ≡ false → parent_row E x u ≡ none → carried_by E x has state other u ≡ other
  carried_top e f = carried_none E x has state other u (near_top (parent_row E x) (marked has) Ages u e f)

  -- and any other what its parent carries
  pub carried_step : (time : List ℕ) → Rising time E → length time ≤ no_row → (p : ℕ) → marked has u ≡ false → parent_row E x u ≡ some p → carried_by E x has state other u ≡ carried_by E x has state other p
  unfolding carried_by
  carried_step time up few p e f = ap (λ (o : Option ℕ). elim o [ none ↦ other | some w ↦ at state w ]) (near_parent time E up x (marked has) Ages u p (omega (arith, older_few time u)) e f)
