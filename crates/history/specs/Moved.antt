-- Mutations moved once or twice, and by site.
use Rattle.std.specs.Prelude.{◌≡◌, Bool}
use Rattle.std.proofs.Math.Path.{refl, ap₂}
use Rattle.std.proofs.Common.{ap, ◌∙◌}
use Rattle.std.proofs.Math.Bool.{true, false}
use mathlib.Core.List.{List, [], ◌∷◌, ◌++◌}
use Rattle.std.proofs.Math.Option.{Option, none, some}
use Prim.Native.Nat.{ℕ, zero, suc}
use Rattle.std.proofs.Math.Dec.{eqb}
use Rattle.meaning.specs.Words.{filter}
use Rattle.meaning.specs.Rows.{Mutation}
use Rattle.meaning.specs.Clean.{moved}
use Rattle.meaning.specs.Join.{of_site, by_site}
use Rattle.laws.specs.Facts.{All, done, also}
use Rattle.history.specs.Lists.{all_app, all_filter}

module _ (pos : ℕ → ℕ) where
  module _ (G : ℕ → ℕ → Option ℕ) where
    pub moved_app : (a b : List Mutation) → moved pos G (a ++ b) ≡ moved pos G a ++ moved pos G b
    unfolding moved
    moved_app [] b = refl
    moved_app (m ∷ a) b = go (G (pos m.site) m.node) refl (moved_app a b)
      where
        go : (o : Option ℕ) → G (pos m.site) m.node ≡ o → moved pos G (a ++ b) ≡ moved pos G a ++ moved pos G b → moved pos G (m ∷ (a ++ b)) ≡ moved pos G (m ∷ a) ++ moved pos G b
        go none e ih = rw (e, moved) ih
        go (some w) e ih = rw (e, moved) (ap (λ (l : List Mutation). record { site = m.site; node = w; derived = m.derived } ∷ l) ih)

    pub moved_site : (i : ℕ) (l : List Mutation) → moved pos G (of_site i l) ≡ of_site i (moved pos G l)
    unfolding moved of_site filter
    moved_site i [] = refl
    moved_site i (m ∷ l) = go (eqb m.site i) refl (G (pos m.site) m.node) refl (moved_site i l)
      where
        go : (t : Bool) → eqb m.site i ≡ t → (o : Option ℕ) → G (pos m.site) m.node ≡ o → moved pos G (of_site i l) ≡ of_site i (moved pos G l) →
            moved pos G (of_site i (m ∷ l)) ≡ of_site i (moved pos G (m ∷ l))
        go true e none f ih = rw (e, filter) (rw (f, moved) ih)
        go true e (some w) f ih = rw (e, filter) (rw (f, moved) (rw (e, filter) (ap (λ (l : List Mutation). record { site = m.site; node = w; derived = m.derived } ∷ l) ih)))
        go false e none f ih = rw (e, filter) (rw (f, moved) ih)
        go false e (some w) f ih = rw (e, filter) (rw (f, moved) (rw (e, filter) ih))

    pub moved_by : (a b : List Mutation) (i k : ℕ) → moved pos G (by_site a b i k) ≡ by_site (moved pos G a) (moved pos G b) i k
    unfolding by_site moved
    moved_by a b i zero = refl
    moved_by a b i (suc k) = moved_app (of_site i a) (of_site i b ++ by_site a b (suc i) k) ∙ ap₂ ◌++◌ (moved_site i a)
        (moved_app (of_site i b) (by_site a b (suc i) k) ∙ ap₂ ◌++◌ (moved_site i b) (moved_by a b (suc i) k))

  pub moved_same : (G H : ℕ → ℕ → Option ℕ) (l : List Mutation) → All (λ m. G (pos m.site) m.node ≡ H (pos m.site) m.node) l → moved pos G l ≡ moved pos H l
  unfolding moved
  moved_same G H [] done = refl
  moved_same G H (m ∷ l) (also e a) = go (H (pos m.site) m.node) refl (moved_same G H l a)
    where
      go : (o : Option ℕ) → H (pos m.site) m.node ≡ o → moved pos G l ≡ moved pos H l → moved pos G (m ∷ l) ≡ moved pos H (m ∷ l)
      go none f ih = rw (e ∙ f, moved) (rw (f, moved) ih)
      go (some w) f ih = rw (e ∙ f, moved) (rw (f, moved) (ap (λ (r : List Mutation). record { site = m.site; node = w; derived = m.derived } ∷ r) ih))

  -- a mutation moved twice goes where it would have gone pos once
  pub record Twice (F G H : ℕ → ℕ → Option ℕ) (m : Mutation) : Type 0 where
    pub stays : (w : ℕ) → F (pos m.site) m.node ≡ some w → G (pos m.site) w ≡ H (pos m.site) m.node
    pub goes : F (pos m.site) m.node ≡ none → H (pos m.site) m.node ≡ none

  pub moved_twice : (F G H : ℕ → ℕ → Option ℕ) (l : List Mutation) → All (Twice F G H) l → moved pos G (moved pos F l) ≡ moved pos H l
  unfolding moved
  moved_twice F G H [] done = refl
  moved_twice F G H (m ∷ l) (also t a) = go (F (pos m.site) m.node) refl (moved_twice F G H l a)
    where
      mv : (w : ℕ) → List Mutation → List Mutation
      mv w r = record { site = m.site; node = w; derived = m.derived } ∷ r

      kept : (w : ℕ) → F (pos m.site) m.node ≡ some w → (o : Option ℕ) → H (pos m.site) m.node ≡ o → moved pos G (moved pos F l) ≡ moved pos H l →
          moved pos G (mv w (moved pos F l)) ≡ moved pos H (m ∷ l)
      kept w e none f ih = rw (f, moved) (rw (t.stays w e ∙ f, moved) ih)
      kept w e (some v) f ih = rw (f, moved) (rw (t.stays w e ∙ f, moved) (ap (mv v) ih))

      go : (o : Option ℕ) → F (pos m.site) m.node ≡ o → moved pos G (moved pos F l) ≡ moved pos H l → moved pos G (moved pos F (m ∷ l)) ≡ moved pos H (m ∷ l)
      go none e ih = rw (e, moved) (rw (t.goes e, moved) ih)
      go (some w) e ih = rw (e, moved) (kept w e (H (pos m.site) m.node) refl ih)

pub all_by : {Q : Mutation → Type 0} (a b : List Mutation) (i k : ℕ) → All Q a → All Q b → All Q (by_site a b i k)
unfolding by_site of_site
all_by a b i zero x y = done
all_by a b i (suc k) x y = all_app (all_filter (λ (m : Mutation). eqb m.site i) a x) (all_app (all_filter (λ (m : Mutation). eqb m.site i) b y) (all_by a b (suc i) k x y))
