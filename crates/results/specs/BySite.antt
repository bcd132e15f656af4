-- Mutations put by site: what holds of each two of them, and how often each is there.
use Rattle.std.specs.Prelude.{◌≡◌, refl, Bool, true, false, eqb}
use Rattle.std.proofs.Common.{sym, ◌∙◌, arith, eqb-true}
use mathlib.Core.List.{List, [], ◌∷◌, ◌++◌}
use Prim.Native.Nat.{ℕ, zero, suc, ◌<◌, ◌≤◌}
use Rattle.meaning.specs.Words.{filter}
use Rattle.meaning.specs.Rows.{Mutation}
use Rattle.meaning.specs.Join.{of_site, by_site}
use Rattle.laws.specs.Facts.{All, done, also}
use Rattle.history.specs.Lists.{all_app, all_to, all_filter}
use Rattle.results.specs.Pairwise.{Pairwise, lone, before_rest, pairwise_app, pairwise_with}

-- the mutations of site row i are of site row i
pub site_all : (i : ℕ) (l : List Mutation) → All (λ (m : Mutation). m.site ≡ i) (of_site i l)
unfolding of_site filter
site_all i [] = done
site_all i (m ∷ l) = go (eqb m.site i) refl (site_all i l)
  where
    go : (t : Bool) → eqb m.site i ≡ t → All (λ (m : Mutation). m.site ≡ i) (of_site i l) → All (λ (m : Mutation). m.site ≡ i) (of_site i (m ∷ l))
    go true e ih = rw (e, filter) (also (eqb-true m.site i e) ih)
    go false e ih = rw (e, filter) ih

-- and those from site row i on are of no lower one
by_site_from : (a b : List Mutation) (i k : ℕ) → All (λ (m : Mutation). i ≤ m.site) (by_site a b i k)
unfolding by_site
by_site_from a b i zero = done
by_site_from a b i (suc k) = all_app (all_to (λ m e. omega arith) (site_all i a)) (all_app (all_to (λ m e. omega arith) (site_all i b)) (all_to (λ m l. omega arith) (by_site_from a b (suc i) k)))

filter_pairwise : {A : Type 0} {Q : A → A → Type 0} (f : A → Bool) (l : List A) → Pairwise Q l → Pairwise Q (filter f l)
unfolding filter
filter_pairwise f [] lone = lone
filter_pairwise {Q = Q} f (a ∷ l) (before_rest x p) = go (f a) refl (filter_pairwise f l p)
  where
    go : (t : Bool) → f a ≡ t → Pairwise Q (filter f l) → Pairwise Q (filter f (a ∷ l))
    go true e ih = rw (e, filter) (before_rest (all_filter f l x) ih)
    go false e ih = rw (e, filter) ih

site_pairwise : {Q : Mutation → Mutation → Type 0} (i : ℕ) (l : List Mutation) → Pairwise Q l → Pairwise Q (of_site i l)
unfolding of_site
site_pairwise i l p = filter_pairwise (λ (m : Mutation). eqb m.site i) l p

site_keeps : {Q : Mutation → Type 0} (i : ℕ) (l : List Mutation) → All Q l → All Q (of_site i l)
unfolding of_site
site_keeps i l x = all_filter (λ (m : Mutation). eqb m.site i) l x

-- what holds of each member and all of another list
pub cross_to : {A : Type 0} {P Q : A → Type 0} {W : A → A → Type 0} {l m : List A} → ((a b : A) → P a → Q b → W a b) → All P l → All Q m → All (λ a. All (W a) m) l
cross_to h done y = done
cross_to h (also p x) y = also (all_to (λ b q. h _ b p q) y) (cross_to h x y)

module _ (Q : Mutation → Mutation → Type 0) (later : (m n : Mutation) → m.site < n.site → Q m n) where
  -- Q holds where the two are of one site
  abbrev pub AtOne : Mutation → Mutation → Type 0
  AtOne m n = m.site ≡ n.site → Q m n

  one_site : (i : ℕ) (l : List Mutation) → Pairwise AtOne l → Pairwise Q (of_site i l)
  one_site i l p = pairwise_with (λ m n e f h. h (e ∙ sym f)) (site_all i l) (site_pairwise i l p)

  two_lists : (i : ℕ) (a b : List Mutation) → All (λ m. All (AtOne m) b) a → All (λ m. All (Q m) (of_site i b)) (of_site i a)
  two_lists i a b h = both (site_all i a) (site_keeps i a h)
    where
      each : (m : Mutation) → m.site ≡ i → {k : List Mutation} → All (λ (n : Mutation). n.site ≡ i) k → All (AtOne m) k → All (Q m) k
      each m e done done = done
      each m e (also f x) (also q y) = also (q (e ∙ sym f)) (each m e x y)

      both : {l : List Mutation} → All (λ (m : Mutation). m.site ≡ i) l → All (λ m. All (AtOne m) b) l → All (λ m. All (Q m) (of_site i b)) l
      both done done = done
      both (also e x) (also q y) = also (each _ e (site_all i b) (site_keeps i b q)) (both x y)

  -- what holds at one site within each list, and of the one before the other, holds of all that stand by site
  pub by_site_pairwise : (a b : List Mutation) → Pairwise AtOne a → Pairwise AtOne b → All (λ m. All (AtOne m) b) a → (i k : ℕ) → Pairwise Q (by_site a b i k)
  unfolding by_site
  by_site_pairwise a b p q h i zero = lone
  by_site_pairwise a b p q h i (suc k) = pairwise_app (of_site i a) (of_site i b ++ by_site a b (suc i) k) (one_site i a p)
      (pairwise_app (of_site i b) (by_site a b (suc i) k) (one_site i b q) (by_site_pairwise a b p q h (suc i) k) (after b))
      (join_all (two_lists i a b h) (after a))
    where
      after : (l : List Mutation) → All (λ m. All (Q m) (by_site a b (suc i) k)) (of_site i l)
      after l = cross_to (λ m n e f. later m n (omega arith)) (site_all i l) (by_site_from a b (suc i) k)

      join_all : {m l n : List Mutation} → All (λ u. All (Q u) m) l → All (λ u. All (Q u) n) l → All (λ u. All (Q u) (m ++ n)) l
      join_all done done = done
      join_all (also x p) (also y q) = also (all_app x y) (join_all p q)
