-- A forest whose nodes get other names, no two the same: parents, ancestors and the nearest node above go along.
use Rattle.std.specs.Prelude.{◌≡◌, Bool, true, false, eqb}
use Rattle.std.proofs.Math.Path.{refl}
use Rattle.std.proofs.Common.{sym, ap, ◌∙◌, eqb-true, eq-eqb}
use Rattle.std.proofs.Math.Option.{Option, none, some}
use Prim.Native.Nat.{ℕ, zero, suc, ◌<◌}
use Rattle.meaning.specs.Forest.{Par, Ages, above, ancestor, near}
use Rattle.laws.specs.Bools.{bool_ext, none_some, some_inj}

-- the name of what is there
abbrev pub map_option : (ℕ → ℕ) → Option ℕ → Option ℕ
map_option f none = none
map_option f (some a) = some (f a)

-- P' is the forest P of rows below n, each row u named f u
pub record Renamed (n : ℕ) (f : ℕ → ℕ) (P P' : Par) : Type 0 where
  pub apart : (i j : ℕ) → i < n → j < n → f i ≡ f j → i ≡ j
  pub inside : (u p : ℕ) → u < n → P u ≡ some p → p < n
  pub parent : (u : ℕ) → u < n → P' (f u) ≡ map_option f (P u)

-- two rows are the same where their names are
pub eqb_names : (n : ℕ) (f : ℕ → ℕ) → ((i j : ℕ) → i < n → j < n → f i ≡ f j → i ≡ j) → (a b : ℕ) → a < n → b < n → eqb (f a) (f b) ≡ eqb a b
eqb_names n f apart a b p q = bool_ext (λ e. eq-eqb a b (apart a b p q (eqb-true (f a) (f b) e))) (λ e. eq-eqb (f a) (f b) (ap f (eqb-true a b e)))

-- ---- one step of each walk

module _ (P : Par) where
  pub above_zero : (a b : ℕ) → above P zero a b ≡ eqb a b
  unfolding above
  above_zero a b = refl

  pub above_here : (k a b : ℕ) → eqb a b ≡ true → above P (suc k) a b ≡ true
  unfolding above
  above_here k a b e = rw (e, above)

  pub above_top : (k a b : ℕ) → eqb a b ≡ false → P b ≡ none → above P (suc k) a b ≡ false
  unfolding above
  above_top k a b e h = rw (e, above) (rw h)

  pub above_step : (k a b p : ℕ) → eqb a b ≡ false → P b ≡ some p → above P (suc k) a b ≡ above P k a p
  unfolding above
  above_step k a b p e h = rw (e, above) (rw h)

  pub ancestor_top : (a b : ℕ) → P b ≡ none → ancestor P a b ≡ false
  unfolding ancestor
  ancestor_top a b h = rw (h, ancestor)

  pub ancestor_step : (a b p : ℕ) → P b ≡ some p → ancestor P a b ≡ above P Ages a p
  unfolding ancestor
  ancestor_step a b p h = rw (h, ancestor)

module _ (P : Par) (K : ℕ → Bool) where
  pub near_here : (k v : ℕ) → K v ≡ true → near P K k v ≡ some v
  unfolding near
  near_here zero v e = rw (e, near)
  near_here (suc k) v e = rw (e, near)

  pub near_end : (v : ℕ) → K v ≡ false → near P K zero v ≡ none
  unfolding near
  near_end v e = rw (e, near)

  pub near_top : (k v : ℕ) → K v ≡ false → P v ≡ none → near P K k v ≡ none
  unfolding near
  near_top zero v e h = rw (e, near)
  near_top (suc k) v e h = rw (e, near) (rw h)

  pub near_step : (k v p : ℕ) → K v ≡ false → P v ≡ some p → near P K (suc k) v ≡ near P K k p
  unfolding near
  near_step k v p e h = rw (e, near) (rw h)

-- ---- the walks of a renamed forest

module _ (n : ℕ) (f : ℕ → ℕ) (P P' : Par) (R : Renamed n f P P') where
  pub above_names : (k a b : ℕ) → a < n → b < n → above P' k (f a) (f b) ≡ above P k a b
  above_names zero a b p q = above_zero P' (f a) (f b) ∙ eqb_names n f R.apart a b p q ∙ sym (above_zero P a b)
  above_names (suc k) a b p q = go (eqb a b) refl (P b) refl (λ c l. above_names k a c p l)
    where
      same : eqb (f a) (f b) ≡ eqb a b
      same = eqb_names n f R.apart a b p q

      go : (t : Bool) → eqb a b ≡ t → (o : Option ℕ) → P b ≡ o → ((c : ℕ) → c < n → above P' k (f a) (f c) ≡ above P k a c) → above P' (suc k) (f a) (f b) ≡ above P (suc k) a b
      go true e o h ih = above_here P' k (f a) (f b) (same ∙ e) ∙ sym (above_here P k a b e)
      go false e none h ih = above_top P' k (f a) (f b) (same ∙ e) (R.parent b q ∙ ap (map_option f) h) ∙ sym (above_top P k a b e h)
      go false e (some c) h ih = above_step P' k (f a) (f b) (f c) (same ∙ e) (R.parent b q ∙ ap (map_option f) h) ∙ ih c (R.inside b c q h) ∙ sym (above_step P k a b c e h)

  pub ancestor_names : (a b : ℕ) → a < n → b < n → ancestor P' (f a) (f b) ≡ ancestor P a b
  ancestor_names a b p q = go (P b) refl
    where
      go : (o : Option ℕ) → P b ≡ o → ancestor P' (f a) (f b) ≡ ancestor P a b
      go none h = ancestor_top P' (f a) (f b) (R.parent b q ∙ ap (map_option f) h) ∙ sym (ancestor_top P a b h)
      go (some c) h = ancestor_step P' (f a) (f b) (f c) (R.parent b q ∙ ap (map_option f) h) ∙ above_names Ages a c p (R.inside b c q h) ∙ sym (ancestor_step P a b c h)

  module _ (K K' : ℕ → Bool) (same : (v : ℕ) → v < n → K' (f v) ≡ K v) where
    pub near_names : (k u : ℕ) → u < n → near P' K' k (f u) ≡ map_option f (near P K k u)
    near_names k u l = walk k u l
      where
        step : (k u : ℕ) → u < n → ((c : ℕ) → c < n → near P' K' k (f c) ≡ map_option f (near P K k c)) → (t : Bool) → K u ≡ t → (o : Option ℕ) → P u ≡ o → near P' K' (suc k) (f u) ≡ map_option f (near P K (suc k) u)
        step k u l ih true e o h = near_here P' K' (suc k) (f u) (same u l ∙ e) ∙ sym (ap (map_option f) (near_here P K (suc k) u e))
        step k u l ih false e none h = near_top P' K' (suc k) (f u) (same u l ∙ e) (R.parent u l ∙ ap (map_option f) h) ∙ sym (ap (map_option f) (near_top P K (suc k) u e h))
        step k u l ih false e (some c) h = near_step P' K' k (f u) (f c) (same u l ∙ e) (R.parent u l ∙ ap (map_option f) h) ∙ ih c (R.inside u c l h) ∙ sym (ap (map_option f) (near_step P K k u c e h))

        last : (u : ℕ) → u < n → (t : Bool) → K u ≡ t → near P' K' zero (f u) ≡ map_option f (near P K zero u)
        last u l true e = near_here P' K' zero (f u) (same u l ∙ e) ∙ sym (ap (map_option f) (near_here P K zero u e))
        last u l false e = near_end P' K' (f u) (same u l ∙ e) ∙ sym (ap (map_option f) (near_end P K u e))

        walk : (k u : ℕ) → u < n → near P' K' k (f u) ≡ map_option f (near P K k u)
        walk zero u l = last u l (K u) refl
        walk (suc k) u l = step k u l (λ c m. walk k c m) (K u) refl (P u) refl

-- the nearest of a row is a row
pub near_inside : (n : ℕ) (P : Par) → ((u p : ℕ) → u < n → P u ≡ some p → p < n) → (K : ℕ → Bool) (k u w : ℕ) → u < n → near P K k u ≡ some w → (w < n) × (K w ≡ true)
near_inside n P inside K zero u w l h = go (K u) refl
  where
    go : (t : Bool) → K u ≡ t → (w < n) × (K w ≡ true)
    go true e = let q : u ≡ w = some_inj (near_here P K zero u e) h in rw (sym q) (l, e)
    go false e = absurd (none_some (near_end P K u e) h)
near_inside n P inside K (suc k) u w l h = go (K u) refl (P u) refl (λ c m g. near_inside n P inside K k c w m g)
  where
    go : (t : Bool) → K u ≡ t → (o : Option ℕ) → P u ≡ o → ((c : ℕ) → c < n → near P K k c ≡ some w → (w < n) × (K w ≡ true)) → (w < n) × (K w ≡ true)
    go true e o g ih = let q : u ≡ w = some_inj (near_here P K (suc k) u e) h in rw (sym q) (l, e)
    go false e none g ih = absurd (none_some (near_top P K (suc k) u e g) h)
    go false e (some c) g ih = ih c (inside u c l g) (sym (near_step P K k u c e g) ∙ h)
