-- A forest whose nodes get other names: reached, stands, the nearest standing node above and below go along.
use Rattle.std.specs.Prelude.{◌≡◌, Bool, leb}
use Rattle.std.proofs.Math.Path.{refl, ap, ap₂}
use Rattle.std.proofs.Common.{sym, ◌∙◌}
use Rattle.std.proofs.Math.Bool.{true, false}
use mathlib.Core.List.{List, [], ◌∷◌, map}
use Rattle.std.proofs.Math.Option.{Option, none, some}
use Prim.Native.Nat.{ℕ, zero, suc, ◌<◌}
use Rattle.std.proofs.Math.Dec.{eqb}
use Rattle.meaning.specs.Words.{and, or, mem, any, count, first_of}
use Rattle.meaning.specs.Forest.{Par, Ages, above, reached, is, feeds, stands, near, up, low, drawn}
use Rattle.laws.specs.Bools.{clash, none_some, some_inj}
use Rattle.laws.specs.Facts.{All, done, also}
use Rattle.bridge.specs.Rename.{map_option, Renamed, eqb_names, above_names, near_names}

-- ---- lists of named rows

module _ (n : ℕ) (f : ℕ → ℕ) where
  pub any_names : (F F' : ℕ → Bool) → ((v : ℕ) → v < n → F' (f v) ≡ F v) → (l : List ℕ) → All (λ v. v < n) l → any F' (map f l) ≡ any F l
  unfolding any
  any_names F F' h [] done = refl
  any_names F F' h (a ∷ l) (also p x) = go (F a) refl (any_names F F' h l x)
    where
      go : (t : Bool) → F a ≡ t → any F' (map f l) ≡ any F l → any F' (map f (a ∷ l)) ≡ any F (a ∷ l)
      go true e ih = rw (h a p ∙ e, any) (rw (e, any))
      go false e ih = rw (h a p ∙ e, any) (rw (e, any) ih)

  pub count_names : (F F' : ℕ → Bool) → ((v : ℕ) → v < n → F' (f v) ≡ F v) → (l : List ℕ) → All (λ v. v < n) l → count F' (map f l) ≡ count F l
  unfolding count
  count_names F F' h [] done = refl
  count_names F F' h (a ∷ l) (also p x) = go (F a) refl (count_names F F' h l x)
    where
      go : (t : Bool) → F a ≡ t → count F' (map f l) ≡ count F l → count F' (map f (a ∷ l)) ≡ count F (a ∷ l)
      go true e ih = rw (h a p ∙ e, count) (rw (e, count) (ap suc ih))
      go false e ih = rw (h a p ∙ e, count) (rw (e, count) ih)

  pub first_names : (F F' : ℕ → Bool) → ((v : ℕ) → v < n → F' (f v) ≡ F v) → (l : List ℕ) → All (λ v. v < n) l → first_of F' (map f l) ≡ map_option f (first_of F l)
  unfolding first_of
  first_names F F' h [] done = refl
  first_names F F' h (a ∷ l) (also p x) = go (F a) refl (first_names F F' h l x)
    where
      go : (t : Bool) → F a ≡ t → first_of F' (map f l) ≡ map_option f (first_of F l) → first_of F' (map f (a ∷ l)) ≡ map_option f (first_of F (a ∷ l))
      go true e ih = rw (h a p ∙ e, first_of) (rw (e, first_of))
      go false e ih = rw (h a p ∙ e, first_of) (rw (e, first_of) ih)

  pub first_inside : (F : ℕ → Bool) (l : List ℕ) (c : ℕ) → All (λ v. v < n) l → first_of F l ≡ some c → c < n
  unfolding first_of
  first_inside F [] c done h = absurd (none_some refl h)
  first_inside F (a ∷ l) c (also p x) h = go (F a) refl (λ k. first_inside F l c x k)
    where
      go : (t : Bool) → F a ≡ t → (first_of F l ≡ some c → c < n) → c < n
      go true e ih = rw (some_inj (rw (e, first_of) at h) refl) p
      go false e ih = ih (rw (e, first_of) at h)

  module _ (apart : (i j : ℕ) → i < n → j < n → f i ≡ f j → i ≡ j) where
    pub mem_names : (u : ℕ) → u < n → (l : List ℕ) → All (λ v. v < n) l → mem (f u) (map f l) ≡ mem u l
    unfolding mem
    mem_names u p [] done = refl
    mem_names u p (a ∷ l) (also q x) = go (eqb u a) refl (mem_names u p l x)
      where
        go : (t : Bool) → eqb u a ≡ t → mem (f u) (map f l) ≡ mem u l → mem (f u) (map f (a ∷ l)) ≡ mem u (a ∷ l)
        go true e ih = rw (eqb_names n f apart u a p q ∙ e, mem) (rw (e, mem))
        go false e ih = rw (eqb_names n f apart u a p q ∙ e, mem) (rw (e, mem) ih)

-- ---- the forest

module _ (n : ℕ) (f : ℕ → ℕ) (P P' : Par) (ren : Renamed n f P P') where
  is_names : (o : Option ℕ) (u : ℕ) → ((p : ℕ) → o ≡ some p → p < n) → u < n → is (map_option f o) (f u) ≡ is o u
  unfolding is
  is_names none u h l = refl
  is_names (some p) u h l = eqb_names n f ren.apart p u (h p refl) l

  pub feeds_names : (R R' : ℕ → Bool) → ((v : ℕ) → v < n → R' (f v) ≡ R v) → (u v : ℕ) → u < n → v < n → feeds P' R' (f u) (f v) ≡ feeds P R u v
  unfolding feeds
  feeds_names R R' h u v p q = ap₂ and (ap (λ o. is o (f u)) (ren.parent v q) ∙ is_names (P v) u (λ w e. ren.inside v w q e) p) (h v q)

  module _ (K K' : ℕ → Bool) (same : (v : ℕ) → v < n → K' (f v) ≡ K v) where
    pub up_names : (u : ℕ) → u < n → up P' K' (f u) ≡ map_option f (up P K u)
    unfolding up
    up_names u l = go (P u) refl
      where
        go : (o : Option ℕ) → P u ≡ o → up P' K' (f u) ≡ map_option f (up P K u)
        go none e = rw (ren.parent u l ∙ ap (map_option f) e, up) (rw (e, up))
        go (some p) e = rw (ren.parent u l ∙ ap (map_option f) e, up) (rw (e, up) (near_names n f P P' ren K K' same Ages p (ren.inside u p l e)))

    pub drawn_names : (u : ℕ) → u < n → drawn P' K' (f u) ≡ map_option f (drawn P K u)
    unfolding drawn
    drawn_names u l = go (K u) refl
      where
        go : (t : Bool) → K u ≡ t → drawn P' K' (f u) ≡ map_option f (drawn P K u)
        go true e = rw (same u l ∙ e, drawn) (rw (e, drawn) (up_names u l))
        go false e = rw (same u l ∙ e, drawn) (rw (e, drawn))

    pub low_names : (R R' : ℕ → Bool) → ((v : ℕ) → v < n → R' (f v) ≡ R v) → (N : List ℕ) → All (λ v. v < n) N → (k u : ℕ) → u < n → low (map f N) P' R' K' k (f u) ≡ map_option f (low N P R K k u)
    unfolding low
    low_names R R' h N x zero u l = go (K u) refl
      where
        go : (t : Bool) → K u ≡ t → low (map f N) P' R' K' zero (f u) ≡ map_option f (low N P R K zero u)
        go true e = rw (same u l ∙ e, low) (rw (e, low))
        go false e = rw (same u l ∙ e, low) (rw (e, low))
    low_names R R' h N x (suc k) u l = go (K u) refl (λ c q. low_names R R' h N x k c q)
      where
        child : (o : Option ℕ) → first_of (feeds P R u) N ≡ o → first_of (feeds P' R' (f u)) (map f N) ≡ map_option f o
        child o e = first_names n f (feeds P R u) (feeds P' R' (f u)) (λ v q. feeds_names R R' h u v l q) N x ∙ ap (map_option f) e

        down : K u ≡ false → (o : Option ℕ) → first_of (feeds P R u) N ≡ o → ((c : ℕ) → c < n → low (map f N) P' R' K' k (f c) ≡ map_option f (low N P R K k c)) → low (map f N) P' R' K' (suc k) (f u) ≡ map_option f (low N P R K (suc k) u)
        down e none g ih = rw (same u l ∙ e, low) (rw (child none g) (rw (e, low) (rw g)))
        down e (some c) g ih = rw (same u l ∙ e, low) (rw (child (some c) g) (rw (e, low) (rw g (ih c (first_inside n f (feeds P R u) N c x g)))))

        go : (t : Bool) → K u ≡ t → ((c : ℕ) → c < n → low (map f N) P' R' K' k (f c) ≡ map_option f (low N P R K k c)) → low (map f N) P' R' K' (suc k) (f u) ≡ map_option f (low N P R K (suc k) u)
        go true e ih = rw (same u l ∙ e, low) (rw (e, low))
        go false e ih = down e (first_of (feeds P R u) N) refl ih

  module _ (S : List ℕ) (inside : All (λ v. v < n) S) where
    pub reached_names : (u : ℕ) → u < n → reached P' (map f S) (f u) ≡ reached P S u
    unfolding reached
    reached_names u l = any_names n f (above P Ages u) (above P' Ages (f u)) (λ v q. above_names n f P P' ren Ages u v l q) S inside

    pub stands_names : (N : List ℕ) → All (λ v. v < n) N → (u : ℕ) → u < n → stands (map f N) P' (map f S) (f u) ≡ stands N P S u
    unfolding stands
    stands_names N x u l = ap₂ or (mem_names n f ren.apart u l S inside) (ap (leb 2) (count_names n f (feeds P (reached P S) u) (feeds P' (reached P' (map f S)) (f u)) (λ v q. feeds_names (reached P S) (reached P' (map f S)) reached_names u v l q) N x))

-- the nearest standing row below is a row
pub low_within : (n : ℕ) (P : Par) (R K : ℕ → Bool) (N : List ℕ) → All (λ v. v < n) N → (k u w : ℕ) → u < n → low N P R K k u ≡ some w → w < n
unfolding low
low_within n P R K N a zero u w l h = go (K u) refl
  where
    go : (t : Bool) → K u ≡ t → w < n
    go true e = rw (some_inj (rw (e, low) at h) refl) l
    go false e = absurd (none_some refl (rw (e, low) at h))
low_within n P R K N a (suc k) u w l h = go (K u) refl (λ c q i. low_within n P R K N a k c w q i)
  where
    down : K u ≡ false → (o : Option ℕ) → first_of (feeds P R u) N ≡ o → ((c : ℕ) → c < n → low N P R K k c ≡ some w → w < n) → w < n
    down e none f ih = absurd (none_some refl (rw f at (rw (e, low) at h)))
    down e (some c) f ih = ih c (first_inside n (λ v. v) (feeds P R u) N c a f) (rw f at (rw (e, low) at h))

    go : (t : Bool) → K u ≡ t → ((c : ℕ) → c < n → low N P R K k c ≡ some w → w < n) → w < n
    go true e ih = rw (some_inj (rw (e, low) at h) refl) l
    go false e ih = down e (first_of (feeds P R u) N) refl ih
