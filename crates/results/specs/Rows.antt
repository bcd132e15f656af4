-- How many rows of a list pass a test, in joined and sorted lists and in mutations by site; and lists that a join leaves as they are.
use Rattle.std.specs.Prelude.{◌≡◌, Bool, ℕ, zero, suc, ◌+◌, ◌<◌, ◌≤◌, leb, length}
use Rattle.std.proofs.Math.Path.{refl}
use Rattle.std.proofs.Common.{sym, ap, ap₂, ◌∙◌, ⊎_elim, arith, eq-eqb, ne_eqb, le-leb, leb-true, leb-false}
use Rattle.std.proofs.Math.Bool.{true, false}
use mathlib.Core.List.{List, [], ◌∷◌, ◌++◌}
use Rattle.std.proofs.lemmas.Bool.{lt-leb}
use Rattle.meaning.specs.Words.{filter, insert, sort}
use Rattle.meaning.specs.Rows.{Mutation}
use Rattle.meaning.specs.Join.{of_site, by_site}
use Rattle.laws.specs.Bools.{eq?}
use Rattle.laws.specs.Facts.{All, done, also}
use Rattle.history.specs.Lists.{all_to}
use Rattle.results.specs.Pairwise.{Pairwise, lone, before_rest}
use Rattle.results.specs.Facts.{Rises}

-- how many rows pass the test
unfoldable pub often : {A : Type 0} → (A → Bool) → List A → ℕ
unfolding filter
often f l = length (filter f l)

module _ {A : Type 0} (f : A → Bool) where
  often_hit : (a : A) (l : List A) → f a ≡ true → often f (a ∷ l) ≡ suc (often f l)
  unfolding often filter
  often_hit a l e = rw (e, filter)

  often_miss : (a : A) (l : List A) → f a ≡ false → often f (a ∷ l) ≡ often f l
  unfolding often filter
  often_miss a l e = rw (e, filter)

  often_nil : often f [] ≡ 0
  unfolding often filter
  often_nil = refl

  pub often_app : (l m : List A) → often f (l ++ m) ≡ often f l + often f m
  often_app [] m = omega (arith, often_nil)
  often_app (a ∷ l) m = go (f a) refl (often_app l m)
    where
      go : (t : Bool) → f a ≡ t → often f (l ++ m) ≡ often f l + often f m → often f (a ∷ (l ++ m)) ≡ often f (a ∷ l) + often f m
      go true e ih = omega (arith, often_hit a (l ++ m) e, often_hit a l e)
      go false e ih = omega (arith, often_miss a (l ++ m) e, often_miss a l e)

  often_cons : (a : A) (l m : List A) → often f l ≡ often f m → often f (a ∷ l) ≡ often f (a ∷ m)
  often_cons a l m h = go (f a) refl
    where
      go : (t : Bool) → f a ≡ t → often f (a ∷ l) ≡ often f (a ∷ m)
      go true e = omega (arith, often_hit a l e, often_hit a m e)
      go false e = omega (arith, often_miss a l e, often_miss a m e)

  often_swap : (a b : A) (l : List A) → often f (a ∷ b ∷ l) ≡ often f (b ∷ a ∷ l)
  often_swap a b l = go (f a) refl (f b) refl
    where
      go : (t : Bool) → f a ≡ t → (u : Bool) → f b ≡ u → often f (a ∷ b ∷ l) ≡ often f (b ∷ a ∷ l)
      go true e true g = omega (arith, often_hit a (b ∷ l) e, often_hit b l g, often_hit b (a ∷ l) g, often_hit a l e)
      go true e false g = omega (arith, often_hit a (b ∷ l) e, often_miss b l g, often_miss b (a ∷ l) g, often_hit a l e)
      go false e true g = omega (arith, often_miss a (b ∷ l) e, often_hit b l g, often_hit b (a ∷ l) g, often_miss a l e)
      go false e false g = omega (arith, often_miss a (b ∷ l) e, often_miss b l g, often_miss b (a ∷ l) g, often_miss a l e)

  often_insert : (lt : A → A → Bool) (a : A) (l : List A) → often f (insert lt a l) ≡ often f (a ∷ l)
  unfolding insert
  often_insert lt a [] = refl
  often_insert lt a (b ∷ l) = go (lt a b) refl (often_insert lt a l)
    where
      go : (t : Bool) → lt a b ≡ t → often f (insert lt a l) ≡ often f (a ∷ l) → often f (insert lt a (b ∷ l)) ≡ often f (a ∷ b ∷ l)
      go true e ih = rw (e, insert)
      go false e ih = rw (e, insert) (often_cons b (insert lt a l) (a ∷ l) ih ∙ often_swap b a l)

  pub often_sort : (lt : A → A → Bool) (l : List A) → often f (sort lt l) ≡ often f l
  unfolding sort
  often_sort lt [] = refl
  often_sort lt (a ∷ l) = often_insert lt a (sort lt l) ∙ often_cons a (sort lt l) l (often_sort lt l)

-- ---- mutations by site

module _ (i : ℕ) (m : Mutation) (l : List Mutation) where
  site_hit : m.site ≡ i → of_site i (m ∷ l) ≡ m ∷ of_site i l
  unfolding of_site filter
  site_hit e = rw (eq-eqb m.site i e, filter)

  site_miss : (m.site ≡ i → ⊥) → of_site i (m ∷ l) ≡ of_site i l
  unfolding of_site filter
  site_miss n = rw (ne_eqb m.site i n, filter)

site_nil : (i : ℕ) → of_site i [] ≡ []
unfolding of_site filter
site_nil i = refl

module _ (a b : List Mutation) where
  by_zero : (i : ℕ) → by_site a b i zero ≡ []
  unfolding by_site
  by_zero i = refl

  by_suc : (i k : ℕ) → by_site a b i (suc k) ≡ of_site i a ++ (of_site i b ++ by_site a b (suc i) k)
  unfolding by_site
  by_suc i k = refl

module _ (f : Mutation → Bool) where
  -- those from site row i on that pass
  abbrev from : ℕ → List Mutation → ℕ
  from i [] = 0
  from i (m ∷ l) = elim (leb i m.site) [ true ↦ often f (m ∷ []) + from i l | false ↦ from i l ]

  from_in : (i : ℕ) (m : Mutation) (l : List Mutation) → i ≤ m.site → from i (m ∷ l) ≡ often f (m ∷ []) + from i l
  from_in i m l h = rw (le-leb i m.site h, from)

  from_out : (i : ℕ) (m : Mutation) (l : List Mutation) → m.site < i → from i (m ∷ l) ≡ from i l
  from_out i m l h = rw (lt-leb i m.site h, from)

  from_step : (i : ℕ) (l : List Mutation) → from i l ≡ often f (of_site i l) + from (suc i) l
  from_step i [] = omega (arith, ap (often f) (site_nil i) ∙ often_nil f)
  from_step i (m ∷ l) = ⊎_elim
      (λ (e : m.site ≡ i). omega (arith, from_in i m l (omega arith), from_out (suc i) m l (omega arith), ap (often f) (site_hit i m l e) ∙ often_app f (m ∷ []) (of_site i l), from_step i l))
      (λ (n : m.site ≡ i → ⊥). go n (leb i m.site) refl (from_step i l))
      (eq? m.site i)
    where
      go : (m.site ≡ i → ⊥) → (t : Bool) → leb i m.site ≡ t → from i l ≡ often f (of_site i l) + from (suc i) l → from i (m ∷ l) ≡ often f (of_site i (m ∷ l)) + from (suc i) (m ∷ l)
      go n true e ih = let h : i ≤ m.site = leb-true i m.site e in omega (arith, from_in i m l h, from_in (suc i) m l (omega arith), ap (often f) (site_miss i m l n))
      go n false e ih = let h : m.site < i = leb-false i m.site e in omega (arith, from_out i m l h, from_out (suc i) m l (omega arith), ap (often f) (site_miss i m l n))

  from_all : (l : List Mutation) → from 0 l ≡ often f l
  from_all [] = sym (often_nil f)
  from_all (m ∷ l) = omega (arith, from_in 0 m l (omega arith), from_all l, often_app f (m ∷ []) l)

  from_none : (i : ℕ) (l : List Mutation) → All (λ (m : Mutation). m.site < i) l → from i l ≡ 0
  from_none i [] done = refl
  from_none i (m ∷ l) (also p x) = from_out i m l p ∙ from_none i l x

  by_often : (a b : List Mutation) (i k : ℕ) → All (λ (m : Mutation). m.site < i + k) a → All (λ (m : Mutation). m.site < i + k) b → often f (by_site a b i k) ≡ from i a + from i b
  by_often a b i zero x y = omega (arith, ap (often f) (by_zero a b i), often_nil f, from_none i a (all_to (λ m l. omega arith) x), from_none i b (all_to (λ m l. omega arith) y))
  by_often a b i (suc k) x y = omega (
    arith,
    ap (often f) (by_suc a b i k) ∙ often_app f (of_site i a) (of_site i b ++ by_site a b (suc i) k),
    often_app f (of_site i b) (by_site a b (suc i) k),
    from_step i a,
    from_step i b,
    by_often a b (suc i) k (all_to (λ m l. omega arith) x) (all_to (λ m l. omega arith) y),
  )

  -- every mutation of a site that there is stands by site as often as in the two lists
  pub often_by_site : (a b : List Mutation) (n : ℕ) → All (λ (m : Mutation). m.site < n) a → All (λ (m : Mutation). m.site < n) b → often f (by_site a b 0 n) ≡ often f a + often f b
  often_by_site a b n x y = omega (arith, by_often a b 0 n (all_to (λ m l. omega arith) x) (all_to (λ m l. omega arith) y), from_all a, from_all b)

-- ---- mutations that stand by site already

by_skip : (m : Mutation) (l b : List Mutation) (i k : ℕ) → m.site < i → by_site (m ∷ l) b i k ≡ by_site l b i k
by_skip m l b i zero h = by_zero (m ∷ l) b i ∙ sym (by_zero l b i)
by_skip m l b i (suc k) h =
    by_suc (m ∷ l) b i k
    ∙ ap₂ (λ (u v : List Mutation). u ++ (of_site i b ++ v)) (site_miss i m l (λ e. omega arith)) (by_skip m l b (suc i) k (omega arith))
    ∙ sym (by_suc l b i k)

site_none : (i : ℕ) (l : List Mutation) → All (λ (m : Mutation). i < m.site) l → of_site i l ≡ []
site_none i [] done = site_nil i
site_none i (m ∷ l) (also p x) = site_miss i m l (λ e. omega arith) ∙ site_none i l x

by_itself : (l : List Mutation) (i k : ℕ) → Pairwise Rises l → All (λ (m : Mutation). i ≤ m.site) l → All (λ (m : Mutation). m.site < i + k) l → by_site l [] i k ≡ l
by_itself [] i zero p x y = by_zero [] [] i
by_itself [] i (suc k) p x y = by_suc [] [] i k ∙ ap₂ (λ (u v : List Mutation). u ++ (u ++ v)) (site_nil i) (by_itself [] (suc i) k lone done done)
by_itself (m ∷ l) i zero p (also g x) (also h y) = absurd (omega arith)
by_itself (m ∷ l) i (suc k) (before_rest r p) (also g x) (also h y) = ⊎_elim
    (λ (e : m.site ≡ i).
    by_suc (m ∷ l) [] i k
    ∙ ap₂ (λ (u v : List Mutation). u ++ (of_site i [] ++ v)) (site_hit i m l e) (by_skip m l [] (suc i) k (omega arith))
    ∙ ap (λ (u : List Mutation). m ∷ u) (sym (by_suc l [] i k) ∙ by_itself l i (suc k) p x y))
    (λ (n : m.site ≡ i → ⊥).
    let z : i < m.site = omega arith in
    let w : All (λ (u : Mutation). i < u.site) (m ∷ l) = also z (all_to (λ u q. omega arith) r) in
    by_suc (m ∷ l) [] i k
    ∙ ap₂ (λ (u v : List Mutation). u ++ (v ++ by_site (m ∷ l) [] (suc i) k)) (site_none i (m ∷ l) w) (site_nil i)
    ∙ by_itself (m ∷ l) (suc i) k (before_rest r p) (all_to (λ u q. omega arith) w) (all_to (λ u q. omega arith) (also h y)))
    (eq? m.site i)

-- put by site they stand as they stood
pub by_site_same : (l : List Mutation) (n : ℕ) → Pairwise Rises l → All (λ (m : Mutation). m.site < n) l → by_site l [] 0 n ≡ l
by_site_same l n p y = by_itself l 0 n p (all_to (λ m q. omega arith) y) (all_to (λ m q. omega arith) y)
