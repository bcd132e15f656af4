-- The rows of edges written for a forest at each position give that forest back.
use Rattle.std.proofs.Math.Path.{◌≡◌, refl, ap, fun_ext}
use Rattle.std.proofs.Common.{sym, ◌∙◌}
use Rattle.std.specs.Prelude.{Bool, ◌⊎◌}
use Rattle.std.proofs.Math.Bool.{true, false}
use mathlib.Core.List.{List, [], ◌∷◌, ◌++◌}
use Rattle.std.proofs.Math.Option.{Option, none, some}
use Rattle.std.proofs.Math.Logic.{inl, inr, ⊎_elim}
use Prim.Native.Nat.{ℕ, zero, suc, ◌+◌, ◌<◌, ◌≤◌}
use native.Mathlib.Omega.{arith}
use Rattle.std.proofs.Math.Dec.{ltb}
use borrow.Author.Tests.{eqb-true, eq-eqb, lt-ltb, le-leb, ltb-true, leb-true}
use Rattle.meaning.specs.Words.{mem, each, sort}
use Rattle.meaning.specs.Rows.{Edge}
use Rattle.meaning.specs.Forest.{Par, holds, parent_in, is}
use Rattle.meaning.specs.Clean.{shut, opened, runs, before, edges_for}
use Rattle.laws.specs.Bools.{clash, eq?, and_of, some_inj, opt_ext}
use Rattle.laws.specs.Facts.{Distinct, Any, now, later, All, done, also, Cov}
use Rattle.history.specs.Order.{mem_sort, sort_same}
use Rattle.history.specs.Lists.{any_left, any_right, any_split, any_each, each_any, all_app, all_each}

module _ (y b : ℕ) where
  cov_of : (q : ℕ) (e : Edge) → e.parent ≡ q → holds y b e ≡ true → Cov y b q e
  unfolding holds
  cov_of q e p h =
      let r : _ = and_of _ _ h in
      let s : _ = and_of _ _ r.1 in
      record { of_child = eqb-true _ _ r.0; begun = leb-true _ _ s.0; not_over = ltb-true _ _ s.1; to_parent = p }

  of_cov : (q : ℕ) (e : Edge) → Cov y b q e → holds y b e ≡ true
  unfolding holds
  of_cov q e c = rw (eq-eqb e.child b c.of_child) (rw (le-leb e.left y c.begun) (lt-ltb y e.right c.not_over))

  pub parent_of : (l : List Edge) (q : ℕ) → parent_in l y b ≡ some q → Any (Cov y b q) l
  unfolding parent_in
  parent_of [] q h = absurd (let z : ◌≡◌ {A = ℕ} 0 1 = cc in omega arith)
  parent_of (e ∷ l) q h = go (holds y b e) refl (λ k. parent_of l q k)
    where
      go : (t : Bool) → holds y b e ≡ t → (parent_in l y b ≡ some q → Any (Cov y b q) l) → Any (Cov y b q) (e ∷ l)
      go true f ih = let g : some e.parent ≡ some q = rw (f, parent_in) at h in let p : e.parent ≡ q = cc in now (cov_of q e p f)
      go false f ih = later (ih (rw (f, parent_in) at h))

  pub of_parent : (l : List Edge) (q : ℕ) → Any (Cov y b q) l → (r : ℕ) × (parent_in l y b ≡ some r)
  unfolding parent_in
  of_parent [] q x' = elim x' [ ]
  of_parent (e ∷ l) q (now c) = (e.parent, rw (of_cov q e c, parent_in))
  of_parent (e ∷ l) q (later x) = go (holds y b e) refl (of_parent l q x)
    where
      go : (t : Bool) → holds y b e ≡ t → (r : ℕ) × (parent_in l y b ≡ some r) → (r : ℕ) × (parent_in (e ∷ l) y b ≡ some r)
      go true f ih = (e.parent, rw (f, parent_in))
      go false f ih = (ih.0, rw (f, parent_in) ih.1)

-- a run that is open at x holds y
abbrev pub Open : Option ℕ → ℕ → ℕ → Type 0
Open o x y = (s : ℕ) × (o ≡ some s) × (s ≤ y) × (y < x)

not_some : {A : Type 0} {s : ℕ} → none ≡ some s → A
not_some h = absurd (let z : ◌≡◌ {A = ℕ} 0 1 = cc in omega arith)

module _ (p c : ℕ) (f : ℕ → Bool) (y : ℕ) where
  shut_of : (b q : ℕ) (o : Option ℕ) (x : ℕ) → Any (Cov y b q) (shut p c o x) → (c ≡ b) × (p ≡ q) × Open o x y
  unfolding shut
  shut_of b q none x a = elim a [ ]
  shut_of b q (some s) x (now v) = (v.of_child, v.to_parent, (s, refl, v.begun, v.not_over))
  shut_of b q (some s) x (later a) = elim a [ ]

  of_shut : (o : Option ℕ) (x : ℕ) → Open o x y → Any (Cov y c p) (shut p c o x)
  unfolding shut
  of_shut none x r = not_some r.1
  of_shut (some s) x r = let e : s ≡ r.0 = (let g : _ = r.1 in cc) in let l : s ≤ y = omega (arith, e, r.2) in now (record { of_child = refl; begun = l; not_over = r.3; to_parent = refl })

  opened_of : (o : Option ℕ) (x : ℕ) → f x ≡ true → Open (opened o x) (suc x) y → Open o x y ⊎ ((f y ≡ true) × (x ≤ y) × (y < suc x))
  unfolding opened
  opened_of none x e r = let q : x ≡ r.0 = (let g : _ = r.1 in cc) in let w : y ≡ x = omega (arith, q, r.2, r.3) in inr (rw w e, omega arith, omega arith)
  opened_of (some s) x e r = ⊎_elim (λ (w : y ≡ x). inr (rw w e, omega arith, omega arith)) (λ (w : y ≡ x → ⊥). inl (r.0, r.1, r.2, omega (arith, r.3))) (eq? y x)

  pub runs_of : (b q : ℕ) (o : Option ℕ) (x k : ℕ) → Any (Cov y b q) (runs p c f o x k) → (c ≡ b) × (p ≡ q) × (Open o x y ⊎ ((f y ≡ true) × (x ≤ y) × (y < x + k)))
  unfolding runs
  runs_of b q o x zero a = let r : _ = shut_of b q o x a in (r.0, r.1, inl r.2)
  runs_of b q o x (suc k) a = go (f x) refl (λ o' m. runs_of b q o' (suc x) k m)
    where
      go : (t : Bool) → f x ≡ t →
          ((o' : Option ℕ) → Any (Cov y b q) (runs p c f o' (suc x) k) → (c ≡ b) × (p ≡ q) × (Open o' (suc x) y ⊎ ((f y ≡ true) × (suc x ≤ y) × (y < suc x + k)))) →
          (c ≡ b) × (p ≡ q) × (Open o x y ⊎ ((f y ≡ true) × (x ≤ y) × (y < x + suc k)))
      go true e ih =
          let r : _ = ih (opened o x) (rw (e, runs) at a) in (
            r.0,
            r.1,
            ⊎_elim
                (λ (w : Open (opened o x) (suc x) y). ⊎_elim (λ (z : Open o x y). inl z) (λ (z : (f y ≡ true) × (x ≤ y) × (y < suc x)). inr (z.0, z.1, omega (arith, z.2))) (opened_of o x e w))
                (λ (w : (f y ≡ true) × (suc x ≤ y) × (y < suc x + k)). inr (w.0, omega (arith, w.1), omega (arith, w.2)))
                r.2,
          )
      go false e ih = ⊎_elim
          (λ (w : Any (Cov y b q) (shut p c o x)). let r : _ = shut_of b q o x w in (r.0, r.1, inl r.2))
          (λ (w : Any (Cov y b q) (runs p c f none (suc x) k)).
          let r : _ = ih none w in
          (r.0, r.1, ⊎_elim (λ (z : Open none (suc x) y). not_some z.1) (λ (z : (f y ≡ true) × (suc x ≤ y) × (y < suc x + k)). inr (z.0, omega (arith, z.1), omega (arith, z.2))) r.2))
          (any_split (shut p c o x) (rw (e, runs) at a))

  open_on : (o : Option ℕ) (x : ℕ) → Open o x y → Open (opened o x) (suc x) y
  unfolding opened
  open_on none x r = not_some r.1
  open_on (some s) x r = (r.0, r.1, r.2, omega (arith, r.3))

  open_here : (o : Option ℕ) (x : ℕ) → ((s : ℕ) → o ≡ some s → s ≤ x) → x ≡ y → Open (opened o x) (suc x) y
  unfolding opened
  open_here none x h e = (x, refl, omega arith, omega arith)
  open_here (some s) x h e = (s, refl, omega (arith, h s refl), omega arith)

  opened_le : (o : Option ℕ) (x : ℕ) → ((s : ℕ) → o ≡ some s → s ≤ x) → (s : ℕ) → opened o x ≡ some s → s ≤ suc x
  unfolding opened
  opened_le none x h s e = let q : x ≡ s = cc in omega arith
  opened_le (some t) x h s e = omega (arith, h s e)

  pub of_runs : (o : Option ℕ) (x k : ℕ) → ((s : ℕ) → o ≡ some s → s ≤ x) → Open o x y ⊎ ((f y ≡ true) × (x ≤ y) × (y < x + k)) → Any (Cov y c p) (runs p c f o x k)
  unfolding runs
  of_runs o x zero h (inl r) = of_shut o x r
  of_runs o x zero h (inr r) = absurd (omega (arith, r.1, r.2))
  of_runs o x (suc k) h r = go (f x) refl r (λ o' g m. of_runs o' (suc x) k g m)
    where
      go : (t : Bool) → f x ≡ t → Open o x y ⊎ ((f y ≡ true) × (x ≤ y) × (y < x + suc k)) → ((o' : Option ℕ) → ((s : ℕ) → o' ≡ some s → s ≤ suc x) →
          Open o' (suc x) y ⊎ ((f y ≡ true) × (suc x ≤ y) × (y < suc x + k)) → Any (Cov y c p) (runs p c f o' (suc x) k)) → Any (Cov y c p) (runs p c f o x (suc k))
      go true e (inl w) ih = rw (e, runs) (ih (opened o x) (opened_le o x h) (inl (open_on o x w)))
      go true e (inr w) ih = rw (e, runs)
          (ih (opened o x) (opened_le o x h) (⊎_elim (λ (q : x ≡ y). inl (open_here o x h q)) (λ (q : x ≡ y → ⊥). inr (w.0, omega (arith, w.1), omega (arith, w.2))) (eq? x y)))
      go false e (inl w) ih = rw (e, runs) (any_left (runs p c f none (suc x) k) (of_shut o x w))
      go false e (inr w) ih = rw (e, runs) (any_right (shut p c o x) (ih none (λ s g. not_some g)
          (⊎_elim (λ (q : x ≡ y). absurd (clash w.0 (rw q at e))) (λ (q : x ≡ y → ⊥). inr (w.0, omega (arith, w.1), omega (arith, w.2))) (eq? x y))))

is_of : (o : Option ℕ) (u : ℕ) → is o u ≡ true → o ≡ some u
unfolding is
is_of none u h = absurd (clash h refl)
is_of (some p) u h = ap some (eqb-true p u h)

of_is : (o : Option ℕ) (u : ℕ) → o ≡ some u → is o u ≡ true
unfolding is
of_is o u e = rw e (eq-eqb u u refl)

module _ (L : ℕ) (time : ℕ → ℕ) (D : ℕ → Par) (fish : List ℕ) (x : ℕ) where
  -- the runs of one parent over all children
  abbrev under : ℕ → List Edge
  under p = each (λ c. runs p c (λ x. is (D x c) p) none 0 L) (sort ltb fish)

  -- an edge that is written lies below L and is the forest's
  pub edges_any : (b q : ℕ) → Any (Cov x b q) (edges_for L time D fish) → (x < L) × (D x b ≡ some q)
  unfolding edges_for
  edges_any b q h =
      let i : _ = each_any under (sort (before time) fish) h in
      let j : _ = each_any (λ c. runs i.0 c (λ x. is (D x c) i.0) none 0 L) (sort ltb fish) i.2 in
      let r : _ = runs_of i.0 j.0 (λ x. is (D x j.0) i.0) x b q none 0 L j.2 in
      ⊎_elim
      (λ (w : Open none 0 x). not_some w.1)
      (λ (w : (is (D x j.0) i.0 ≡ true) × (0 ≤ x) × (x < 0 + L)). (omega (arith, w.2), ap (D x) (sym r.0) ∙ is_of _ _ w.0 ∙ ap some r.1))
      r.2

  edges_of : (b q : ℕ) → parent_in (edges_for L time D fish) x b ≡ some q → D x b ≡ some q
  edges_of b q h = (edges_any b q (parent_of x b (edges_for L time D fish) q h)).1

  -- the forest read from the written edges is the forest that was written
  pub decode : x < L → ((b p : ℕ) → D x b ≡ some p → (mem b fish ≡ true) × (mem p fish ≡ true)) → (b : ℕ) → parent_in (edges_for L time D fish) x b ≡ D x b
  unfolding edges_for
  decode inside ends b = opt_ext (edges_of b) back
    where
      back : (q : ℕ) → D x b ≡ some q → parent_in (edges_for L time D fish) x b ≡ some q
      back q h =
          let m : _ = ends b q h in
          let a : Any (Cov x b q) (edges_for L time D fish) =
          any_each under q (sort (before time) fish) (mem_sort (before time) q fish ∙ m.1)
          (any_each (λ c. runs q c (λ x. is (D x c) q) none 0 L) b (sort ltb fish) (mem_sort ltb b fish ∙ m.0)
          (of_runs q b (λ x. is (D x b) q) x none 0 L (λ s g. not_some g) (inr (of_is (D x b) q h, omega arith, omega arith)))) in
          let r : _ = of_parent x b (edges_for L time D fish) q a in
          r.1 ∙ ap some (some_inj (edges_of b r.0 r.1) h)

-- ---- forests that agree below L are written alike

module _ (p c : ℕ) (f g : ℕ → Bool) where
  pub runs_same : (o : Option ℕ) (x k : ℕ) → ((y : ℕ) → y < x + k → f y ≡ g y) → runs p c f o x k ≡ runs p c g o x k
  unfolding runs
  runs_same o x zero h = refl
  runs_same o x (suc k) h = go (g x) refl (λ o'. runs_same o' (suc x) k (λ y l. h y (omega arith)))
    where
      go : (t : Bool) → g x ≡ t → ((o' : Option ℕ) → runs p c f o' (suc x) k ≡ runs p c g o' (suc x) k) → runs p c f o x (suc k) ≡ runs p c g o x (suc k)
      go true e ih = rw (h x (omega arith) ∙ e, runs) (rw (e, runs) (ih (opened o x)))
      go false e ih = rw (h x (omega arith) ∙ e, runs) (rw (e, runs) (ap (λ (r : List Edge). shut p c o x ++ r) (ih none)))

pub edges_same : (L : ℕ) (t u : ℕ → ℕ) (D E : ℕ → Par) (fish : List ℕ) → Distinct fish → ((b : ℕ) → mem b fish ≡ true → t b ≡ u b) → ((x : ℕ) → x < L → D x ≡ E x) →
    edges_for L t D fish ≡ edges_for L u E fish
unfolding edges_for
edges_same L t u D E fish d h s =
    ap (each (λ p. each (λ c. runs p c (λ x. is (D x c) p) none 0 L) (sort ltb fish))) (sort_same t u fish d h)
    ∙ ap (λ (f : ℕ → List Edge). each f (sort (before u) fish)) (fun_ext (λ p. ap (λ (f : ℕ → List Edge). each f (sort ltb fish))
    (fun_ext (λ c. runs_same p c (λ x. is (D x c) p) (λ x. is (E x c) p) none 0 L (λ y l. ap (λ (F : Par). is (F c) p) (s y (omega arith)))))))

-- ---- every written edge

module _ {Q : Edge → Type 0} (p c : ℕ) (f : ℕ → Bool) (q : (l r : ℕ) → Q (record { left = l; right = r; parent = p; child = c })) where
  all_shut : (o : Option ℕ) (x : ℕ) → All Q (shut p c o x)
  unfolding shut
  all_shut none x = done
  all_shut (some s) x = also (q s x) done

  pub all_runs : (o : Option ℕ) (x k : ℕ) → All Q (runs p c f o x k)
  unfolding runs
  all_runs o x zero = all_shut o x
  all_runs o x (suc k) = go (f x) refl (λ o'. all_runs o' (suc x) k)
    where
      go : (t : Bool) → f x ≡ t → ((o' : Option ℕ) → All Q (runs p c f o' (suc x) k)) → All Q (runs p c f o x (suc k))
      go true e ih = rw (e, runs) (ih _)
      go false e ih = rw (e, runs) (all_app (all_shut o x) (ih none))

-- every written edge is of two of the fish
pub edges_among : (L : ℕ) (time : ℕ → ℕ) (D : ℕ → Par) (fish : List ℕ) → All (λ (e : Edge). (mem e.parent fish ≡ true) × (mem e.child fish ≡ true)) (edges_for L time D fish)
unfolding edges_for
edges_among L time D fish = all_each (λ p. each (λ c. runs p c (λ x. is (D x c) p) none 0 L) (sort ltb fish)) (sort (before time) fish) (λ p m.
    all_each (λ c. runs p c (λ x. is (D x c) p) none 0 L) (sort ltb fish) (λ c k.
    all_runs p c (λ x. is (D x c) p) (λ _ _. (sym (mem_sort (before time) p fish) ∙ m, sym (mem_sort ltb c fish) ∙ k)) none 0 L))
