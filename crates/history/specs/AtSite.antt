-- Mutations at one site: which fish carry one, before and after mutations move, and the state of the last row.
use Rattle.std.specs.Prelude.{◌≡◌, true, ◌⊎◌, ℕ, eqb}
use Rattle.std.proofs.Math.Path.{refl}
use Rattle.std.proofs.Common.{sym, ap, ◌∙◌, ⊎_elim}
use Rattle.std.proofs.Math.Bool.{false}
use mathlib.Core.List.{List, [], ◌∷◌}
use Rattle.std.proofs.Math.Option.{Option, none, some}
use borrow.Author.Tests.{eqb-true, eq-eqb}
use Rattle.meaning.specs.Words.{any}
use Rattle.meaning.specs.Rows.{Mutation}
use Rattle.meaning.specs.Clean.{moved}
use Rattle.meaning.specs.Allele.{sits, last_state, carries}
use Rattle.laws.specs.Bools.{clash, truth, and_of, not_true}
use Rattle.laws.specs.Counting.{any_hit, any_miss}
use Rattle.laws.specs.Facts.{All, done, also}
use Rattle.history.specs.Lists.{all_both}
use Rattle.history.specs.Pairs.{put, Pairs, with_all}

module _ (i : ℕ) where
  pub sits_of : (b : ℕ) (m : Mutation) → sits i b m ≡ true → (m.site ≡ i) × (m.node ≡ b)
  unfolding sits
  sits_of b m h = let r : _ = and_of (eqb m.site i) (eqb m.node b) h in (eqb-true m.site i r.0, eqb-true m.node b r.1)

  pub of_sits : (b : ℕ) (m : Mutation) → m.site ≡ i → m.node ≡ b → sits i b m ≡ true
  unfolding sits
  of_sits b m e f = rw (eq-eqb m.site i e) (eq-eqb m.node b f)

  carries_now : (b : ℕ) (m : Mutation) (l : List Mutation) → sits i b m ≡ true → carries (m ∷ l) i b ≡ true
  unfolding carries
  carries_now b m l e = any_hit (sits i b) m l e

  carries_skip : (b : ℕ) (m : Mutation) (l : List Mutation) → sits i b m ≡ false → carries (m ∷ l) i b ≡ carries l i b
  unfolding carries
  carries_skip b m l e = any_miss (sits i b) m l e

  carries_later : (b : ℕ) (m : Mutation) (l : List Mutation) → carries l i b ≡ true → carries (m ∷ l) i b ≡ true
  carries_later b m l h = ⊎_elim (λ (e : sits i b m ≡ true). carries_now b m l e) (λ (e : sits i b m ≡ false). carries_skip b m l e ∙ h) (truth (sits i b m))

  pub carries_nil : (b : ℕ) → carries [] i b ≡ false
  unfolding carries any
  carries_nil b = refl

  -- the node of every mutation of the site carries one
  pub all_carry : (l : List Mutation) → All (λ (m : Mutation). m.site ≡ i → carries l i m.node ≡ true) l
  all_carry [] = done
  all_carry (m ∷ l) = also (λ e. carries_now m.node m l (of_sits m.node m e refl)) (widen l l (all_carry l))
    where
      widen : (n k : List Mutation) → All (λ (a : Mutation). a.site ≡ i → carries n i a.node ≡ true) k → All (λ (a : Mutation). a.site ≡ i → carries (m ∷ n) i a.node ≡ true) k
      widen n [] done = done
      widen n (a ∷ k) (also p x) = also (λ e. carries_later a.node m n (p e)) (widen n k x)

  -- what carries has a mutation of the site, of which what holds of all holds
  pub carries_pick : {Q : Mutation → Type 0} (b : ℕ) (l : List Mutation) → carries l i b ≡ true → All Q l → (m : Mutation) × (m.site ≡ i) × (m.node ≡ b) × Q m
  carries_pick b [] h done = absurd (clash h (carries_nil b))
  carries_pick b (m ∷ l) h (also q x) = ⊎_elim
      (λ (e : sits i b m ≡ true). let r : _ = sits_of b m e in (m, r.0, r.1, q))
      (λ (e : sits i b m ≡ false). carries_pick b l (sym (carries_skip b m l e) ∙ h) x)
      (truth (sits i b m))

  -- ---- mutations that moved

  module _ (pos : ℕ → ℕ) (G : ℕ → ℕ → Option ℕ) where
    moved_none : (m : Mutation) (l : List Mutation) → G (pos m.site) m.node ≡ none → moved pos G (m ∷ l) ≡ moved pos G l
    unfolding moved
    moved_none m l e = rw (e, moved)

    moved_some : (m : Mutation) (l : List Mutation) (w : ℕ) → G (pos m.site) m.node ≡ some w → moved pos G (m ∷ l) ≡ put m w ∷ moved pos G l
    unfolding moved
    moved_some m l w e = rw (e, moved)

    moved_nil : moved pos G [] ≡ []
    unfolding moved
    moved_nil = refl

    -- what carries a moved mutation has it from a fish that carried it
    pub carried_from : (w : ℕ) (l : List Mutation) → carries (moved pos G l) i w ≡ true → (u : ℕ) × (carries l i u ≡ true) × (G (pos i) u ≡ some w)
    carried_from w [] h = absurd (clash (ap (λ (l : List Mutation). carries l i w) (sym moved_nil) ∙ h) (carries_nil w))
    carried_from w (m ∷ l) h = go (G (pos m.site) m.node) refl (λ k. carried_from w l k)
      where
        later : (u : ℕ) × (carries l i u ≡ true) × (G (pos i) u ≡ some w) → (u : ℕ) × (carries (m ∷ l) i u ≡ true) × (G (pos i) u ≡ some w)
        later r = (r.0, carries_later r.0 m l r.1, r.2)

        go : (o : Option ℕ) → G (pos m.site) m.node ≡ o → (carries (moved pos G l) i w ≡ true → (u : ℕ) × (carries l i u ≡ true) × (G (pos i) u ≡ some w)) →
            (u : ℕ) × (carries (m ∷ l) i u ≡ true) × (G (pos i) u ≡ some w)
        go none e ih = later (ih (ap (λ (l : List Mutation). carries l i w) (sym (moved_none m l e)) ∙ h))
        go (some v) e ih = ⊎_elim
            (λ (f : sits i w (put m v) ≡ true). let r : _ = sits_of w (put m v) f in
            (m.node, carries_now m.node m l (of_sits m.node m r.0 refl), ap (λ (s : ℕ). G (pos s) m.node) (sym r.0) ∙ e ∙ ap some r.1))
            (λ (f : sits i w (put m v) ≡ false). later (ih (sym (carries_skip w (put m v) (moved pos G l) f) ∙ ap (λ (l : List Mutation). carries l i w) (sym (moved_some m l v e)) ∙ h)))
            (truth (sits i w (put m v)))

    -- a mutation that is moved is carried where it comes to
    pub carried_to : (u w : ℕ) (l : List Mutation) → carries l i u ≡ true → G (pos i) u ≡ some w → carries (moved pos G l) i w ≡ true
    carried_to u w [] h e = absurd (clash h (carries_nil u))
    carried_to u w (m ∷ l) h e = ⊎_elim here (λ (f : sits i u m ≡ false). later (carried_to u w l (sym (carries_skip u m l f) ∙ h) e)) (truth (sits i u m))
      where
        here : sits i u m ≡ true → carries (moved pos G (m ∷ l)) i w ≡ true
        here f =
            let r : _ = sits_of u m f in
            let g : G (pos m.site) m.node ≡ some w = (λ j. G (pos (r.0 j)) (r.1 j)) ∙ e in
            ap (λ (k : List Mutation). carries k i w) (moved_some m l w g) ∙ carries_now w (put m w) (moved pos G l) (of_sits w (put m w) r.0 refl)

        later : carries (moved pos G l) i w ≡ true → carries (moved pos G (m ∷ l)) i w ≡ true
        later k = go (G (pos m.site) m.node) refl
          where
            go : (o : Option ℕ) → G (pos m.site) m.node ≡ o → carries (moved pos G (m ∷ l)) i w ≡ true
            go none g = ap (λ (n : List Mutation). carries n i w) (moved_none m l g) ∙ k
            go (some v) g = ap (λ (n : List Mutation). carries n i w) (moved_some m l v g) ∙ carries_later w (put m v) (moved pos G l) k

  -- ---- the last row

  last_hit : (b : ℕ) (m : Mutation) (l : List Mutation) (o : ℕ) → sits i b m ≡ true → last_state i b (m ∷ l) o ≡ last_state i b l m.derived
  unfolding last_state
  last_hit b m l o e = rw (e, last_state)

  last_miss : (b : ℕ) (m : Mutation) (l : List Mutation) (o : ℕ) → sits i b m ≡ false → last_state i b (m ∷ l) o ≡ last_state i b l o
  unfolding last_state
  last_miss b m l o e = rw (e, last_state)

  last_any : (b : ℕ) (m : Mutation) (l : List Mutation) (o : ℕ) → (n : ℕ) × (last_state i b (m ∷ l) o ≡ last_state i b l n)
  last_any b m l o = ⊎_elim (λ (e : sits i b m ≡ true). (m.derived, last_hit b m l o e)) (λ (e : sits i b m ≡ false). (o, last_miss b m l o e)) (truth (sits i b m))

  -- where b carries none, the state is the other
  last_none : (b : ℕ) (l : List Mutation) (o : ℕ) → carries l i b ≡ false → last_state i b l o ≡ o
  unfolding last_state
  last_none b [] o h = refl
  last_none b (m ∷ l) o h =
      let e : sits i b m ≡ false = not_true (sits i b m) (λ k. clash (carries_now b m l k) h) in
      last_miss b m l o e ∙ last_none b l o (sym (carries_skip b m l e) ∙ h)

  -- u carries the lowest mutations of the site that come to w, and no later one is on a proper ancestor: the last row of u is the last row of w
  module _ (pos : ℕ → ℕ) (G : ℕ → ℕ → Option ℕ) (Proper : ℕ → ℕ → Type 0) (u w : ℕ) (goes : G (pos i) u ≡ some w) where
    -- a mutation n of the site that comes later than m is on no proper ancestor of m's node
    abbrev pub Under : Mutation → Mutation → Type 0
    Under m n = m.site ≡ i → n.site ≡ i → Proper n.node m.node → ⊥

    -- a mutation of the site that comes to w is on u or above it
    abbrev pub Comes : Mutation → Type 0
    Comes m = m.site ≡ i → G (pos i) m.node ≡ some w → (m.node ≡ u) ⊎ Proper m.node u

    no_more : (m : Mutation) (l : List Mutation) → sits i u m ≡ true → All (Under m) l → All Comes l → carries l i u ≡ false → carries (moved pos G l) i w ≡ false
    no_more m l f a c h = not_true (carries (moved pos G l) i w) (λ k.
        let r : _ = carried_from pos G w l k in
        let n : _ = carries_pick r.0 l r.1 (all_both a c) in
        let g : G (pos i) n.0.node ≡ some w = ap (G (pos i)) n.2 ∙ r.2 in
        let q : _ = sits_of u m f in
        ⊎_elim
        (λ (e : n.0.node ≡ u). clash (ap (carries l i) (sym e ∙ n.2) ∙ r.1) h)
        (λ (e : Proper n.0.node u). n.3.0 q.0 n.1 (over n.0.node q.1 e))
        (n.3.1 n.1 g))
      where
        over : (v : ℕ) → m.node ≡ u → Proper v u → Proper v m.node
        over v q e = rw q e

    pub last_moved : (l : List Mutation) → Pairs Under l → All Comes l → carries l i u ≡ true → (o p : ℕ) → last_state i w (moved pos G l) o ≡ last_state i u l p
    last_moved [] a c h o p = absurd (clash h (carries_nil u))
    last_moved (m ∷ l) (with_all a b) (also d c) h o p = ⊎_elim
        (λ (f : sits i u m ≡ true). hit f (truth (carries l i u)) (λ k. last_moved l b c k m.derived m.derived))
        (λ (f : sits i u m ≡ false). miss f (G (pos m.site) m.node) refl (λ n. last_moved l b c (sym (carries_skip u m l f) ∙ h) n p))
        (truth (sits i u m))
      where
        hit : sits i u m ≡ true → (carries l i u ≡ true) ⊎ (carries l i u ≡ false) →
            (carries l i u ≡ true → last_state i w (moved pos G l) m.derived ≡ last_state i u l m.derived) → last_state i w (moved pos G (m ∷ l)) o ≡ last_state i u (m ∷ l) p
        hit f t ih =
            let r : _ = sits_of u m f in
            let g : G (pos m.site) m.node ≡ some w = (λ j. G (pos (r.0 j)) (r.1 j)) ∙ goes in
            ap (λ (k : List Mutation). last_state i w k o) (moved_some pos G m l w g)
            ∙ last_hit w (put m w) (moved pos G l) o (of_sits w (put m w) r.0 refl)
            ∙ ⊎_elim ih (λ (k : carries l i u ≡ false). last_none w (moved pos G l) m.derived (no_more m l f a c k) ∙ sym (last_none u l m.derived k)) t
            ∙ sym (last_hit u m l p f)

        miss : sits i u m ≡ false → (v : Option ℕ) → G (pos m.site) m.node ≡ v → ((n : ℕ) → last_state i w (moved pos G l) n ≡ last_state i u l p) →
            last_state i w (moved pos G (m ∷ l)) o ≡ last_state i u (m ∷ l) p
        miss f none g ih = ap (λ (k : List Mutation). last_state i w k o) (moved_none pos G m l g) ∙ ih o ∙ sym (last_miss u m l p f)
        miss f (some v) g ih =
            let r : _ = last_any w (put m v) (moved pos G l) o in
            ap (λ (k : List Mutation). last_state i w k o) (moved_some pos G m l v g) ∙ r.1 ∙ ih r.0 ∙ sym (last_miss u m l p f)
