-- What is found among a row's edges is its parent at the position, and how far that holds.
use mathlib.Core.Path.{◌≡◌, refl, sym, ap, subst, ◌∙◌}
use mathlib.Core.List.{List}
use mathlib.Core.Option.{Option, none, some}
use mathlib.Core.Logic.{◌⊎◌, inl, inr, ⊎_elim}
use Prim.Native.Nat.{ℕ, zero, suc, ◌-◌, ◌<◌, ◌≤◌}
use native.Mathlib.Omega.{arith}
use lib.ListN.{length}
use Rattle.meaning.specs.Words.{at}
use Rattle.meaning.specs.Rows.{EdgeColumns}
use Rattle.laws.specs.Bools.{eq?, some_inj, none_some}
use Rattle.bridge.specs.Parents.{code, parent_row}
use Rattle.ancestry.specs.Index.{begins, Indexed}
use Rattle.ancestry.specs.Stretch.{until, stretch_at}
use Rattle.ancestry.specs.Holds.{until_is}
use Rattle.ancestry.specs.Decided.{parent_decided, none_decided}
use Rattle.ancestry.specs.Lookup.{Places, Lefts, After, gap_end, none_until, Carried}
use Rattle.ancestry.specs.declared.Stretch.{Stretch}
use Rattle.ancestry.proofs.Finding.{gap_next, gap_over}

-- a is below b or from b on
below? : (a b : ℕ) → (a < b) ⊎ (b ≤ a)
below? zero zero = inr (omega arith)
below? zero (suc b) = inl (omega arith)
below? (suc a) zero = inr (omega arith)
below? (suc a) (suc b) = ⊎_elim (λ (l : a < b). inl (omega arith)) (λ (l : b ≤ a). inr (omega arith)) (below? a b)

-- ---- the places of a row's edges

module _ (E : EdgeColumns) (L : ℕ) (by closed : List ℕ) (ok : Indexed E L by closed) where
  before_own : (u p : ℕ) → u < length closed → p < begins closed u → at E.child (at by p) < u
  unfolding begins
  before_own zero p l h = absurd (omega arith)
  before_own (suc u) p l h = let g : at E.child (at by p) ≤ u = ok.ends.within u p (omega arith) h in omega arith

  from_own : (u p : ℕ) → u < length closed → begins closed u ≤ p → p < length by → u ≤ at E.child (at by p)
  unfolding begins
  from_own zero p l h k = omega arith
  from_own (suc u) p l h k = let g : u < at E.child (at by p) = ok.ends.past u p (omega arith) h k in omega arith

  begins_inside : (u : ℕ) → u < length closed → begins closed u ≤ length by
  unfolding begins
  begins_inside zero l = omega arith
  begins_inside (suc u) l = ok.ends.inside u (omega arith)

  module _ (u : ℕ) (l : u < length closed) where
    inside : (p : ℕ) → p < at closed u → p < length by
    inside p k = omega (arith, ok.ends.inside u l)

    own : (p : ℕ) → begins closed u ≤ p → p < at closed u → at E.child (at by p) ≡ u
    own p h k = omega (arith, ok.ends.within u p l k, from_own u p l h (inside p k))

    ordered : begins closed u ≤ at closed u
    ordered = ⊎_elim
        (λ (h : at closed u < begins closed u). absurd (within h (below? (at closed u) (length by))))
        (λ (h : begins closed u ≤ at closed u). h)
        (below? (at closed u) (begins closed u))
      where
        within : at closed u < begins closed u → (at closed u < length by) ⊎ (length by ≤ at closed u) → ⊥
        within h (inl k) = omega (arith, before_own u (at closed u) l h, ok.ends.past u (at closed u) l (omega arith) k)
        within h (inr k) = omega (arith, begins_inside u l)

    apart : (p q : ℕ) → begins closed u ≤ p → p < q → q < at closed u → at E.right (at by p) ≤ at E.left (at by q)
    apart p q h g k = ⊎_elim
        (λ (m : at E.child (at by p) < at E.child (at by q)). absurd (omega (arith, own p h (omega arith), own q (omega arith) k)))
        (λ (m : (at E.child (at by p) ≡ at E.child (at by q)) × (at E.right (at by p) ≤ at E.left (at by q))). m.1)
        (ok.order.order p q g (inside q k))

    all : (e : ℕ) → e < length E.left → at E.child e ≡ u → (p : ℕ) × (begins closed u ≤ p) × (p < at closed u) × (at by p ≡ e)
    all e m c =
        let r : _ = ok.order.place e m in
        let d : at E.child (at by r.0) ≡ u = ap (at E.child) r.2 ∙ c in
        (r.0, low r.0 d (below? r.0 (begins closed u)), high r.0 r.1 d (below? r.0 (at closed u)), r.2)
      where
        low : (p : ℕ) → at E.child (at by p) ≡ u → (p < begins closed u) ⊎ (begins closed u ≤ p) → begins closed u ≤ p
        low p d (inl k) = absurd (omega (arith, before_own u p l k))
        low p d (inr k) = k

        high : (p : ℕ) → p < length by → at E.child (at by p) ≡ u → (p < at closed u) ⊎ (at closed u ≤ p) → p < at closed u
        high p m d (inl k) = k
        high p m d (inr k) = absurd (omega (arith, ok.ends.past u p l k m))

    places_here : Places E L by u (begins closed u) (at closed u)
    places_here = record {
      inside = ok.ends.inside u l;
      order = ordered;
      row = λ p h k. ok.order.row p (inside p k);
      own = own;
      held = λ p h k. ok.whole.held (at by p) (ok.order.row p (inside p k));
      most = λ p h k. ok.whole.inside (at by p) (ok.order.row p (inside p k));
      apart = apart;
      all = all;
    }

    pub places : {low : ℕ} → low ≡ begins closed u → Places E L by u low (at closed u)
    places e = subst (λ (low : ℕ). Places E L by u low (at closed u)) (sym e) places_here

module _ (E : EdgeColumns) (L : ℕ) (by : List ℕ) (u low high : ℕ) (ok : Places E L by u low high) where
  rise : (p q : ℕ) → low ≤ p → p ≤ q → q < high → at E.left (at by p) ≤ at E.left (at by q)
  rise p q h g k = ⊎_elim
      (λ (e : p ≡ q). omega (arith, ap (λ i. at E.left (at by i)) e))
      (λ (e : p ≡ q → ⊥). omega (arith, ok.held p h (omega arith), ok.apart p q h (omega arith) k))
      (eq? p q)

  -- so do their ends
  ends_rise : (p q : ℕ) → low ≤ p → p ≤ q → q < high → at E.right (at by p) ≤ at E.right (at by q)
  ends_rise p q h g k = ⊎_elim
      (λ (e : p ≡ q). omega (arith, ap (λ i. at E.right (at by i)) e))
      (λ (e : p ≡ q → ⊥). omega (arith, ok.held q (omega arith) k, ok.apart p q h (omega arith) k))
      (eq? p q)

  pub lefts : (r : ℕ) → low ≤ r → r ≤ high → Lefts E.left by r high
  lefts r h k = record { inside = ok.inside; order = k; row = λ p g m. ok.row p (omega arith) m; rise = λ p q g m n. rise p q (omega arith) m n }

  -- an edge of the row stands before place r
  pub from_before : (r : ℕ) → low < r → r ≤ high → Lefts E.left by (r - 1) high × (r - 1 < high)
  from_before r h k = (lefts (r - 1) (omega arith) (omega arith), omega arith)

  -- ---- the parent at a position

  module _ (y : ℕ) where
    -- the edge at a place holds
    pub place_held : (p : ℕ) → low ≤ p → p < high → at E.left (at by p) ≤ y → y < at E.right (at by p) → parent_row E y u ≡ some (at E.parent (at by p))
    place_held p h k a b = go (parent_row E y u) refl
      where
        only : (q : ℕ) → low ≤ q → q < high → at E.left (at by q) ≤ y → y < at E.right (at by q) → q ≡ p
        only q g m c d = ⊎_elim
            (λ (z : q < p). absurd (omega (arith, ok.apart q p g z k)))
            (λ (z : p ≤ q). ⊎_elim (λ (w : q ≡ p). w) (λ (w : q ≡ p → ⊥). absurd (omega (arith, ok.apart p q h (omega arith) m))) (eq? q p))
            (below? q p)

        go : (o : Option ℕ) → parent_row E y u ≡ o → parent_row E y u ≡ some (at E.parent (at by p))
        go none e = absurd (none_decided E y u (at by p) e (record { row = ok.row p h k; own = ok.own p h k; begun = a; lasts = b }))
        go (some w) e =
            let r : _ = parent_decided E y u w e in
            let s : _ = ok.all r.0 r.1.row r.1.own in
            let q : s.0 ≡ p = only s.0 s.1 s.2 (omega (arith, ap (at E.left) s.3, r.1.begun)) (omega (arith, ap (at E.right) s.3, r.1.lasts)) in
            e ∙ ap some (sym r.2 ∙ ap (at E.parent) (sym s.3 ∙ ap (at by) q))

    -- those before r are over, and those from r on have not begun
    pub place_gap : (r : ℕ) → low ≤ r → r ≤ high → ((p : ℕ) → suc p ≡ r → low ≤ p → at E.right (at by p) ≤ y) → (r < high → y < at E.left (at by r)) → parent_row E y u ≡ none
    place_gap r h k a b = go (parent_row E y u) refl
      where
        missed : (q : ℕ) → low ≤ q → q < high → at E.left (at by q) ≤ y → y < at E.right (at by q) → (q < r) ⊎ (r ≤ q) → ⊥
        missed q g m c d (inl z) =
            let t : suc (r - 1) ≡ r = omega arith in
            omega (arith, a (r - 1) t (omega arith), ends_rise q (r - 1) g (omega arith) (omega arith))
        missed q g m c d (inr z) = let t : r < high = omega arith in omega (arith, b t, rise r q h z m)

        go : (o : Option ℕ) → parent_row E y u ≡ o → parent_row E y u ≡ none
        go none e = e
        go (some w) e =
            let s : _ = parent_decided E y u w e in
            let t : _ = ok.all s.0 s.1.row s.1.own in
            absurd (missed t.0 t.1 t.2 (omega (arith, ap (at E.left) t.3, s.1.begun)) (omega (arith, ap (at E.right) t.3, s.1.lasts)) (below? t.0 r))

  -- ---- the stretches

  stretch_is : (x : ℕ) {o : Option ℕ} {z : ℕ} → parent_row E x u ≡ o → until E L x u ≡ z → ◌≡◌ {A = Stretch} (record { parent = code o; end = z }) (stretch_at E L x u)
  stretch_is x e f = λ i. record { parent = code (sym e i); end = sym f i }

  module _ (x r : ℕ) (found : After E.left by low high x r) where
    -- the edge before r is over
    pub none_stretch : ((p : ℕ) → suc p ≡ r → low ≤ p → at E.right (at by p) ≤ x) → none_until L E.left by r high ≡ stretch_at E L x u
    unfolding code
    none_stretch over = stretch_is x (gap x (omega arith) next) (go (below? r high))
      where
        next : r < high → x < at E.left (at by r)
        next l = found.after r (omega arith) l

        gap : (y : ℕ) → x ≤ y → (r < high → y < at E.left (at by r)) → parent_row E y u ≡ none
        gap y l n = place_gap y r found.start found.inside (λ p e h. omega (arith, over p e h)) n

        go : (r < high) ⊎ (high ≤ r) → until E L x u ≡ gap_end L E.left by r high
        go (inl l) =
            let s : at E.left (at by r) < at E.right (at by r) = ok.held r found.start l in
            until_is E x u L (at E.left (at by r))
            (omega (arith, ok.most r found.start l))
            (λ y a b. gap y a (λ m. b) ∙ sym (gap x (omega arith) next))
            (λ m. (omega (arith, next l), λ e. none_some (gap x (omega arith) next) (sym e ∙ place_held (at E.left (at by r)) r found.start l (omega arith) s)))
            ∙ sym (gap_next L E.left by r high l)
        go (inr l) =
            until_is E x u L L (omega arith) (λ y a b. gap y a (λ m. absurd (omega arith)) ∙ sym (gap x (omega arith) next)) (λ m. absurd (omega arith))
            ∙ sym (gap_over L E.left by r high l)

  module _ (x p z : ℕ) (h : low ≤ p) (k : p < high) (a : at E.left (at by p) ≤ x) (b : x < at E.right (at by p)) (c : Carried E.left E.right E.parent by p high z) where
    -- each edge carried on to has the same parent
    carried_holds : (q : ℕ) → p ≤ q → q < c.place → (y : ℕ) → x ≤ y → y < at E.right (at by q) → parent_row E y u ≡ some (at E.parent (at by p))
    carried_holds zero g m y l n = place_held y p h k (omega arith) (let e : 0 ≡ p = omega arith in omega (arith, ap (λ i. at E.right (at by i)) e))
    carried_holds (suc q) g m y l n = ⊎_elim
        (λ (e : p ≡ suc q). place_held y p h k (omega arith) (omega (arith, ap (λ i. at E.right (at by i)) e)))
        (λ (e : p ≡ suc q → ⊥). ⊎_elim
        (λ (t : y < at E.left (at by (suc q))). carried_holds q (omega arith) (omega arith) y l (omega (arith, c.chain.touch q (omega arith) m)))
        (λ (t : at E.left (at by (suc q)) ≤ y). place_held y (suc q) (omega arith) (omega (arith, c.most)) t n ∙ ap some (c.chain.same (suc q) g m))
        (below? y (at E.left (at by (suc q)))))
        (eq? p (suc q))

    here : parent_row E x u ≡ some (at E.parent (at by p))
    here = place_held x p h k a b

    -- the last of them ends at z
    last_is : (q : ℕ) → suc q ≡ c.place → (p ≤ q) × (q < high) × (at E.right (at by q) ≡ z)
    last_is q e = (omega (arith, c.chain.some), omega (arith, c.most), c.chain.last q e)

    x_before : x < z
    x_before =
        let e : suc (c.place - 1) ≡ c.place = omega (arith, c.chain.some) in
        let r : _ = last_is (c.place - 1) e in
        omega (arith, r.2, ends_rise p (c.place - 1) h r.0 r.1)

    -- there it has another parent or none
    carried_other : parent_row E z u ≡ some (at E.parent (at by p)) → ⊥
    carried_other f = ⊎_elim
        (λ (l : c.place < high). ⊎_elim
        (λ (t : at E.left (at by c.place) ≡ z). c.stop l t (some_inj (place_held z c.place from l (omega arith) (omega (arith, ok.held c.place from l))) f))
        (λ (t : at E.left (at by c.place) ≡ z → ⊥). gone (λ m. omega (arith, touching l)))
        (eq? (at E.left (at by c.place)) z))
        (λ (l : high ≤ c.place). gone (λ m. absurd (omega arith)))
        (below? c.place high)
      where
        from : low ≤ c.place
        from = omega (arith, c.chain.some)

        before : suc (c.place - 1) ≡ c.place
        before = omega (arith, c.chain.some)

        touching : c.place < high → z ≤ at E.left (at by c.place)
        touching l = let r : _ = last_is (c.place - 1) before in omega (arith, r.2, ok.apart (c.place - 1) c.place (omega (arith, r.0)) (omega arith) l)

        gone : (c.place < high → z < at E.left (at by c.place)) → ⊥
        gone n = none_some (place_gap z c.place from c.most (λ q e g. omega (arith, (last_is q e).2)) n) f

    -- the edge at p holds at x
    pub some_stretch : ◌≡◌ {A = Stretch} (record { parent = at E.parent (at by p); end = z }) (stretch_at E L x u)
    unfolding code
    some_stretch =
        let e : suc (c.place - 1) ≡ c.place = omega (arith, c.chain.some) in
        let r : _ = last_is (c.place - 1) e in
        stretch_is x here (until_is E x u L z
        (omega (arith, r.2, ok.most (c.place - 1) (omega (arith, r.0)) r.1))
        (λ y l n. carried_holds (c.place - 1) r.0 (omega arith) y l (omega (arith, r.2)) ∙ sym here)
        (λ m. (omega (arith, x_before), λ f. carried_other (f ∙ here))))

  -- ---- what the cells read say

  module _ (x r : ℕ) (found : After E.left by low high x r) {v : ℕ} (e : v ≡ at E.right (at by (r - 1))) where
    -- the edge before place r is over
    pub over_stretch : v ≤ x → none_until L E.left by r high ≡ stretch_at E L x u
    over_stretch l = none_stretch x r found (λ p q h. let t : p ≡ r - 1 = omega arith in omega (arith, ap (λ i. at E.right (at by i)) t))

    -- it holds
    pub held_stretch : {w z : ℕ} → low < r → x < v → w ≡ at E.parent (at by (r - 1)) → Carried E.left E.right E.parent by (r - 1) high z → ◌≡◌ {A = Stretch} (record { parent = w; end = z }) (stretch_at E L x u)
    held_stretch {w} {z} l m f c = renamed f ∙ some_stretch x (r - 1) z (omega arith) (omega (arith, found.inside)) (found.before (r - 1) (omega arith) (omega arith)) (omega arith) c
      where
        renamed : w ≡ at E.parent (at by (r - 1)) → ◌≡◌ {A = Stretch} (record { parent = w; end = z }) (record { parent = at E.parent (at by (r - 1)); end = z })
        renamed f = λ i. record { parent = f i; end = z }
