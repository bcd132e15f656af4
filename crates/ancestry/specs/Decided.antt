-- The edge rows that hold decide a row's parent: one that is found holds, and where none is found none does.
use Rattle.std.specs.Prelude.{◌≡◌, refl, Bool, true, false, eqb, leb, ltb, length}
use Rattle.std.proofs.Math.Option.{none, some}
use Rattle.std.proofs.Common.{⊎_elim, arith}
use Prim.Native.Nat.{ℕ, zero, suc, ◌+◌, ◌<◌, ◌≤◌}
use borrow.Author.Tests.{eq-eqb, eqb-true, le-leb, lt-ltb, leb-true, ltb-true}
use Rattle.meaning.specs.Words.{and, at, rows, rows_from}
use Rattle.meaning.specs.Rows.{EdgeColumns, Edge, edges_of}
use Rattle.meaning.specs.Forest.{holds, parent_in}
use Rattle.laws.specs.Bools.{clash, and_of, and_yes, eq?}
use Rattle.bridge.specs.Parents.{parent_row}

-- edge row i as it stands in the columns
abbrev pub row_of : EdgeColumns → ℕ → Edge
row_of E i = record { left = at E.left i; right = at E.right i; parent = at E.parent i; child = at E.child i }

-- a parent found is that of an edge row that holds
found_holds : (f : ℕ → Edge) (x u p i k : ℕ) → parent_in (rows_from f i k) x u ≡ some p → (e : ℕ) × (e < i + k) × (holds x u (f e) ≡ true) × ((f e).parent ≡ p)
unfolding parent_in rows_from
found_holds f x u p i zero h = absurd (let z : ◌≡◌ {A = ℕ} 0 1 = cc in omega arith)
found_holds f x u p i (suc k) h = go (holds x u (f i)) refl (λ m. found_holds f x u p (suc i) k m)
  where
    go : (t : Bool) → holds x u (f i) ≡ t → (parent_in (rows_from f (suc i) k) x u ≡ some p → (e : ℕ) × (e < suc i + k) × (holds x u (f e) ≡ true) × ((f e).parent ≡ p)) → (e : ℕ) × (e < i + suc k) × (holds x u (f e) ≡ true) × ((f e).parent ≡ p)
    go true t ih =
        let g : some (f i).parent ≡ some p = rw (t, parent_in) at h in
        (i, omega arith, t, cc)
    go false t ih = let r : _ = ih (rw (t, parent_in) at h) in (r.0, omega (arith, r.1), r.2, r.3)

-- where none is found, none holds
none_holds : (f : ℕ → Edge) (x u i k e : ℕ) → parent_in (rows_from f i k) x u ≡ none → i ≤ e → e < i + k → holds x u (f e) ≡ false
unfolding parent_in rows_from
none_holds f x u i zero e h a b = absurd (omega arith)
none_holds f x u i (suc k) e h a b = go (holds x u (f i)) refl (λ m c d. none_holds f x u (suc i) k e m c d)
  where
    go : (t : Bool) → holds x u (f i) ≡ t → (parent_in (rows_from f (suc i) k) x u ≡ none → suc i ≤ e → e < suc i + k → holds x u (f e) ≡ false) → holds x u (f e) ≡ false
    go true t ih = absurd (let g : some (f i).parent ≡ none = rw (t, parent_in) at h in let z : ◌≡◌ {A = ℕ} 0 1 = cc in omega arith)
    go false t ih = ⊎_elim (λ (q : i ≡ e). rw q at t) (λ (q : i ≡ e → ⊥). ih (rw (t, parent_in) at h) (omega arith) (omega arith)) (eq? i e)

module _ (E : EdgeColumns) (x u : ℕ) where
  -- edge row e is one of u's and holds at x
  pub record Deciding (e : ℕ) : Type 0 where
    pub row : e < length E.left
    pub own : at E.child e ≡ u
    pub begun : at E.left e ≤ x
    pub lasts : x < at E.right e

  pub parent_decided : (p : ℕ) → parent_row E x u ≡ some p → (e : ℕ) × Deciding e × (at E.parent e ≡ p)
  unfolding parent_row edges_of rows holds
  parent_decided p h =
      let r : _ = found_holds (row_of E) x u p 0 (length E.left) h in
      let e : ℕ = r.0 in
      let a : _ = and_of (eqb (at E.child e) u) (and (leb (at E.left e) x) (ltb x (at E.right e))) r.2 in
      let b : _ = and_of (leb (at E.left e) x) (ltb x (at E.right e)) a.1 in
      (e, record { row = omega (arith, r.1); own = eqb-true (at E.child e) u a.0; begun = leb-true (at E.left e) x b.0; lasts = ltb-true x (at E.right e) b.1 }, r.3)

  pub none_decided : (e : ℕ) → parent_row E x u ≡ none → Deciding e → ⊥
  unfolding parent_row edges_of rows holds
  none_decided e h d = clash
      (and_yes (eq-eqb (at E.child e) u d.own) (and_yes (le-leb (at E.left e) x d.begun) (lt-ltb x (at E.right e) d.lasts)))
      (none_holds (row_of E) x u 0 (length E.left) e h (omega arith) (omega (arith, d.row)))
