-- Where the cursors stand at x, the column of parents is the forest at x; and nothing changes up to the next end of an edge.
use mathlib.Core.Path.{◌≡◌, refl, sym, ap, subst, fun_ext, ◌∙◌}
use mathlib.Core.Bool.{Bool, true, false}
use mathlib.Core.List.{List}
use mathlib.Core.Option.{Option, none, some}
use mathlib.Core.Logic.{⊎_elim}
use Prim.Native.Nat.{ℕ, zero, suc, ◌+◌, ◌<◌, ◌≤◌}
use native.Mathlib.Omega.{arith}
use borrow.Author.Tests.{eq-eqb, eqb-true, le-leb, leb-true, lt-ltb, ltb-true}
use lib.Dec.{eqb, ltb, leb}
use lib.ListN.{length, get_or}
use Rattle.meaning.specs.Words.{and, at, rows, rows_from}
use Rattle.meaning.specs.Rows.{Edge, edges_of}
use Rattle.meaning.specs.Forest as def
use Rattle.meaning.specs.Forest.{parent_in}
use Rattle.laws.specs.Bools.{clash, and_of, and_yes, eq?, none_some}
use Rattle.bridge.specs.Parents.{parent_row}
use Rattle.mend.specs.Right as right
use Rattle.mend.specs.Line.{par_of}
use Rattle.tree.specs.Sweep.{Ahead, Holds, acts, Plan}
use Rattle.tree.specs.TreeAt.{columns}
use Rattle.mend.proofs.Reading.{lt?, of_par, no_parent, par_out}
use Rattle.tree.proofs.Seeing.{acts_of, of_acts, past_seen, next_seen, seen_past, seen_next}

-- ---- the forest of the definitions, by rows

module _ (l r pa ch : List ℕ) (x u : ℕ) where
  edge : ℕ → Edge
  edge i = record { left = at l i; right = at r i; parent = at pa i; child = at ch i }

  -- the edge row e is one of u at x
  pub record Over (e : ℕ) : Type 0 where
    pub of_child : get_or ch e 0 ≡ u
    pub begun : get_or l e 0 ≤ x
    pub not_over : x < get_or r e 0

  holds_of : (e : ℕ) → def.holds x u (edge e) ≡ true → Over e
  unfolding def.holds edge
  holds_of e h =
      let a : _ = and_of (eqb (at ch e) u) (and (leb (at l e) x) (ltb x (at r e))) h in
      let b : _ = and_of (leb (at l e) x) (ltb x (at r e)) a.1 in
      record { of_child = eqb-true _ _ a.0; begun = leb-true _ _ b.0; not_over = ltb-true _ _ b.1 }

  of_holds : (e : ℕ) → Over e → def.holds x u (edge e) ≡ true
  unfolding def.holds edge
  of_holds e o = and_yes (eq-eqb _ _ o.of_child) (and_yes (le-leb _ _ o.begun) (lt-ltb _ _ o.not_over))

  from_some : (i k p : ℕ) → parent_in (rows_from edge i k) x u ≡ some p → (e : ℕ) × (e < i + k) × Over e × (get_or pa e 0 ≡ p)
  unfolding parent_in rows_from edge
  from_some i zero p h = absurd (none_some refl h)
  from_some i (suc k) p h = go (def.holds x u (edge i)) refl (λ m. from_some (suc i) k p m)
    where
      go : (t : Bool) → def.holds x u (edge i) ≡ t → (parent_in (rows_from edge (suc i) k) x u ≡ some p → (e : ℕ) × (e < suc i + k) × Over e × (get_or pa e 0 ≡ p)) → (e : ℕ) × (e < i + suc k) × Over e × (get_or pa e 0 ≡ p)
      go true q ih = let s : some (get_or pa i 0) ≡ some p = rw (q, parent_in) at h in (i, omega arith, holds_of i q, (cc))
      go false q ih = let s : _ = ih (rw (q, parent_in) at h) in (s.0, omega (arith, s.1), s.2, s.3)

  from_none : (i k : ℕ) → parent_in (rows_from edge i k) x u ≡ none → (e : ℕ) → i ≤ e → e < i + k → Over e → ⊥
  unfolding parent_in rows_from edge
  from_none i zero h e a b o = omega arith
  from_none i (suc k) h e a b o = go (def.holds x u (edge i)) refl (λ m c d. from_none (suc i) k m e c d o)
    where
      go : (t : Bool) → def.holds x u (edge i) ≡ t → (parent_in (rows_from edge (suc i) k) x u ≡ none → suc i ≤ e → e < suc i + k → ⊥) → ⊥
      go true q ih = let s : some (get_or pa i 0) ≡ none = rw (q, parent_in) at h in none_some s refl
      go false q ih = ⊎_elim (λ (z : e ≡ i). clash (ap (λ (y : ℕ). def.holds x u (edge y)) (sym z) ∙ of_holds e o) q) (λ (z : e ≡ i → ⊥). ih (rw (q, parent_in) at h) (omega arith) (omega arith)) (eq? e i)

  pub parent_some : (p : ℕ) → parent_row (columns l r pa ch) x u ≡ some p → (e : ℕ) × (e < length l) × Over e × (get_or pa e 0 ≡ p)
  unfolding parent_row edges_of rows edge
  parent_some p h = let s : _ = from_some 0 (length l) p h in (s.0, omega (arith, s.1), s.2, s.3)

  pub parent_none : parent_row (columns l r pa ch) x u ≡ none → (e : ℕ) → e < length l → Over e → ⊥
  unfolding parent_row edges_of rows edge
  parent_none h e b o = from_none 0 (length l) h e (omega arith) (omega arith) o

-- ---- the edges that hold at x, by the cursors

module _ {T l r pa ch bl br : List ℕ} {n i j x : ℕ} (pl : Plan T l r pa ch bl br n) (ah : Ahead l r bl br i j (x + 1)) (e : ℕ) (he : e < length ch) where
  pub acts_over : acts bl br i j e ≡ true → Over l r pa ch x (get_or ch e 0) e
  acts_over a = let s : _ = acts_of bl br i j e a in record {
    of_child = refl;
    begun = omega (arith, past_seen pl.lefts ah.begun e s.0);
    not_over = omega (arith, next_seen pl.rights ah.ended e he s.1);
  }

  pub over_acts : get_or l e 0 ≤ x → x < get_or r e 0 → acts bl br i j e ≡ true
  over_acts a b = of_acts bl br i j e (seen_past pl.lefts ah.begun e he (omega arith)) (seen_next pl.rights ah.ended e (omega arith))

-- the column of parents, read as a forest, is the forest at x
pub placed : {T l r pa ch bl br P : List ℕ} {i j : ℕ} (x : ℕ) → Plan T l r pa ch bl br (length P) → Ahead l r bl br i j (x + 1) → Holds (acts bl br i j) ch pa P → length P ≤ right.none → par_of P ≡ parent_row (columns l r pa ch) x
placed {T} {l} {r} {pa} {ch} {bl} {br} {P} {i} {j} x pl ah ho few = fun_ext (λ u. go u (parent_row (columns l r pa ch) x u) refl)
  where
    go : (u : ℕ) (o : Option ℕ) → parent_row (columns l r pa ch) x u ≡ o → par_of P u ≡ parent_row (columns l r pa ch) x u
    go u (some p) q =
        let s : _ = parent_some l r pa ch x u p q in
        let he : s.0 < length ch = omega (arith, s.1, pl.checked.lefts) in
        let is : get_or P u 0 ≡ get_or pa s.0 0 = ap (λ (v : ℕ). get_or P v 0) (sym s.2.of_child) ∙ ho.yes s.0 he (over_acts pl ah s.0 he s.2.begun s.2.not_over) in
        of_par P u (omega (arith, pl.checked.child s.0 he, s.2.of_child)) (λ z. omega (arith, is, z, pl.checked.parent s.0 he)) ∙ ap some (is ∙ s.3) ∙ sym q
    go u none q = ⊎_elim
        (λ (l' : u < length P). no_parent P u l' (ho.nay u l' (λ e he a c. parent_none l r pa ch x u q e (omega (arith, pl.checked.lefts)) (subst (λ (v : ℕ). Over l r pa ch x v e) c (acts_over pl ah e he a)))) ∙ sym q)
        (λ (l' : length P ≤ u). par_out P u l' ∙ sym q)
        (lt? u (length P))

-- ---- nothing changes where no edge begins or ends

-- between two such positions the cursors stand right at each
pub ahead_between : {l r bl br : List ℕ} {i j x y z : ℕ} → Ahead l r bl br i j x → Ahead l r bl br i j y → x ≤ z → z ≤ y → Ahead l r bl br i j z
ahead_between a b h k = record {
  begun = record { within = a.begun.within; past = λ e m. omega (arith, a.begun.past e m); next = λ e m c. omega (arith, b.begun.next e m c) };
  ended = record { within = a.ended.within; past = λ e m. omega (arith, a.ended.past e m); next = λ e m c. omega (arith, b.ended.next e m c) };
}

-- from x up to the next change y the forest is the one at x
pub unchanged : {T l r pa ch bl br : List ℕ} {n i j x y z : ℕ} → Plan T l r pa ch bl br n → Ahead l r bl br i j (x + 1) → Ahead l r bl br i j y → x ≤ z → z < y → parent_row (columns l r pa ch) z ≡ parent_row (columns l r pa ch) x
unchanged {T} {l} {r} {pa} {ch} {bl} {br} {n} {i} {j} {x} {y} {z} pl a b h k = fun_ext (λ u. go u (parent_row (columns l r pa ch) z u) refl (parent_row (columns l r pa ch) x u) refl)
  where
    c : Ahead l r bl br i j (z + 1)
    c = ahead_between a b (omega arith) (omega arith)

    -- an edge of u at one of two such positions is one at the other
    carry : {v w : ℕ} (u e : ℕ) → Ahead l r bl br i j (v + 1) → Ahead l r bl br i j (w + 1) → e < length l → Over l r pa ch v u e → Over l r pa ch w u e
    carry {w = w} u e p q he o = let m : e < length ch = omega (arith, pl.checked.lefts) in subst (λ (t : ℕ). Over l r pa ch w t e) o.of_child (acts_over pl q e m (over_acts pl p e m o.begun o.not_over))

    go : (u : ℕ) (o : Option ℕ) → parent_row (columns l r pa ch) z u ≡ o → (o' : Option ℕ) → parent_row (columns l r pa ch) x u ≡ o' → parent_row (columns l r pa ch) z u ≡ parent_row (columns l r pa ch) x u
    go u none e none f = e ∙ sym f
    go u none e (some p) f = let s : _ = parent_some l r pa ch x u p f in absurd (parent_none l r pa ch z u e s.0 s.1 (carry u s.0 a c s.1 s.2))
    go u (some q) e none f = let s : _ = parent_some l r pa ch z u q e in absurd (parent_none l r pa ch x u f s.0 s.1 (carry u s.0 c a s.1 s.2))
    go u (some q) e (some p) f =
        let s : _ = parent_some l r pa ch z u q e in
        let t : _ = parent_some l r pa ch x u p f in
        let o : _ = carry u s.0 c a s.1 s.2 in
        let d : _ = t.2 in
        let hs : s.0 < length ch = omega (arith, s.1, pl.checked.lefts) in
        let ht : t.0 < length ch = omega (arith, t.1, pl.checked.lefts) in
        let same : s.0 ≡ t.0 = ⊎_elim (λ g. g) (λ g. absurd (⊎_elim (λ m. omega (arith, o.not_over, d.begun)) (λ m. omega (arith, d.not_over, o.begun)) (pl.checked.apart s.0 t.0 hs ht g (o.of_child ∙ sym d.of_child)))) (eq? s.0 t.0) in
        e ∙ ap some (sym s.3 ∙ ap (λ (v : ℕ). get_or pa v 0) same ∙ t.3) ∙ sym f
