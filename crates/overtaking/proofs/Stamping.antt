-- Stamping upwards, one step: where it stops, the stamps are as they should be, and where it goes on, what is asked next holds.
use mathlib.Core.Path.{◌≡◌, refl, sym, ap, ◌∙◌}
use mathlib.Core.Bool.{true}
use mathlib.Core.List.{List}
use mathlib.Core.Option.{Option, none, some}
use mathlib.Core.Logic.{◌⊎◌, inl, inr, ⊎_elim}
use Prim.Native.Nat.{ℕ, ◌<◌, ◌≤◌}
use native.Mathlib.Omega.{arith}
use lib.Dec.{eqb}
use lib.ListN.{length, set, length-set}
use lib.Seq.{get_or-set_same, get_or-set_other}
use borrow.Author.Tests.{eq-eqb, eqb-true}
use Rattle.meaning.specs.Words.{at}
use Rattle.meaning.specs.Rows.{EdgeColumns}
use Rattle.meaning.specs.Forest.{Par, Ages, ancestor}
use Rattle.laws.specs.Bools.{clash, eq?, some_inj, or_of, or_right}
use Rattle.bridge.specs.Parents.{no_row, code, parent_row}
use Rattle.ancestry.specs.Column.{older, Rising}
use Rattle.ancestry.specs.Rises.{parent_rises}
use Rattle.ancestry.specs.Older.{older_falls}
use Rattle.ancestry.specs.Ancestors.{Above, here, step, Aged, ancestor_of, ancestor_none, of_ancestor, ancestor_step}
use Rattle.overtaking.specs.Stamps.{stamped, StampedBut, Stampable, StampedUp}

-- a stamp that is put or was there stays
pub still_stamped : {A : Type 0} (t v : ℕ) (before after : List ℕ) → (at after v ≡ at before v) ⊎ ((at after v ≡ t) × A) → stamped t before v ≡ true → stamped t after v ≡ true
unfolding stamped
still_stamped t v before after (inl e) m = ap (λ c. eqb c t) e ∙ m
still_stamped t v before after (inr e) m = eq-eqb (at after v) t e.0

module _ (P : Par) (age : ℕ → ℕ) (ok : Aged P age) where
  -- what is above is older, or the same
  not_younger : {v p : ℕ} → Above P v p → age p ≤ age v
  not_younger here = omega arith
  not_younger (step e x) = omega (arith, ok.grows e, not_younger x)

  module _ (t b u : ℕ) (stamps : List ℕ) where
    -- no row is new: the ancestors that matter are stamped already
    stay : ((m : ℕ) → m ≤ b → StampedBut P age t m u stamps → (v : ℕ) → ancestor P v u ≡ true → age v ≤ m → stamped t stamps v ≡ true) → StampedUp P age t b u stamps stamps
    stay h = record {
      cell = λ v. inl refl;
      line = h;
      closed = λ m l k. record {
        parent = λ v p f y s. ⊎_elim
            (λ (q : v ≡ u). h m l k p (of_ancestor P age ok p u p (rw q at f) here) y)
            (λ (q : v ≡ u → ⊥). k.parent v p q f y s)
            (eq? v u);
      };
    }

    -- u has no parent
    pub stamp_none : P u ≡ none → StampedUp P age t b u stamps stamps
    stamp_none e = stay (λ m l k v h. absurd (clash h (ancestor_none P v u e)))

    -- u is as old as the bound: its ancestors are older
    pub stamp_reached : b ≤ age u → StampedUp P age t b u stamps stamps
    stamp_reached l = stay (λ m n k v h y. let r : _ = ancestor_of P v u h in absurd (omega (arith, ok.grows r.1, not_younger r.2)))

  module _ (t u p : ℕ) (e : P u ≡ some p) where
    -- above a stamped row that is older than u all is stamped up to the age m
    line_stamped : (m : ℕ) (stamps : List ℕ) → StampedBut P age t m u stamps → {v c : ℕ} → Above P v c → age u < age c → age v ≤ m → stamped t stamps c ≡ true → stamped t stamps v ≡ true
    line_stamped m stamps k here l y s = s
    line_stamped m stamps k (step {b = c} {p = q} f x) l y s = line_stamped m stamps k x (omega (arith, ok.grows f)) y (k.parent c q (λ z. absurd (let w : age c ≡ age u = ap age z in omega arith)) f (omega (arith, not_younger x)) s)

    -- u's parent is stamped already
    pub stamp_stop : (b : ℕ) (stamps : List ℕ) → stamped t stamps p ≡ true → StampedUp P age t b u stamps stamps
    stamp_stop b stamps s = stay t b u stamps (λ m l k v h y. let r : _ = ancestor_of P v u h in line_stamped m stamps k (rw (some_inj r.1 e) at r.2) (ok.grows e) y s)

-- ---- one more stamp

module _ (t : ℕ) (stamps : List ℕ) (p : ℕ) (h : p < length stamps) where
  set_stamped : stamped t (set stamps p t) p ≡ true
  unfolding stamped
  set_stamped = eq-eqb (at (set stamps p t) p) t (get_or-set_same stamps p t 0 h)

  set_other : (v : ℕ) → (v ≡ p → ⊥) → stamped t (set stamps p t) v ≡ stamped t stamps v
  unfolding stamped
  set_other v n = ap (λ c. eqb c t) (get_or-set_other stamps p v t 0 n)

  -- what was stamped is stamped
  set_keeps : (v : ℕ) → stamped t stamps v ≡ true → stamped t (set stamps p t) v ≡ true
  set_keeps v m = ⊎_elim (λ (q : v ≡ p). rw q set_stamped) (λ (q : v ≡ p → ⊥). set_other v q ∙ m) (eq? v p)

  module _ (P : Par) (age : ℕ → ℕ) (ok : Aged P age) (u : ℕ) (e : P u ≡ some p) where
    set_closed : (m : ℕ) → StampedBut P age t m u stamps → StampedBut P age t m p (set stamps p t)
    set_closed m k = record {
      parent = λ v q n f y s. ⊎_elim
          (λ (z : v ≡ u). rw (some_inj (rw z at f) e) set_stamped)
          (λ (z : v ≡ u → ⊥). set_keeps q (k.parent v q z f y (sym (set_other v n) ∙ s)))
          (eq? v u);
    }

    -- u's parent is stamped now, and what is above it after
    pub stamp_on : (b : ℕ) (after : List ℕ) → StampedUp P age t b p (set stamps p t) after → StampedUp P age t b u stamps after
    stamp_on b after g = record {
      cell = λ v. new v (g.cell v) (eq? v p);
      line = λ m l k v a y. ⊎_elim
          (λ (q : eqb v p ≡ true). still_stamped t v (set stamps p t) after (g.cell v) (rw (eqb-true v p q) set_stamped))
          (λ (q : ancestor P v p ≡ true). g.line m l (set_closed m k) v q y)
          (or_of (eqb v p) (ancestor P v p) (sym (ancestor_step P age ok v u p e) ∙ a));
      closed = λ m l k. g.closed m l (set_closed m k);
    }
      where
        new : (v : ℕ) → (at after v ≡ at (set stamps p t) v) ⊎ ((at after v ≡ t) × (ancestor P v p ≡ true)) → (v ≡ p) ⊎ (v ≡ p → ⊥) → (at after v ≡ at stamps v) ⊎ ((at after v ≡ t) × (ancestor P v u ≡ true))
        new v (inl q) (inl z) = inr (q ∙ ap (at (set stamps p t)) z ∙ get_or-set_same stamps p t 0 h, rw z (of_ancestor P age ok p u p e here))
        new v (inl q) (inr z) = inl (q ∙ get_or-set_other stamps p v t 0 z)
        new v (inr q) z = inr (q.0, ancestor_step P age ok v u p e ∙ or_right (eqb v p) (ancestor P v p) q.1)

-- ---- the loop upwards

-- times below Ages make the forest of rising edges aged
edges_aged : {time : List ℕ} {E : EdgeColumns} → Rising time E → (x : ℕ) → ((i : ℕ) → at time i < Ages) → Aged (parent_row E x) (at time)
edges_aged {time} {E} up x young = record { grows = λ {b} {p} e. (parent_rises time E up x b p e).2; bound = λ {b} {p} e. young p }

-- an ancestor is older
pub ancestor_older : {time : List ℕ} {E : EdgeColumns} → Rising time E → (x : ℕ) → ((i : ℕ) → at time i < Ages) → (v u : ℕ) → ancestor (parent_row E x) v u ≡ true → at time u < at time v
ancestor_older {time} {E} up x young v u h =
    let ok : Aged (parent_row E x) (at time) = edges_aged up x young in
    let r : _ = ancestor_of (parent_row E x) v u h in
    omega (arith, ok.grows r.1, not_younger (parent_row E x) (at time) ok r.2)

-- from u0 it has come to u
pub record Climbing (time : List ℕ) (E : EdgeColumns) (x t b : ℕ) (stamps₀ : List ℕ) (u0 : ℕ) (stamps : List ℕ) (u : ℕ) : Type 0 where
  pub long : length stamps ≡ length stamps₀
  pub here : Stampable time E stamps u
  pub onward : (after : List ℕ) → StampedUp (parent_row E x) (at time) t b u stamps after → StampedUp (parent_row E x) (at time) t b u0 stamps₀ after

pub climb_start : {time : List ℕ} {E : EdgeColumns} {x t b : ℕ} {stamps : List ℕ} {u : ℕ} → Stampable time E stamps u → Climbing time E x t b stamps u stamps u
climb_start k = record { long = refl; here = k; onward = λ after m. m }

module _ {time : List ℕ} {E : EdgeColumns} {x t b : ℕ} {stamps₀ : List ℕ} {u0 : ℕ} {stamps : List ℕ} {u : ℕ} (l : Climbing time E x t b stamps₀ u0 stamps u) where
  module _ (young : (i : ℕ) → at time i < Ages) where
    aged : Aged (parent_row E x) (at time)
    aged = edges_aged l.here.rising x young

    pub climb_reached : b ≤ at time u → StampedUp (parent_row E x) (at time) t b u0 stamps₀ stamps
    climb_reached m = l.onward stamps (stamp_reached (parent_row E x) (at time) aged t b u stamps m)

  module _ (p : ℕ) (c : p ≡ code (parent_row E x u)) where
    pub climb_top : ((i : ℕ) → at time i < Ages) → p ≡ no_row → StampedUp (parent_row E x) (at time) t b u0 stamps₀ stamps
    unfolding code
    climb_top young n = l.onward stamps (stamp_none (parent_row E x) (at time) (aged young) t b u stamps (none_is (parent_row E x u) refl))
      where
        none_is : (o : Option ℕ) → parent_row E x u ≡ o → o ≡ none
        none_is none e = refl
        none_is (some q) e = absurd (let z : code (parent_row E x u) ≡ q = ap code e in omega (arith, (parent_rises time E l.here.rising x u q e).1, l.here.few))

    module _ (n : p ≡ no_row → ⊥) where
      is_parent : parent_row E x u ≡ some p
      unfolding code
      is_parent = go (parent_row E x u) refl
        where
          go : (o : Option ℕ) → parent_row E x u ≡ o → parent_row E x u ≡ some p
          go none e = absurd (n (c ∙ ap code e))
          go (some q) e = e ∙ ap some (sym (c ∙ ap code e))

      pub climb_in : (p < length time) × (p < length stamps)
      climb_in = let i : _ = parent_rises time E l.here.rising x u p is_parent in (i.1, omega (arith, i.1, l.here.long))

      pub climb_falls : older time p < older time u
      climb_falls = let i : _ = parent_rises time E l.here.rising x u p is_parent in older_falls time u p i.1 i.2

      module _ (young : (i : ℕ) → at time i < Ages) where
        pub climb_met : at stamps p ≡ t → StampedUp (parent_row E x) (at time) t b u0 stamps₀ stamps
        unfolding stamped
        climb_met e = l.onward stamps (stamp_stop (parent_row E x) (at time) (aged young) t u p is_parent b stamps (eq-eqb (at stamps p) t e))

        pub climb_on : Climbing time E x t b stamps₀ u0 (set stamps p t) p
        climb_on = record {
          long = length-set stamps p t ∙ l.long;
          here = record { rising = l.here.rising; few = l.here.few; long = omega (arith, l.here.long, length-set stamps p t); row = climb_in.0 };
          onward = λ after m. l.onward after (stamp_on t stamps p climb_in.1 (parent_row E x) (at time) (aged young) u is_parent b after m);
        }
