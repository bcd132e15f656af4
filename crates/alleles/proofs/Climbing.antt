-- The way up to the first marked row, step by step as the code takes it, and how far it holds.
use mathlib.Core.Path.{◌≡◌, refl, sym, ap, subst, ◌∙◌}
use mathlib.Core.Bool.{Bool, true, false}
use mathlib.Core.List.{List, [], ◌∷◌}
use mathlib.Core.Option.{Option, none, some}
use Prim.Native.Nat.{ℕ, zero, suc, ◌<◌, ◌≤◌, min}
use native.Mathlib.Omega.{arith}
use lib.Dec.{ltb}
use lib.ListN.{length}
use borrow.Author.Tests.{eq-eqb, ne_eqb}
use Rattle.meaning.specs.Words.{at, count, rows}
use Rattle.meaning.specs.Rows.{EdgeColumns}
use Rattle.meaning.specs.Forest.{Ages, near}
use Rattle.laws.specs.Counting.{length_rows, lowest_le}
use Rattle.bridge.specs.Parents.{no_row, code, parent_row}
use Rattle.bridge.specs.Rename.{near_here, near_top, near_step, near_inside}
use Rattle.ancestry.specs.declared.Stretch.{Stretch}
use Rattle.ancestry.specs.Column.{older}
use Rattle.ancestry.specs.Older.{older_falls}
use Rattle.missing.specs.Marks.{marked}
use Rattle.ancestry.specs.Rises.{parent_rises}
use Rattle.ancestry.specs.Stretch.{another, until, near_until, stretch_at}
use Rattle.std.specs.declared.ops.ControlFlow.{ControlFlow}
use Rattle.std.specs.declared.ops.ControlFlow.TheVariants.{Break, Continue}
use Rattle.std.specs.Prelude.{Some, None}
use Rattle.std.specs.Prelude.{Option as Found}
use Rattle.alleles.specs.declared.Carrier.{Carrier}
use Rattle.missing.specs.Climbable.{Climbable}
use Rattle.alleles.specs.Reading.{row_in, CarrierAt, carried_by}
use Rattle.alleles.specs.Stops.{Reached, Onward, Led}
use Rattle.alleles.specs.ByRows.{carried_none, carried_some}

pub lt_eq : {a b t : ℕ} → a < b → b ≡ t → a < t
lt_eq h e = omega arith

-- ---- how far the way holds, step by step

module _ (E : EdgeColumns) (L x : ℕ) (K : ℕ → Bool) where
  until_here : (k u : ℕ) → K u ≡ true → near_until E L x K k u ≡ L
  unfolding near_until
  until_here zero u e = refl
  until_here (suc k) u e = ap (λ (t : Bool). elim t [
    | true ↦ L
    | false ↦ elim (parent_row E x u) [ none ↦ until E L x u | some p ↦ min (until E L x u) (near_until E L x K k p) ]
  ]) e

  module _ (k u : ℕ) (e : K u ≡ false) where
    past : near_until E L x K (suc k) u ≡ elim (parent_row E x u) [ none ↦ until E L x u | some p ↦ min (until E L x u) (near_until E L x K k p) ]
    unfolding near_until
    past = ap (λ (t : Bool). elim t [
      | true ↦ L
      | false ↦ elim (parent_row E x u) [ none ↦ until E L x u | some p ↦ min (until E L x u) (near_until E L x K k p) ]
    ]) e

    until_top : parent_row E x u ≡ none → near_until E L x K (suc k) u ≡ until E L x u
    until_top h = past ∙ ap (λ (o : Option ℕ). elim o [ none ↦ until E L x u | some p ↦ min (until E L x u) (near_until E L x K k p) ]) h

    until_step : (p : ℕ) → parent_row E x u ≡ some p → near_until E L x K (suc k) u ≡ min (until E L x u) (near_until E L x K k p)
    until_step p h = past ∙ ap (λ (o : Option ℕ). elim o [ none ↦ until E L x u | some p ↦ min (until E L x u) (near_until E L x K k p) ]) h

  -- no stretch ends past the chromosome
  stretch_inside : (u : ℕ) → until E L x u ≤ L
  unfolding until
  stretch_inside u = lowest_le (another E x u) L

  until_end : (u : ℕ) → near_until E L x K zero u ≡ L
  unfolding near_until
  until_end u = refl

  pub until_inside : (k u : ℕ) → near_until E L x K k u ≤ L
  until_inside zero u = omega (arith, until_end u)
  until_inside (suc k) u = go (K u) refl (parent_row E x u) refl (λ p. until_inside k p)
    where
      go : (t : Bool) → K u ≡ t → (o : Option ℕ) → parent_row E x u ≡ o → ((p : ℕ) → near_until E L x K k p ≤ L) → near_until E L x K (suc k) u ≤ L
      go true e o h ih = omega (arith, until_here (suc k) u e)
      go false e none h ih = omega (arith, until_top k u e h, stretch_inside u)
      go false e (some p) h ih = omega (arith, until_step k u e p h, stretch_inside u)

-- ---- one row of the way

module _ {time : List ℕ} {E : EdgeColumns} {L : ℕ} {ends has : List ℕ} {u : ℕ} (ok : Climbable time E ends has u) (x least : ℕ) (in_l : least ≤ L) where
  -- the way ends at a marked row
  pub climb_here : at has u ≡ 1 → Reached time E L x has u least (record { row = Some u; end = least })
  unfolding marked row_in
  climb_here e =
      let m : marked has u ≡ true = eq-eqb (at has u) 1 e in
      record {
        found = λ k l. ap row_in (sym (near_here (parent_row E x) (marked has) k u m));
        until = λ k l. omega (arith, until_here E L x (marked has) k u m);
      }

  module _ (n : at has u ≡ 1 → ⊥) (s : Stretch) (q : s ≡ stretch_at E L x u) (m : ℕ) (e : m ≡ min least s.end) where
    unmarked : marked has u ≡ false
    unfolding marked
    unmarked = ne_eqb (at has u) 1 n

    cell : s.parent ≡ code (parent_row E x u)
    cell = ap (λ (s : Stretch). s.parent) q

    least_is : m ≡ min least (until E L x u)
    least_is = e ∙ ap (λ (s : Stretch). min least s.end) q

    -- and at a row that has no parent
    pub climb_top : s.parent ≡ no_row → Reached time E L x has u least (record { row = None; end = m })
    unfolding code row_in
    climb_top z = go (parent_row E x u) refl
      where
        go : (o : Option ℕ) → parent_row E x u ≡ o → Reached time E L x has u least (record { row = None; end = m })
        go none h = record { found = λ k l. ap row_in (sym (near_top (parent_row E x) (marked has) k u unmarked h)); until = top h }
          where
            top : parent_row E x u ≡ none → (k : ℕ) → older time u < k → m ≡ min least (near_until E L x (marked has) k u)
            top h zero l = absurd (omega arith)
            top h (suc k) l = least_is ∙ ap (min least) (sym (until_top E L x (marked has) k u unmarked h))
        go (some p) h = absurd (omega (arith, (parent_rises time E ok.rising x u p h).1, ok.few, z, cell, ap code h))

    module _ (z : s.parent ≡ no_row → ⊥) where
      parent : parent_row E x u ≡ some s.parent
      unfolding code
      parent = go (parent_row E x u) refl
        where
          go : (o : Option ℕ) → parent_row E x u ≡ o → parent_row E x u ≡ some s.parent
          go none h = absurd (z (cell ∙ ap code h))
          go (some p) h = h ∙ ap some (sym (cell ∙ ap code h))

      rises : (u < length time) × (s.parent < length time) × (at time u < at time s.parent)
      rises = parent_rises time E ok.rising x u s.parent parent

      -- else it is enough to go on from the parent
      pub climb_from : Onward time E L x has u least s.parent m
      climb_from = record { row = rises.1; fewer = fewer; inside = omega (arith, least_is); reached = λ r h. record { found = found r h; until = ends_at r h } }
        where
          fewer : older time s.parent < older time u
          fewer = older_falls time u s.parent rises.1 rises.2

          found : (r : Carrier) → Reached time E L x has s.parent m r → (k : ℕ) → older time u < k → r.row ≡ row_in (near (parent_row E x) (marked has) k u)
          found r h zero l = absurd (omega arith)
          found r h (suc k) l = h.found k (omega (arith, fewer)) ∙ ap row_in (sym (near_step (parent_row E x) (marked has) k u s.parent unmarked parent))

          ends_at : (r : Carrier) → Reached time E L x has s.parent m r → (k : ℕ) → older time u < k → r.end ≡ min least (near_until E L x (marked has) k u)
          ends_at r h zero l = absurd (omega arith)
          ends_at r h (suc k) l = omega (arith, h.until k (omega (arith, fewer)), least_is, until_step E L x (marked has) k u unmarked s.parent parent)

      pub climb_next : Climbable time E ends has s.parent × (m ≤ L)
      climb_next = (record { rising = ok.rising; few = ok.few; ends_long = ok.ends_long; long = ok.long; row = rises.1 }, climb_from.inside)

      -- what the climb from there tells is told from u
      pub climb_on : (r : ControlFlow Carrier (ℕ × ℕ)) → Led time E L x has s.parent m r → Led time E L x has u least r
      climb_on (Break r) h = climb_from.reached r h
      climb_on (Continue (p, l)) h = record { row = h.row; fewer = omega (arith, h.fewer, climb_from.fewer); inside = h.inside; reached = λ r g. climb_from.reached r (h.reached r g) }

-- ---- the loop over climbs

-- a climb from u has come to v, with the least end met
pub record Underway (time : List ℕ) (E : EdgeColumns) (L : ℕ) (ends has : List ℕ) (x u v least : ℕ) : Type 0 where
  pub climb : Climbable time E ends has v
  pub inside : least ≤ L
  pub reached : (r : Carrier) → Reached time E L x has v least r → CarrierAt time E L x has u r

pub begin : {time : List ℕ} {E : EdgeColumns} {L : ℕ} {ends has : List ℕ} {u : ℕ} → Climbable time E ends has u → (x : ℕ) → Underway time E L ends has x u u L
begin {time} {E} {L} {ends} {has} {u} ok x = record {
  climb = ok;
  inside = omega arith;
  reached = λ r h. record { found = h.found; until = λ k l. omega (arith, h.until k l, until_inside E L x (marked has) k u) };
}

module _ {time : List ℕ} {E : EdgeColumns} {L : ℕ} {ends has : List ℕ} {x u v least : ℕ} (w : Underway time E L ends has x u v least) (s : ControlFlow Carrier (ℕ × ℕ)) (h : Led time E L x has v least s) where
  pub told_done : {r : Carrier} → s ≡ Break r → CarrierAt time E L x has u r
  told_done {r} e = w.reached r (subst (λ (s : ControlFlow Carrier (ℕ × ℕ)). Led time E L x has v least s) e h)

  pub told_from : {p m : ℕ} → s ≡ Continue (p, m) → Onward time E L x has v least p m
  told_from e = subst (λ (s : ControlFlow Carrier (ℕ × ℕ)). Led time E L x has v least s) e h

  pub go_on : {p m : ℕ} → s ≡ Continue (p, m) → Underway time E L ends has x u p m
  go_on e =
      let o : _ = told_from e in
      record {
        climb = record { rising = w.climb.rising; few = w.climb.few; ends_long = w.climb.ends_long; long = w.climb.long; row = o.row };
        inside = o.inside;
        reached = λ r g. w.reached r (o.reached r g);
      }

-- ---- enough steps

count_few : (f : ℕ → Bool) (l : List ℕ) → count f l ≤ length l
unfolding count
count_few f [] = omega arith
count_few f (b ∷ l) = go (f b) refl (count_few f l)
  where
    go : (t : Bool) → f b ≡ t → count f l ≤ length l → count f (b ∷ l) ≤ length (b ∷ l)
    go true e ih = rw (e, count) (omega arith)
    go false e ih = rw (e, count) (omega arith)

-- no row has more older rows than there are rows
pub older_few : (time : List ℕ) (u : ℕ) → older time u ≤ length time
unfolding older
older_few time u = omega (arith, count_few (λ v. ltb (at time u) (at time v)) (rows (λ v. v) (length time)), length_rows (λ v. v) (length time))

-- ---- what was found on the way

some_same : {a b : ℕ} → ◌≡◌ {A = Found ℕ} (Some a) (Some b) → a ≡ b
some_same q = cc

some_not : {a : ℕ} → ◌≡◌ {A = Found ℕ} None (Some a) → ⊥
some_not q = let z : ◌≡◌ {A = ℕ} 0 1 = cc in omega arith

module _ {time : List ℕ} {E : EdgeColumns} {ends has : List ℕ} {u : ℕ} (ok : Climbable time E ends has u) (L x : ℕ) (r : Carrier) (h : CarrierAt time E L x has u r) where
  row_is : r.row ≡ row_in (near (parent_row E x) (marked has) Ages u)
  row_is = h.found Ages (omega (arith, older_few time u, ok.few))

  some_found : {w : ℕ} → r.row ≡ Some w → near (parent_row E x) (marked has) Ages u ≡ some w
  unfolding row_in
  some_found {w} e = go (near (parent_row E x) (marked has) Ages u) refl
    where
      go : (o : Option ℕ) → near (parent_row E x) (marked has) Ages u ≡ o → o ≡ some w
      go none q = absurd (some_not (sym (row_is ∙ ap row_in q) ∙ e))
      go (some v) q = ap some (some_same (sym (row_is ∙ ap row_in q) ∙ e))

  none_found : r.row ≡ None → near (parent_row E x) (marked has) Ages u ≡ none
  unfolding row_in
  none_found e = go (near (parent_row E x) (marked has) Ages u) refl
    where
      go : (o : Option ℕ) → near (parent_row E x) (marked has) Ages u ≡ o → o ≡ none
      go none q = refl
      go (some v) q = absurd (some_not (sym e ∙ row_is ∙ ap row_in q))

  -- a row that was found exists
  pub found_row : {w : ℕ} → r.row ≡ Some w → w < length time
  found_row {w} e = (near_inside (length time) (parent_row E x) (λ v p l q. (parent_rises time E ok.rising x v p q).1) (marked has) Ages u w ok.row (some_found e)).0

  pub found_state : (state : List ℕ) (other : ℕ) {w : ℕ} → r.row ≡ Some w → at state w ≡ carried_by E x has state other u
  found_state state other {w} e = sym (carried_some E x has state other u w (some_found e))

  pub found_nothing : (state : List ℕ) (other : ℕ) → r.row ≡ None → other ≡ carried_by E x has state other u
  found_nothing state other e = sym (carried_none E x has state other u (none_found e))
