-- The two bytes of rows, one row after another.
use mathlib.Core.Path.{◌≡◌, refl, sym, ap, ◌∙◌}
use mathlib.Core.Bool.{Bool, true, false, not}
use mathlib.Core.List.{List}
use mathlib.Core.Logic.{◌⊎◌, inl, inr}
use mathlib.Core.Option.{Option, none, some}
use Prim.Native.Nat.{ℕ, ◌+◌, ◌<◌, ◌≤◌}
use native.Mathlib.Omega.{arith}
use lib.Dec.{eqb}
use lib.ListN.{length, set}
use lib.Seq.{get_or-set_same, get_or-set_other}
use borrow.Author.Tests.{eq-eqb, ne_eqb}
use Rattle.meaning.specs.Words.{at, or}
use Rattle.meaning.specs.Rows.{EdgeColumns}
use Rattle.meaning.specs.Allele.{found}
use Rattle.laws.specs.Bools.{clash, eq?, or_right}
use Rattle.bridge.specs.Parents.{parent_row}
use Rattle.overtaking.proofs.Knowing.{still_keeping}
use Rattle.missing.specs.Alone.{child_row}
use Rattle.carrying.specs.Told.{Upwards, Handed, Told, Owned, Carried}
use Rattle.carrying.specs.Column.{missing_by, told_by, state_by, flag_by, Ready, RowTold, RowsTold}
use Rattle.std.specs.Prelude.{Some, None}
use Rattle.std.specs.Option.{unwrap_or, is_some}
use mir.Val.{bool_byte}
use Rattle.std.specs.Prelude.{Option as Read}

-- ---- whether a row is missing

module _ (E : EdgeColumns) (x u : ℕ) where
  abbrev below : Bool
  below = child_row E.left E.right E.parent x u

  -- a mutation of its own
  pub by_mutation : (c t : ℕ) → c ≡ t → false ≡ missing_by E x (eqb c t) u
  unfolding missing_by
  by_mutation c t e = sym (ap not (or_right (found (parent_row E x u)) (or below (eqb c t)) (or_right below (eqb c t) (eq-eqb c t e))))

  -- a parent
  pub by_parent : {p : ℕ} (own : Bool) → parent_row E x u ≡ some p → false ≡ missing_by E x own u
  unfolding missing_by found
  by_parent own e = sym (ap (λ (o : Option ℕ). not (or (found o) (or below own))) e)

  -- neither: a child decides
  pub by_child : (c t : ℕ) → (c ≡ t → ⊥) → parent_row E x u ≡ none → (b : Bool) → b ≡ below → not b ≡ missing_by E x (eqb c t) u
  unfolding missing_by found
  by_child c t n e b d =
      ap not d
      ∙ plain below
      ∙ ap (λ o. not (or below o)) (sym (ne_eqb c t n))
      ∙ ap (λ (o : Option ℕ). not (or (found o) (or below (eqb c t)))) (sym e)
    where
      plain : (b : Bool) → not b ≡ not (or b false)
      plain true = refl
      plain false = refl

-- ---- one row

module _ (E : EdgeColumns) (x n t : ℕ) (own : List ℕ) (u : ℕ) (l : u < n) (r : Bool) (q : r ≡ missing_by E x (eqb (at own u) t) u) where
  missing_is : (K : ℕ → Bool) → Owned n t K own → missing_by E x (K u) u ≡ r
  missing_is K o = sym (q ∙ ap (λ b. missing_by E x b u) (o.cell u l))

  pub row_missing : {other : ℕ} {told₀ state₀ : List ℕ} → r ≡ true → RowTold E x n other t own told₀ state₀ u None told₀ state₀
  row_missing e = record {
    byte = λ K A h o k. sym (ap (λ b. told_by b (A u)) (missing_is K o ∙ e));
    still = λ K A h o k. k;
  }

  pub row_carried : r ≡ false → {other : ℕ} {told₀ state₀ : List ℕ} {s : ℕ} {told state : List ℕ} → Carried E x n other t u told₀ state₀ s told state → RowTold E x n other t own told₀ state₀ u (Some s) told state
  row_carried e c = record {
    byte = λ K A h o k. ap (λ (s : ℕ). Some s) (c.carried K A h k) ∙ sym (ap (λ b. told_by b (A u)) (missing_is K o ∙ e));
    still = λ K A h o k. c.still K A h k;
  }

-- ---- all rows

pub none_told : {E : EdgeColumns} {x n other t : ℕ} {own told state rows states flags : List ℕ} → RowsTold E x n other t own told state rows 0 states flags told state
none_told = record { byte = λ K A h o k j l. absurd (omega arith); mark = λ K A h o k j l. absurd (omega arith); still = λ K A h o k. k }

-- the bytes of what is told of a row
state_byte : (b : Bool) (a : ℕ) → unwrap_or (told_by b a) 0 ≡ state_by b a
state_byte true a = refl
state_byte false a = refl

flag_byte : (b c : Bool) (a : ℕ) → is_some (told_by b a) ≡ not c → bool_byte c ≡ flag_by b
flag_byte true true a e = refl
flag_byte true false a e = absurd (clash refl (sym e))
flag_byte false true a e = absurd (clash refl e)
flag_byte false false a e = refl

pub one_more : {E : EdgeColumns} {x n other t : ℕ} {own told₀ state₀ rows : List ℕ} {j : ℕ} {states flags told state : List ℕ} {r : Read ℕ} {s : ℕ} (c : Bool) {told' state' : List ℕ} → j < length states → j < length flags → s ≡ unwrap_or r 0 → is_some r ≡ not c → RowsTold E x n other t own told₀ state₀ rows j states flags told state → RowTold E x n other t own told state (at rows j) r told' state' → RowsTold E x n other t own told₀ state₀ rows (j + 1) (set states j s) (set flags j (bool_byte c)) told' state'
one_more {E} {x} {n} {other} {t} {own} {told₀} {state₀} {rows} {j} {states} {flags} {told} {state} {r} {s} c a b p q w f = record {
  byte = λ K A h o k i l. byte K A h o k i l (eq? i j);
  mark = λ K A h o k i l. mark K A h o k i l (eq? i j);
  still = λ K A h o k. f.still K A h o (w.still K A h o k);
}
  where
    byte : (K : ℕ → Bool) (A : ℕ → ℕ) → Handed E x n other K A → Owned n t K own → Told n t K A told₀ state₀ → (i : ℕ) → i < j + 1 → (i ≡ j) ⊎ (i ≡ j → ⊥) → at (set states j s) i ≡ state_by (missing_by E x (K (at rows i)) (at rows i)) (A (at rows i))
    byte K A h o k i l (inl z) =
        ap (at (set states j s)) z
        ∙ get_or-set_same states j s 0 a
        ∙ p
        ∙ ap (λ (q : Read ℕ). unwrap_or q 0) (f.byte K A h o (w.still K A h o k))
        ∙ state_byte (missing_by E x (K (at rows j)) (at rows j)) (A (at rows j))
        ∙ ap (λ (m : ℕ). state_by (missing_by E x (K (at rows m)) (at rows m)) (A (at rows m))) (sym z)
    byte K A h o k i l (inr z) = get_or-set_other states j i s 0 z ∙ w.byte K A h o k i (omega arith)

    mark : (K : ℕ → Bool) (A : ℕ → ℕ) → Handed E x n other K A → Owned n t K own → Told n t K A told₀ state₀ → (i : ℕ) → i < j + 1 → (i ≡ j) ⊎ (i ≡ j → ⊥) → at (set flags j (bool_byte c)) i ≡ flag_by (missing_by E x (K (at rows i)) (at rows i))
    mark K A h o k i l (inl z) =
        ap (at (set flags j (bool_byte c))) z
        ∙ get_or-set_same flags j (bool_byte c) 0 b
        ∙ flag_byte (missing_by E x (K (at rows j)) (at rows j)) c (A (at rows j)) (sym (ap (λ (q : Read ℕ). is_some q) (f.byte K A h o (w.still K A h o k))) ∙ q)
        ∙ ap (λ (m : ℕ). flag_by (missing_by E x (K (at rows m)) (at rows m))) (sym z)
    mark K A h o k i l (inr z) = get_or-set_other flags j i (bool_byte c) 0 z ∙ w.mark K A h o k i (omega arith)

pub all_told : {E : EdgeColumns} {x n other t : ℕ} {own told₀ state₀ rows : List ℕ} {j k : ℕ} {states flags told state : List ℕ} → k ≤ j → RowsTold E x n other t own told₀ state₀ rows j states flags told state → RowsTold E x n other t own told₀ state₀ rows k states flags told state
all_told m w = record { byte = λ K A h o q i l. w.byte K A h o q i (omega arith); mark = λ K A h o q i l. w.mark K A h o q i (omega arith); still = w.still }

-- columns of the same length will do
pub still_ready : {time : List ℕ} {E : EdgeColumns} {ends first past par kid own told state par' kid' told' state' : List ℕ} → length par' ≡ length par → length kid' ≡ length kid → length told' ≡ length told → length state' ≡ length state → Ready time E ends first past par kid own told state → Ready time E ends first past par' kid' own told' state'
still_ready p r a b k = record {
  asking = record {
    keeping = still_keeping p k.asking.keeping;
    rising = k.asking.rising;
    few = k.asking.few;
    spans = k.asking.spans;
    first_long = k.asking.first_long;
    past_long = k.asking.past_long;
    kid_long = omega (arith, k.asking.kid_long);
    own_long = k.asking.own_long;
  };
  told_long = omega (arith, k.told_long);
  state_long = omega (arith, k.state_long);
}

-- and the way up can be gone
pub ready_up : {time : List ℕ} {E : EdgeColumns} {ends first past par kid own told state : List ℕ} → Ready time E ends first past par kid own told state → Upwards time E ends par told state
ready_up k = record { keeping = k.asking.keeping; rising = k.asking.rising; few = k.asking.few; told_long = k.told_long; state_long = k.state_long }
