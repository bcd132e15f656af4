-- The lowest of the rows found so far, as the loop over mutations in another order keeps it.
use mathlib.Core.Path.{◌≡◌, refl, sym, ap, ◌∙◌}
use mathlib.Core.Bool.{Bool, true, false}
use mathlib.Core.List.{List}
use mathlib.Core.Logic.{⊎_elim}
use Prim.Native.Nat.{ℕ, min, ◌+◌, ◌<◌, ◌≤◌}
use native.Mathlib.Omega.{arith}
use lib.Dec.{eqb, ltb}
use lib.ListN.{length}
use borrow.Author.Tests.{eq-eqb, eqb-true, ltb-true, ltb-false}
use Rattle.std.specs.Prelude.{Some, None}
use Rattle.std.specs.Bool.{then_some}
use Rattle.meaning.specs.Words.{and, at, any_below, lowest, row_below}
use Rattle.meaning.specs.Rows.{EdgeColumns}
use Rattle.laws.specs.Bools.{clash, eq?, and_of, and_yes, not_true}
use Rattle.laws.specs.Counting.{below_of, of_below, lowest_is, lowest_none}
use Rattle.overtaking.specs.Overtaken.{overtaken, overtaken_row}

-- of the first i tests, those that pass have rows from least on, and one has it where it is below n
pub record Least (f : ℕ → Bool) (row : List ℕ) (n i least : ℕ) : Type 0 where
  pub top : least ≤ n
  pub all : (j : ℕ) → j < i → f j ≡ true → least ≤ at row j
  pub one : least < n → (j : ℕ) × (j < i) × (f j ≡ true) × (at row j ≡ least)

pub least_start : (f : ℕ → Bool) (row : List ℕ) (n : ℕ) → Least f row n 0 n
least_start f row n = record { top = omega arith; all = λ j l. absurd (omega arith); one = λ l. absurd (omega arith) }

module _ {f : ℕ → Bool} {row : List ℕ} {n i least : ℕ} (k : Least f row n i least) where
  pub least_hit : (next : ℕ) → next ≡ min least (at row i) → f i ≡ true → Least f row n (i + 1) next
  least_hit next q e = record {
    top = omega (arith, k.top);
    all = λ j l h. ⊎_elim (λ (z : j ≡ i). omega (arith, ap (at row) z)) (λ (z : j ≡ i → ⊥). omega (arith, k.all j (omega arith) h)) (eq? j i);
    one = λ l. go l (ltb (at row i) least) refl;
  }
    where
      go : next < n → (t : Bool) → ltb (at row i) least ≡ t → (j : ℕ) × (j < i + 1) × (f j ≡ true) × (at row j ≡ next)
      go l true h = (i, omega arith, e, omega (arith, ltb-true (at row i) least h))
      go l false h = let r : _ = k.one (omega (arith, ltb-false (at row i) least h)) in (r.0, omega (arith, r.1), r.2, omega (arith, r.3, ltb-false (at row i) least h))

  pub least_miss : f i ≡ false → Least f row n (i + 1) least
  least_miss e = record {
    top = k.top;
    all = λ j l h. ⊎_elim (λ (q : j ≡ i). absurd (clash h (ap f q ∙ e))) (λ (q : j ≡ i → ⊥). k.all j (omega arith) h) (eq? j i);
    one = λ l. let r : _ = k.one l in (r.0, omega (arith, r.1), r.2, r.3);
  }

module _ (E : EdgeColumns) (position site node row : List ℕ) where
  abbrev g : ℕ → ℕ → Bool
  g k i = and (eqb (at row i) k) (overtaken E position site node i)

  -- after all rows it is the lowest row that is overtaken
  pub least_stop : (i least : ℕ) → i ≤ length site → length site ≤ i → Least (overtaken E position site node) row (length site) i least → least ≡ lowest (overtaken_row E position site node row) (length site)
  unfolding overtaken_row
  least_stop i least a b k = ⊎_elim
      (λ (q : least ≡ length site). q ∙ sym (lowest_none (overtaken_row E position site node row) (length site) (λ j l. none j (omega arith))))
      (λ (q : least ≡ length site → ⊥).
      let r : _ = k.one (omega (arith, k.top)) in
      sym (lowest_is (overtaken_row E position site node row) (length site) least (omega (arith, k.top)) (of_below (g least) (length site) r.0 (omega (arith, r.1)) (and_yes (eq-eqb _ _ r.3) r.2)) none))
      (eq? least (length site))
    where
      none : (j : ℕ) → j < least → any_below (g j) (length site) ≡ false
      none j l = not_true (any_below (g j) (length site)) (λ h.
          let r : _ = below_of (g j) (length site) h in
          let s : _ = and_of (eqb (at row r.0) j) (overtaken E position site node r.0) r.2 in
          absurd (omega (arith, k.all r.0 (omega (arith, r.1)) s.1, eqb-true (at row r.0) j s.0)))

-- the least row found, where there is one
pub then_row : (n r : ℕ) → then_some (ltb r n) r ≡ row_below n r
unfolding row_below
then_row n r = go (ltb r n)
  where
    go : (t : Bool) → then_some t r ≡ elim t [ true ↦ Some r | false ↦ None ]
    go true = refl
    go false = refl
