-- The order of the rules: what a rule that refuses answers, what one that does not leaves, and what comes after.
use mathlib.Core.Path.{◌≡◌, refl, sym}
use mathlib.Core.Bool.{Bool, true, false}
use Prim.Native.Nat.{ℕ, ◌<◌}
use native.Mathlib.Omega.{arith}
use lib.Dec.{eqb, ltb}
use borrow.Author.Tests.{lt-ltb, le-ltb, eq-eqb, ne_eqb, ltb-false}
use Rattle.std.specs.Prelude.{Some, None}
use Rattle.meaning.specs.Words.{lowest, lowest_row}
use Rattle.meaning.specs.Answer.{Answer, answer, refuse, refuse_row, accepted}
use Rattle.laws.specs.Counting.{none_passes, lowest_row-some, lowest_row-none}
use Rattle.laws.specs.Bools.{clash}
use Rattle.rules.specs.Lengths.{refuse_table}

-- ---- one rule

pub refuse_yes : {t : Bool} (n r : ℕ) (rest : Answer) → t ≡ true → refuse t n r rest ≡ answer n r
unfolding refuse
refuse_yes n r rest e = rw (e, refuse)

pub refuse_no : {t : Bool} (n r : ℕ) (rest : Answer) → t ≡ false → refuse t n r rest ≡ rest
unfolding refuse
refuse_no n r rest e = rw (e, refuse)

-- a rule's answer is 0 only where it does not refuse and what comes after is 0
pub refuse_done : (t : Bool) (n r : ℕ) (rest : Answer) → eqb n 0 ≡ false → accepted (refuse t n r rest) ≡ true → (t ≡ false) × (accepted rest ≡ true)
unfolding refuse accepted
refuse_done true n r rest e h = absurd (clash h e)
refuse_done false n r rest e h = (refl, h)

module _ (f : ℕ → Bool) (n m : ℕ) (rest : Answer) where
  -- a row that the search gave
  pub row_found : (r : ℕ) → Some r ≡ lowest_row f m → refuse_row n f m rest ≡ answer n r
  unfolding refuse_row
  row_found r e = let q : r ≡ lowest f m = (lowest_row-some f m r e).2 in rw (sym q) (refuse_yes n r rest (lt-ltb r m (lowest_row-some f m r e).0))

  pub row_none : None ≡ lowest_row f m → refuse_row n f m rest ≡ rest
  unfolding refuse_row
  row_none e = let q : lowest f m ≡ m = lowest_row-none f m e in rw q (refuse_no n m rest (le-ltb m m (omega arith)))

  pub rows_done : eqb n 0 ≡ false → accepted (refuse_row n f m rest) ≡ true → ((j : ℕ) → j < m → f j ≡ false) × (accepted rest ≡ true)
  unfolding refuse_row
  rows_done e h =
      let d : _ = refuse_done (ltb (lowest f m) m) n (lowest f m) rest e h in
      (λ j l. none_passes f m j (ltb-false (lowest f m) m d.0) l, d.1)

-- a search that gave no row passed every row
pub none_found : (f : ℕ → Bool) (m : ℕ) → None ≡ lowest_row f m → (j : ℕ) → j < m → f j ≡ false
none_found f m e j k = none_passes f m j (omega (arith, lowest_row-none f m e)) k

-- t is the table that the lengths gave
module _ (n t r : ℕ) (rest : Answer) where
  pub table_found : r ≡ t → (r ≡ 0 → ⊥) → refuse_table n t rest ≡ answer n r
  table_found e z = rw (sym e) (refuse_yes n r rest (rw (ne_eqb r 0 z)))

  pub table_none : r ≡ t → r ≡ 0 → refuse_table n t rest ≡ rest
  table_none e z = rw (sym e) (refuse_no n r rest (rw (eq-eqb r 0 z)))
