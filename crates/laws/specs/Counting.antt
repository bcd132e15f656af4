-- Rows counted from 0: some row below n, the lowest row, the rows made by a function.
use Rattle.std.specs.Prelude.{◌≡◌, Bool, List, [], ◌∷◌, ◌++◌, map, ◌⊎◌, ltb, length, get_or, Option, Some, None, MatchOption}
use Rattle.std.proofs.Math.Path.{refl, ap}
use Rattle.std.proofs.Common.{sym, ap₂, ◌∙◌, inl, inr, ext_get_or}
use Rattle.std.proofs.Math.Bool.{true, false}
use Rattle.std.proofs.Math.Logic.{⊎_elim}
use Prim.Native.Nat.{ℕ, zero, suc, ◌+◌, ◌-◌, ◌<◌, ◌≤◌}
use Rattle.std.proofs.lemmas.Bool.{ltb-true, ltb-false, lt-ltb, le-ltb}
use native.Mathlib.Omega.{arith}
use Rattle.meaning.specs.Words.{at, any, any_below, lowest, lowest_from, lowest_row, row_below, rows, rows_from}
use Rattle.laws.specs.Bools.{clash, truth, eq?, bool_ext}

-- ---- some row below n

module _ (f : ℕ → Bool) where
  pub below_hit : (n : ℕ) → f n ≡ true → any_below f (suc n) ≡ true
  unfolding any_below
  below_hit n e = rw (e, any_below)

  pub below_miss : (n : ℕ) → f n ≡ false → any_below f (suc n) ≡ any_below f n
  unfolding any_below
  below_miss n e = rw (e, any_below)

  pub below_none : any_below f 0 ≡ false
  unfolding any_below
  below_none = refl

  pub below_of : (n : ℕ) → any_below f n ≡ true → (x : ℕ) × (x < n) × (f x ≡ true)
  below_of zero h = absurd (clash h below_none)
  below_of (suc n) h = go (f n) refl (λ k. below_of n k)
    where
      go : (t : Bool) → f n ≡ t → (any_below f n ≡ true → (x : ℕ) × (x < n) × (f x ≡ true)) → (x : ℕ) × (x < suc n) × (f x ≡ true)
      go true e ih = (n, omega arith, e)
      go false e ih = let r : _ = ih (sym (below_miss n e) ∙ h) in (r.0, omega (arith, r.1), r.2)

  pub of_below : (n x : ℕ) → x < n → f x ≡ true → any_below f n ≡ true
  of_below zero x l h = absurd (omega arith)
  of_below (suc n) x l h = go (f n) refl (λ k. of_below n x k h)
    where
      go : (t : Bool) → f n ≡ t → (x < n → any_below f n ≡ true) → any_below f (suc n) ≡ true
      go true e ih = below_hit n e
      go false e ih = below_miss n e ∙ ih (⊎_elim (λ (q : x ≡ n). absurd (clash (rw q at h) e)) (λ (q : x ≡ n → ⊥). omega arith) (eq? x n))

-- ---- a row where it is below n, and else none

pub row_some : {n r : ℕ} → r < n → row_below n r ≡ Some r
unfolding row_below
row_some {n} {r} l = rw (lt-ltb r n l, row_below)

pub row_none : {n r : ℕ} → n ≤ r → row_below n r ≡ None
unfolding row_below
row_none {n} {r} l = rw (le-ltb r n l, row_below)

-- what an answer says of the row
pub row_of-some : {n r i : ℕ} → row_below n r ≡ Some i → (i ≡ r) × (r < n)
unfolding row_below
row_of-some {n} {r} {i} e = go (ltb r n) refl
  where
    some_same : {a b : ℕ} → ◌≡◌ {A = Option ℕ} (Some a) (Some b) → a ≡ b
    some_same q = cc

    some_not : {a : ℕ} → ◌≡◌ {A = Option ℕ} None (Some a) → ⊥
    some_not q = let z : ◌≡◌ {A = ℕ} 0 1 = cc in omega arith

    go : (t : Bool) → ltb r n ≡ t → (i ≡ r) × (r < n)
    go true q = (sym (some_same (sym (row_some (ltb-true r n q)) ∙ e)), ltb-true r n q)
    go false q = absurd (some_not (sym (row_none (ltb-false r n q)) ∙ e))

pub row_of-none : {n r : ℕ} → row_below n r ≡ None → n ≤ r
unfolding row_below
row_of-none {n} {r} e = go (ltb r n) refl
  where
    none_not : {a : ℕ} → ◌≡◌ {A = Option ℕ} (Some a) None → ⊥
    none_not q = let z : ◌≡◌ {A = ℕ} 0 1 = cc in omega arith

    go : (t : Bool) → ltb r n ≡ t → n ≤ r
    go true q = absurd (none_not (sym (row_some (ltb-true r n q)) ∙ e))
    go false q = ltb-false r n q

-- ---- the lowest row

module _ (f : ℕ → Bool) where
  from_hit : (i k : ℕ) → f i ≡ true → lowest_from f i (suc k) ≡ i
  unfolding lowest_from
  from_hit i k e = rw (e, lowest_from)

  from_miss : (i k : ℕ) → f i ≡ false → lowest_from f i (suc k) ≡ lowest_from f (suc i) k
  unfolding lowest_from
  from_miss i k e = rw (e, lowest_from)

  from_none : (i : ℕ) → lowest_from f i 0 ≡ i
  unfolding lowest_from
  from_none i = refl

  -- a loop upwards keeps: the lowest from i on is the lowest of all
  abbrev pub Sought : ℕ → ℕ → Type 0
  Sought n i = lowest_from f i (n - i) ≡ lowest f n

  pub sought_start : (n : ℕ) → Sought n 0
  unfolding lowest
  sought_start n = let q : n - 0 ≡ n = omega arith in ap (lowest_from f 0) q

  pub sought_hit : (n i : ℕ) → i < n → Sought n i → f i ≡ true → i ≡ lowest f n
  sought_hit n i l s e = let q : suc (n - suc i) ≡ n - i = omega arith in sym (from_hit i (n - suc i) e) ∙ ap (lowest_from f i) q ∙ s

  pub sought_miss : (n i : ℕ) → i < n → Sought n i → f i ≡ false → Sought n (i + 1)
  sought_miss n i l s e =
      let a : i + 1 ≡ suc i = omega arith in
      let b : n - (i + 1) ≡ n - suc i = omega arith in
      let q : suc (n - suc i) ≡ n - i = omega arith in
      ap₂ (lowest_from f) a b ∙ sym (from_miss i (n - suc i) e) ∙ ap (lowest_from f i) q ∙ s

  pub sought_none : (n i : ℕ) → i ≤ n → n ≤ i → Sought n i → n ≡ lowest f n
  sought_none n i h l s =
      let a : n ≡ i = omega arith in
      let b : 0 ≡ n - i = omega arith in
      a ∙ sym (from_none i) ∙ ap (lowest_from f i) b ∙ s

  -- where a loop upwards ends: at a row that passes, which is the answer, or with none
  pub lowest_hit : (n i : ℕ) → i < n → Sought n i → f i ≡ true → Some i ≡ lowest_row f n
  lowest_hit n i l s e = let q : i ≡ lowest f n = sought_hit n i l s e in
      let k : lowest f n < n = omega (arith, q) in
      ap (λ (x : ℕ). Some x) q ∙ sym (row_some k)

  pub lowest_missed : (n i : ℕ) → i ≤ n → n ≤ i → Sought n i → None ≡ lowest_row f n
  lowest_missed n i h l s = let q : n ≡ lowest f n = sought_none n i h l s in
      let k : n ≤ lowest f n = omega (arith, q) in sym (row_none k)

  from_le : (i k : ℕ) → (i ≤ lowest_from f i k) × (lowest_from f i k ≤ i + k)
  from_le i zero = (omega (arith, from_none i), omega (arith, from_none i))
  from_le i (suc k) = go (f i) refl (from_le (suc i) k)
    where
      go : (t : Bool) → f i ≡ t → (suc i ≤ lowest_from f (suc i) k) × (lowest_from f (suc i) k ≤ suc i + k) → (i ≤ lowest_from f i (suc k)) × (lowest_from f i (suc k) ≤ i + suc k)
      go true e ih = (omega (arith, from_hit i k e), omega (arith, from_hit i k e))
      go false e ih = (omega (arith, from_miss i k e), omega (arith, from_miss i k e))

  from_before : (i k j : ℕ) → i ≤ j → j < lowest_from f i k → f j ≡ false
  from_before i zero j h l = absurd (omega (arith, from_none i))
  from_before i (suc k) j h l = go (f i) refl (λ a b. from_before (suc i) k j a b)
    where
      go : (t : Bool) → f i ≡ t → (suc i ≤ j → j < lowest_from f (suc i) k → f j ≡ false) → f j ≡ false
      go true e ih = absurd (omega (arith, from_hit i k e))
      go false e ih = ⊎_elim (λ (q : i ≡ j). rw q at e) (λ (q : i ≡ j → ⊥). ih (omega arith) (omega (arith, from_miss i k e))) (eq? i j)

  from_at : (i k : ℕ) → lowest_from f i k < i + k → f (lowest_from f i k) ≡ true
  from_at i zero l = absurd (omega (arith, from_none i))
  from_at i (suc k) l = go (f i) refl (λ a. from_at (suc i) k a)
    where
      go : (t : Bool) → f i ≡ t → (lowest_from f (suc i) k < suc i + k → f (lowest_from f (suc i) k) ≡ true) → f (lowest_from f i (suc k)) ≡ true
      go true e ih = rw (from_hit i k e) e
      go false e ih = rw (from_miss i k e) (ih (omega (arith, from_miss i k e)))

  pub lowest_le : (n : ℕ) → lowest f n ≤ n
  unfolding lowest
  lowest_le n = omega (arith, (from_le 0 n).1)

  -- no row before the lowest passes
  pub before_lowest : (n j : ℕ) → j < lowest f n → f j ≡ false
  unfolding lowest
  before_lowest n j l = from_before 0 n j (omega arith) l

  -- the lowest passes, where there is one
  pub lowest_passes : (n : ℕ) → lowest f n < n → f (lowest f n) ≡ true
  unfolding lowest
  lowest_passes n l = from_at 0 n (omega arith)

  -- where none is found, none passes
  pub none_passes : (n j : ℕ) → n ≤ lowest f n → j < n → f j ≡ false
  none_passes n j h l = before_lowest n j (omega arith)

  -- and the other way round
  pub lowest_none : (n : ℕ) → ((j : ℕ) → j < n → f j ≡ false) → lowest f n ≡ n
  lowest_none n h = ⊎_elim (λ (q : lowest f n ≡ n). q) (λ (q : lowest f n ≡ n → ⊥). let l : lowest f n < n = omega (arith, lowest_le n) in absurd (clash (lowest_passes n l) (h (lowest f n) l))) (eq? (lowest f n) n)

  -- the row that passes while none before it does is the lowest
  pub lowest_is : (n i : ℕ) → i < n → f i ≡ true → ((j : ℕ) → j < i → f j ≡ false) → lowest f n ≡ i
  lowest_is n i l e h = ⊎_elim
      (λ (q : lowest f n ≡ i). q)
      (λ (q : lowest f n ≡ i → ⊥). absurd (⊎_elim
      (λ (m : lowest f n < i). clash (lowest_passes n (omega arith)) (h (lowest f n) m))
      (λ (m : i < lowest f n). clash e (before_lowest n i m))
      (apart (lowest f n) i q)))
      (eq? (lowest f n) i)
    where
      apart : (a b : ℕ) → (a ≡ b → ⊥) → (a < b) ⊎ (b < a)
      apart zero zero n = absurd (n refl)
      apart zero (suc b) n = inl (omega arith)
      apart (suc a) zero n = inr (omega arith)
      apart (suc a) (suc b) n = ⊎_elim (λ (l : a < b). inl (omega arith)) (λ (l : b < a). inr (omega arith)) (apart a b (λ q. n (ap suc q)))

  -- the answer of a search in one step, as `find` gives it over a range
  pub lowest_found : (n : ℕ) (r : Option ℕ) → MatchOption r ((k : ℕ) → k < n → f k ≡ false) (λ i. (i < n) × (f i ≡ true) × ((k : ℕ) → k < i → f k ≡ false)) → r ≡ lowest_row f n
  lowest_found n None h = let k : n ≤ lowest f n = omega (arith, lowest_none n h) in sym (row_none k)
  lowest_found n (Some i) h = let q : i ≡ lowest f n = sym (lowest_is n i h.0 h.1 h.2) in
      let k : lowest f n < n = omega (arith, q, h.0) in
      ap (λ (x : ℕ). Some x) q ∙ sym (row_some k)

  -- what an answer says: of a row, that it passes and none before it does, and of none, that none does
  pub lowest_row-some : (n i : ℕ) → Some i ≡ lowest_row f n → (i < n) × (f i ≡ true) × (i ≡ lowest f n)
  lowest_row-some n i e = let w : (i ≡ lowest f n) × (lowest f n < n) = row_of-some (sym e) in
      (omega (arith, w.0, w.1), rw (w.0) (lowest_passes n w.1), w.0)

  pub lowest_row-none : (n : ℕ) → None ≡ lowest_row f n → lowest f n ≡ n
  lowest_row-none n e = let k : n ≤ lowest f n = row_of-none (sym e) in omega (arith, k, lowest_le n)

-- ---- rows made by a function

module _ {A : Type 0} (f : ℕ → A) where
  length_from : (i k : ℕ) → length (rows_from f i k) ≡ k
  unfolding rows_from
  length_from i zero = refl
  length_from i (suc k) = ap suc (length_from (suc i) k)

  pub length_rows : (n : ℕ) → length (rows f n) ≡ n
  unfolding rows
  length_rows n = length_from 0 n

  get_from : (d : A) (i k j : ℕ) → j < k → get_or (rows_from f i k) j d ≡ f (i + j)
  unfolding rows_from
  get_from d i zero j l = absurd (omega arith)
  get_from d i (suc k) zero l = let q : i ≡ i + 0 = omega arith in ap f q
  get_from d i (suc k) (suc j) l = let q : suc i + j ≡ i + suc j = omega arith in get_from d (suc i) k j (omega arith) ∙ ap f q

  pub get_rows : (d : A) (n j : ℕ) → j < n → get_or (rows f n) j d ≡ f j
  unfolding rows
  get_rows d n j l = let q : 0 + j ≡ j = omega arith in get_from d 0 n j l ∙ ap f q

-- a column is the rows of its own cells
pub rows_at : (l : List ℕ) → rows (at l) (length l) ≡ l
rows_at l = ext_get_or 0 (rows (at l) (length l)) l (length_rows (at l) (length l)) (λ i h. get_rows (at l) 0 (length l) i (omega (arith, length_rows (at l) (length l))))

map_from : {A B : Type 0} (g : A → B) (f : ℕ → A) (i k : ℕ) → map g (rows_from f i k) ≡ rows_from (λ j. g (f j)) i k
unfolding rows_from
map_from g f i zero = refl
map_from g f i (suc k) = ap (λ l. g (f i) ∷ l) (map_from g f (suc i) k)

-- a field of each row is the rows of that field
pub map_rows : {A B : Type 0} (g : A → B) (f : ℕ → A) (n : ℕ) → map g (rows f n) ≡ rows (λ j. g (f j)) n
unfolding rows
map_rows g f n = map_from g f 0 n

-- ---- some row made by a function

module _ {A : Type 0} (f : A → Bool) where
  any_nil : any f [] ≡ false
  unfolding any
  any_nil = refl

  pub any_hit : (a : A) (l : List A) → f a ≡ true → any f (a ∷ l) ≡ true
  unfolding any
  any_hit a l e = rw (e, any)

  pub any_miss : (a : A) (l : List A) → f a ≡ false → any f (a ∷ l) ≡ any f l
  unfolding any
  any_miss a l e = rw (e, any)

module _ {A : Type 0} (f : A → Bool) (g : ℕ → A) where
  row_of_any : (i k : ℕ) → any f (rows_from g i k) ≡ true → (j : ℕ) × (j < i + k) × (f (g j) ≡ true)
  unfolding rows_from
  row_of_any i zero h = absurd (clash h (any_nil f))
  row_of_any i (suc k) h = go (f (g i)) refl (λ q. row_of_any (suc i) k q)
    where
      go : (t : Bool) → f (g i) ≡ t → (any f (rows_from g (suc i) k) ≡ true → (j : ℕ) × (j < suc i + k) × (f (g j) ≡ true)) → (j : ℕ) × (j < i + suc k) × (f (g j) ≡ true)
      go true e ih = (i, omega arith, e)
      go false e ih = let r : _ = ih (sym (any_miss f (g i) (rows_from g (suc i) k) e) ∙ h) in (r.0, omega (arith, r.1), r.2)

  any_of_row : (i k j : ℕ) → i ≤ j → j < i + k → f (g j) ≡ true → any f (rows_from g i k) ≡ true
  unfolding rows_from
  any_of_row i zero j a b e = absurd (omega arith)
  any_of_row i (suc k) j a b e = go (f (g i)) refl (λ c d. any_of_row (suc i) k j c d e)
    where
      go : (t : Bool) → f (g i) ≡ t → (suc i ≤ j → j < suc i + k → any f (rows_from g (suc i) k) ≡ true) → any f (rows_from g i (suc k)) ≡ true
      go true q ih = any_hit f (g i) (rows_from g (suc i) k) q
      go false q ih =
          let n : i ≡ j → ⊥ = λ z. clash e (ap (λ (m : ℕ). f (g m)) (sym z) ∙ q) in
          any_miss f (g i) (rows_from g (suc i) k) q ∙ ⊎_elim (λ (z : i ≡ j). absurd (n z)) (λ (z : i ≡ j → ⊥). ih (omega arith) (omega arith)) (eq? i j)

  -- some of n rows passes exactly if a row below n does
  pub any_rows : (n : ℕ) → any f (rows g n) ≡ any_below (λ j. f (g j)) n
  unfolding rows
  any_rows n = bool_ext
      (λ h. let r : _ = row_of_any 0 n h in of_below (λ j. f (g j)) n r.0 (omega (arith, r.1)) r.2)
      (λ h. let r : _ = below_of (λ j. f (g j)) n h in any_of_row 0 n r.0 (omega arith) (omega (arith, r.1)) r.2)
