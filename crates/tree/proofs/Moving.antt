-- A sweep starts with no edge, moves from change to change, and finds the next change.
use mathlib.Core.Path.{◌≡◌, refl, sym, ap, subst, ◌∙◌}
use mathlib.Core.Bool.{Bool, true, false}
use mathlib.Core.List.{List}
use mathlib.Core.Logic.{◌⊎◌, inl, inr, ⊎_elim}
use Prim.Native.Nat.{ℕ, min, zero, suc, ◌+◌, ◌%◌, ◌<◌, ◌≤◌}
use native.Mathlib.Omega.{arith}
use borrow.Author.Tests.{lt-ltb, le-ltb, ne_eqb}
use lib.ListN.{length, get_or}
use Rattle.meaning.specs.Words.{rows}
use Rattle.mend.specs.Right as right
use Rattle.mend.specs.Right.{W, total, one, row, live, stands, feeds, Grows}
use Rattle.mend.specs.Line.{par_of, Low, here, root}
use Rattle.mend.specs.Kept.{Mended, Kept, Filled}
use Rattle.tree.specs.Sweep.{Index, Cut, Ahead, seen, Plan, Between, Swept, next_key, next_change}
use Rattle.mend.proofs.Reading.{lt?, live_cases, stands_sample, no_parent, opt_none}
use Rattle.laws.specs.Bools.{clash}
use Rattle.laws.specs.Counting.{length_rows, get_rows}
use Rattle.tree.proofs.Reaching.{no_row, no_life}
use Rattle.tree.proofs.Seeing.{not_begun}
use Rattle.tree.proofs.Sweeping.{plan_on, cut_wide}

-- ---- from one change to the next

pub set_off : {T S P C M D U l r pa ch bl br : List ℕ} {i j x : ℕ} → Swept T S P C M D U l r pa ch bl br i j x → Between l r pa ch bl br P i j x x x (x + 1)
set_off sw = record { begun = sw.ahead.begun; ended = cut_wide (omega arith) sw.ahead.ended; holds = sw.holds }

pub turn : {l r pa ch bl br P : List ℕ} {i j x : ℕ} → Between l r pa ch bl br P i j x x (x + 1) (x + 1) → Between l r pa ch bl br P i j x (x + 1) (x + 1) (x + 1)
turn bt = record { begun = cut_wide (omega arith) bt.begun; ended = bt.ended; holds = bt.holds }

pub arrive : {T S P C M D U l r pa ch bl br : List ℕ} {n i j m : ℕ} (y : ℕ) → n ≡ length P → m ≡ j → Kept T S P C M D U → Plan T l r pa ch bl br n → Between l r pa ch bl br P i j y y y y → Swept T S P C M D U l r pa ch bl br i m y
arrive y e f k pl bt = rw f (record { kept = k; plan = plan_on (sym e) pl; ahead = record { begun = bt.begun; ended = bt.ended }; holds = bt.holds })

-- ---- the next change

module _ (key b : List ℕ) (i most : ℕ) where
  pub key_past : length b ≤ i → next_key key b i most ≡ most
  unfolding next_key
  key_past l = rw (le-ltb i (length b) l, next_key)

  pub key_low : i < length b → get_or key (get_or b i 0) 0 < most → next_key key b i most ≡ get_or key (get_or b i 0) 0
  unfolding next_key
  key_low l h = rw (lt-ltb i (length b) l, next_key) (rw (lt-ltb (get_or key (get_or b i 0) 0) most h))

  pub key_high : i < length b → most ≤ get_or key (get_or b i 0) 0 → next_key key b i most ≡ most
  unfolding next_key
  key_high l h = rw (lt-ltb i (length b) l, next_key) (rw (le-ltb (get_or key (get_or b i 0) 0) most h))

  -- the lesser of the key at the cursor and `most`
  pub key_least : i < length b → min (get_or key (get_or b i 0) 0) most ≡ next_key key b i most
  key_least l = ⊎_elim
      (λ (h : get_or key (get_or b i 0) 0 < most). omega (arith, key_low l h))
      (λ (h : most ≤ get_or key (get_or b i 0) 0). omega (arith, key_high l h))
      (lt? (get_or key (get_or b i 0) 0) most)

  -- it is at most the key at the cursor, at most `most`, and no less than what both are no less than
  bounds : (y : ℕ) → y ≤ most → (i < length b → y ≤ get_or key (get_or b i 0) 0) → (y ≤ next_key key b i most) × (next_key key b i most ≤ most) × (i < length b → next_key key b i most ≤ get_or key (get_or b i 0) 0)
  bounds y a c = go (lt? i (length b)) (lt? (get_or key (get_or b i 0) 0) most)
    where
      go : (i < length b) ⊎ (length b ≤ i) → (get_or key (get_or b i 0) 0 < most) ⊎ (most ≤ get_or key (get_or b i 0) 0) → (y ≤ next_key key b i most) × (next_key key b i most ≤ most) × (i < length b → next_key key b i most ≤ get_or key (get_or b i 0) 0)
      go (inr l) h = let e : _ = key_past l in (omega arith, omega arith, λ m. absurd (omega arith))
      go (inl l) (inl h) = let e : _ = key_low l h in (omega (arith, c l), omega arith, λ m. omega arith)
      go (inl l) (inr h) = let e : _ = key_high l h in (omega arith, omega arith, λ m. omega arith)

cut_move : {key b : List ℕ} {i m y : ℕ} (z : ℕ) → Index key b m → Cut key b i y y → y ≤ z → (i < length b → z ≤ get_or key (get_or b i 0) 0) → Cut key b i z z
cut_move {key} {b} {i} z ix c h k = record {
  within = c.within;
  past = λ e l. omega (arith, c.past e l);
  next = λ e a l. omega (arith, k (omega arith), ix.sorted i e a l);
}

-- up to the next change nothing begins or ends, and it is no earlier than where the sweep is
pub next_ahead : {T l r pa ch bl br : List ℕ} {n i j y : ℕ} (len : ℕ) → Plan T l r pa ch bl br n → Ahead l r bl br i j y → y ≤ len → Ahead l r bl br i j (next_change l r bl br i j len) × (y ≤ next_change l r bl br i j len) × (next_change l r bl br i j len ≤ len)
unfolding next_change
next_ahead {T} {l} {r} {pa} {ch} {bl} {br} {n} {i} {j} {y} len pl ah h =
    let a : _ = bounds l bl i len y h (λ m. ah.begun.next i (omega arith) m) in
    let b : _ = bounds r br j (next_key l bl i len) y a.0 (λ m. ah.ended.next j (omega arith) m) in
    (record { begun = cut_move _ pl.lefts ah.begun b.0 (λ m. omega (arith, a.2 m, b.1)); ended = cut_move _ pl.rights ah.ended b.0 b.2 }, b.0, omega (arith, a.1, b.1))

-- the order by left, and by right, for the columns alone
pub lefts_index : {T l r pa ch bl br : List ℕ} {n : ℕ} → Plan T l r pa ch bl br n → Index l bl (length l)
lefts_index {l = l} {bl = bl} pl = rw pl.checked.lefts pl.lefts

pub rights_index : {T l r pa ch bl br : List ℕ} {n : ℕ} → Plan T l r pa ch bl br n → Index r br (length r)
rights_index {r = r} {br = br} pl = rw pl.checked.rights pl.rights

-- ---- the start

total_nothing : (w : ℕ → ℕ) (f : ℕ → Bool) (n : ℕ) → ((v : ℕ) → v < n → f v ≡ false) → total w f n ≡ 0
unfolding total
total_nothing w f zero h = refl
total_nothing w f (suc n) h = rw (h n (omega arith)) (omega (arith, total_nothing w f n (λ v l. h v (omega arith))))

zero_mod : (z : ℕ) → z ≡ 0 → 0 ≡ z % W
zero_mod z e = rw e

module _ (T S : List ℕ) {P C M D U : List ℕ} {n : ℕ} (tm : length T ≡ n) (sm : length S ≡ n) (fit : (u : ℕ) → u < n → get_or T u 0 < W) (few : n ≤ right.none) (fp : Filled P n right.none) (fc : Filled C n 0) (fm : Filled M n 0) (fd : D ≡ rows (λ i. i) n) (fu : Filled U n right.none) where
  grows_start : Grows T P
  grows_start = record {
    inside = λ u l h. absurd (h (fp.cells u (omega (arith, fp.long))));
    age = λ u l h. absurd (h (fp.cells u (omega (arith, fp.long))));
    fits = λ u l. fit u (omega (arith, fp.long));
  }

  fed_by_none : (u : ℕ) → u < length P → (v : ℕ) → v < length P → feeds P (live S C) u v ≡ false
  unfolding feeds
  fed_by_none u l v m = rw (fp.cells v (omega (arith, fp.long)), ne_eqb right.none u (λ e. omega (arith, fp.long)))

  mended_start : Mended T S P C M
  mended_start = record {
    shape = record { times = tm ∙ sym fp.long; samples = sm ∙ sym fp.long; counts = fc.long ∙ sym fp.long; sums = fm.long ∙ sym fp.long; rows = omega (arith, fp.long) };
    grows = grows_start;
    right = record {
      count = λ u l. fc.cells u (omega (arith, fp.long)) ∙ sym (total_nothing one (feeds P (live S C) u) (length P) (fed_by_none u l));
      sum = λ u l. fm.cells u (omega (arith, fp.long)) ∙ zero_mod (total row (feeds P (live S C) u) (length P)) (total_nothing row (feeds P (live S C) u) (length P) (fed_by_none u l));
    };
  }

  -- a live row is a sample, and leads to itself
  low_start : (u : ℕ) → live S C u ≡ true → (u < n) ⊎ (n ≤ u) → Low (par_of P) (stands S C) (live S C) (get_or D u 0) u
  low_start u k (inl l) = subst (λ (w : ℕ). Low (par_of P) (stands S C) (live S C) w u) (sym (ap (λ (x : List ℕ). get_or x u 0) fd ∙ get_rows (λ i. i) 0 n u l)) (here (⊎_elim (λ s. stands_sample S C u s) (λ m. absurd (omega (arith, m, fc.cells u l))) (live_cases S C u k)))
  low_start u k (inr l) = absurd (clash k (no_life mended_start u (omega (arith, fp.long))))

  -- with no edge every column is right
  pub kept_start : Kept T S P C M D U
  kept_start = record {
    mended = mended_start;
    low = record { long = ap length fd ∙ length_rows (λ i. i) n ∙ sym fp.long; cell = λ u k. low_start u k (lt? u n) };
    up = record {
      long = fu.long ∙ sym fp.long;
      cell = λ v k. ⊎_elim (λ (l : v < n). root (no_parent P v (omega (arith, fp.long)) (fp.cells v l)) (opt_none (get_or U v 0) (fu.cells v l))) (λ (l : n ≤ v). absurd (clash k (no_row mended_start v (omega (arith, fp.long))))) (lt? v n);
      idle = λ v l k. fu.cells v (omega (arith, fp.long));
    };
  }

  -- and the sweep is before every edge
  pub swept_start : {l r pa ch bl br : List ℕ} → Plan T l r pa ch bl br (length P) → Swept T S P C M D U l r pa ch bl br 0 0 0
  unfolding seen
  swept_start {l} {r} {pa} {ch} {bl} {br} pl = record {
    kept = kept_start;
    plan = pl;
    ahead = record {
      begun = record { within = omega arith; past = λ k m. absurd (omega arith); next = λ k a m. omega arith };
      ended = record { within = omega arith; past = λ k m. absurd (omega arith); next = λ k a m. omega arith };
    };
    holds = record {
      yes = λ e m a. absurd (clash a (not_begun bl br 0 0 e refl));
      nay = λ u m a. fp.cells u (omega (arith, fp.long));
    };
  }

-- one cell more is filled
pub filled_on : {X : List ℕ} {m n v : ℕ} → m ≡ n → Filled X m v → Filled X n v
filled_on e f = rw (sym e) f
