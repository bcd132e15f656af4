-- Counts and sums of the rows that pass: what one row more or less changes, and the mending of one entry.
use Rattle.std.proofs.Common.{◌≡◌, ℕ, zero, suc, ◌+◌, ◌-◌, ◌%◌, ◌<◌, ◌≤◌, Bool, true, false, eqb, List, length, get_or, set, sym, refl, ap, ◌∙◌, ap₂, ⊎_elim, le_of_suc-le-suc, add-zero, mod-lt, mod-eq_of_lt, eq-or-lt_of_le, arith, get_or-set_other, get_or-set_same, ne_eqb, eqb-true}
use native.Mathlib.Nat.{mod-add-mod, add-mod_right}
use borrow.Author.Tests.{eqb-false}
use Rattle.meaning.specs.Words.{and}
use Rattle.mend.specs.Right.{none, W, pick, total, one, row, By, Lacks, Excess}

-- a total after one more row passes
module _ (w : ℕ → ℕ) (f g : ℕ → Bool) (d : ℕ) (off : (v : ℕ) → (v ≡ d → ⊥) → f v ≡ g v) where
  total_below : (n : ℕ) → n ≤ d → total w g n ≡ total w f n
  unfolding total
  total_below zero h = refl
  total_below (suc n) h = ap₂ ◌+◌ (total_below n (omega arith)) (ap (λ (b : Bool). pick b (w n) 0) (sym (off n (λ e. omega arith))))

  pub total_add : f d ≡ false → (n : ℕ) → d < n → total w g n ≡ total w f n + pick (g d) (w d) 0
  unfolding total
  total_add z zero h = absurd (omega arith)
  total_add z (suc n) h = ⊎_elim here (λ l. there l (total_add z n l)) (eq-or-lt_of_le (le_of_suc-le-suc h))
    where
      here : d ≡ n → total w g n + pick (g n) (w n) 0 ≡ (total w f n + pick (f n) (w n) 0) + pick (g d) (w d) 0
      here e = rw (sym e) (rw z (omega (arith, total_below d (omega arith))))

      there : d < n → total w g n ≡ total w f n + pick (g d) (w d) 0 → total w g n + pick (g n) (w n) 0 ≡ (total w f n + pick (f n) (w n) 0) + pick (g d) (w d) 0
      there l ih = rw (off n (λ e. omega arith)) (omega arith)

-- sums that wrap
pub cancel : (r x d : ℕ) → r < W → d < W → (r + d) % W ≡ (x + d) % W → r ≡ x % W
cancel r x d hr hd e = sym (shift r ∙ mod-eq_of_lt hr) ∙ ap (λ (y : ℕ). (y + (W - d)) % W) e ∙ shift x
  where
    shift : (y : ℕ) → ((y + d) % W + (W - d)) % W ≡ y % W
    shift y = mod-add-mod (y + d) W (W - d) ∙ ap (λ (z : ℕ). z % W) (omega arith) ∙ add-mod_right y W

-- F and G differ at the row c only, which G gives to q
pub record More (n : ℕ) (F G : ℕ → ℕ → Bool) (q c : ℕ) : Type 0 where
  pub inside : c < n
  pub off : (u : ℕ) → u < n → (v : ℕ) → (v ≡ c → ⊥) → F u v ≡ G u v
  pub no : (u : ℕ) → u < n → F u c ≡ false
  pub yes : (u : ℕ) → u < n → G u c ≡ eqb q u

module _ {n : ℕ} {F G : ℕ → ℕ → Bool} {q c : ℕ} (m : More n F G q c) where
  add : (w : ℕ → ℕ) (u : ℕ) → u < n → total w (G u) n ≡ total w (F u) n + pick (eqb q u) (w c) 0
  add w u l = total_add w (F u) (G u) c (m.off u l) (m.no u l) n m.inside ∙ ap (λ (b : Bool). total w (F u) n + pick b (w c) 0) (m.yes u l)

  pub grow : {C M : List ℕ} → By n F C M → Lacks n G C M q c
  grow {C} {M} b = record {
    count = λ u l. ap (λ (x : ℕ). x + pick (eqb q u) 1 0) (b.count u l) ∙ sym (add one u l);
    sum = λ u l. ap (λ (x : ℕ). (x + pick (eqb q u) c 0) % W) (b.sum u l) ∙ mod-add-mod (total row (F u) n) W (pick (eqb q u) c 0) ∙ sym (ap (λ (x : ℕ). x % W) (add row u l));
    small = λ u l. omega (arith, b.sum u l, mod-lt (total row (F u) n) {m = W} (omega arith));
  }

  pub shrink : {C M : List ℕ} → By n G C M → Excess n F C M q c
  shrink {C} {M} b = record {
    count = λ u l. b.count u l ∙ add one u l;
    sum = λ u l. b.sum u l ∙ ap (λ (x : ℕ). x % W) (add row u l);
  }

-- the entry of q is mended
module _ (n : ℕ) (F : ℕ → ℕ → Bool) (C M : List ℕ) (q d : ℕ) (hc : q < length C) (hm : q < length M) where
  pub bumped : Lacks n F C M q d → By n F (set C q (get_or C q 0 + 1)) (set M q ((get_or M q 0 + d) % W))
  bumped h = record { count = λ u l. c u l (eqb q u) refl; sum = λ u l. s u l (eqb q u) refl }
    where
      c : (u : ℕ) → u < n → (b : Bool) → eqb q u ≡ b → get_or (set C q (get_or C q 0 + 1)) u 0 ≡ total one (F u) n
      c u l true e = let z : _ = eqb-true q u e in rw (sym z) (get_or-set_same C q _ 0 hc) ∙ rw e at (h.count u l)
      c u l false e = get_or-set_other C q u _ 0 (λ z. eqb-false q u e (sym z)) ∙ sym (add-zero _) ∙ rw e at (h.count u l)

      s : (u : ℕ) → u < n → (b : Bool) → eqb q u ≡ b → get_or (set M q ((get_or M q 0 + d) % W)) u 0 ≡ total row (F u) n % W
      s u l true e = let z : _ = eqb-true q u e in rw (sym z) (get_or-set_same M q _ 0 hm) ∙ rw e at (h.sum u l)
      s u l false e = get_or-set_other M q u _ 0 (λ z. eqb-false q u e (sym z)) ∙ sym (mod-eq_of_lt (h.small u l)) ∙ ap (λ (x : ℕ). x % W) (sym (add-zero _)) ∙ rw e at (h.sum u l)

  pub taken : (r : ℕ) → r < W → d < W → (r + d) % W ≡ get_or M q 0 → q < n → Excess n F C M q d → By n F (set C q (get_or C q 0 - 1)) (set M q r)
  taken r hr hd e0 hq h = record { count = λ u l. c u l (eqb q u) refl; sum = λ u l. s u l (eqb q u) refl }
    where
      c : (u : ℕ) → u < n → (b : Bool) → eqb q u ≡ b → get_or (set C q (get_or C q 0 - 1)) u 0 ≡ total one (F u) n
      c u l true e = let z : q ≡ u = eqb-true q u e in let k : get_or C u 0 ≡ total one (F u) n + 1 = rw e at (h.count u l) in rw (sym z) (get_or-set_same C q _ 0 hc) ∙ ap (λ (x : ℕ). get_or C x 0 - 1) z ∙ omega arith
      c u l false e = let k : get_or C u 0 ≡ total one (F u) n + 0 = rw e at (h.count u l) in get_or-set_other C q u _ 0 (λ z. eqb-false q u e (sym z)) ∙ omega arith

      s : (u : ℕ) → u < n → (b : Bool) → eqb q u ≡ b → get_or (set M q r) u 0 ≡ total row (F u) n % W
      s u l true e = let z : q ≡ u = eqb-true q u e in let k : get_or M u 0 ≡ (total row (F u) n + d) % W = rw e at (h.sum u l) in rw (sym z) (get_or-set_same M q _ 0 hm) ∙ cancel r (total row (F u) n) d hr hd (e0 ∙ rw z k)
      s u l false e = let k : get_or M u 0 ≡ (total row (F u) n + 0) % W = rw e at (h.sum u l) in get_or-set_other M q u _ 0 (λ z. eqb-false q u e (sym z)) ∙ k ∙ ap (λ (x : ℕ). x % W) (add-zero _)

-- no row is none
pub lacks_none : (n : ℕ) (F : ℕ → ℕ → Bool) (C M : List ℕ) (d : ℕ) → n ≤ none → Lacks n F C M none d → By n F C M
lacks_none n F C M d hn h = record {
  count = λ u l. sym (add-zero _) ∙ rw (ne_eqb none u (λ e. omega arith)) at (h.count u l);
  sum = λ u l. sym (mod-eq_of_lt (h.small u l)) ∙ ap (λ (x : ℕ). x % W) (sym (add-zero _)) ∙ rw (ne_eqb none u (λ e. omega arith)) at (h.sum u l);
}

pub excess_none : (n : ℕ) (F : ℕ → ℕ → Bool) (C M : List ℕ) (d : ℕ) → n ≤ none → Excess n F C M none d → By n F C M
excess_none n F C M d hn h = record {
  count = λ u l. rw (ne_eqb none u (λ e. omega arith)) at (h.count u l) ∙ add-zero _;
  sum = λ u l. rw (ne_eqb none u (λ e. omega arith)) at (h.sum u l) ∙ ap (λ (x : ℕ). x % W) (add-zero _);
}

-- at most n rows pass below n
pub total_le : (f : ℕ → Bool) (n : ℕ) → total one f n ≤ n
unfolding total
total_le f zero = omega arith
total_le f (suc n) = go (f n) (total_le f n)
  where
    go : (b : Bool) → total one f n ≤ n → total one f n + pick b 1 0 ≤ suc n
    go true h = omega arith
    go false h = omega arith

-- ---- and, where the second is known
pub and_false : (b : Bool) → and b false ≡ false
and_false true = refl
and_false false = refl

pub and_true : (b : Bool) → and b true ≡ b
and_true true = refl
and_true false = refl
