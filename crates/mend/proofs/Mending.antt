-- A climb mends one entry at a time: what lives after it, and where the next entry to mend is.
use Rattle.std.proofs.Common.{◌≡◌, ℕ, ◌+◌, ◌-◌, ◌%◌, ◌<◌, ◌≤◌, Bool, true, false, eqb, ltb, List, length, get_or, set, sym, refl, ◌∙◌, subst, arith, length-set, get_or-set_other, get_or-set_same, le-ltb, lt-ltb, eq-eqb, ne_eqb, eqb-true}
use mathlib.Core.Path.{fun_ext}
use borrow.Author.Tests.{eqb-false}
use Rattle.laws.specs.Bools.{or_right}
use Rattle.mend.specs.Right.{none, W, pick, total, one, live, feeds, By, Lacks, Excess, Right, Shape, Grows, climb}
use Rattle.mend.proofs.Totals.{and_false, and_true, More, grow, shrink, bumped, taken, lacks_none, excess_none, total_le}

-- what lives after a store to q
module _ (S C : List ℕ) (q x : ℕ) where
  pub live_other : (v : ℕ) → (v ≡ q → ⊥) → live S (set C q x) v ≡ live S C v
  unfolding live
  live_other v n = rw (get_or-set_other C q v x 0 n)

  pub live_pos : q < length C → 0 < x → live S (set C q x) q ≡ true
  unfolding live
  live_pos h p = rw (get_or-set_same C q x 0 h) (rw (lt-ltb 0 x p) (or_right (ltb 0 (get_or S q 0)) true refl))

  pub live_same : live S (set C q x) q ≡ live S C q → live S (set C q x) ≡ live S C
  live_same e = fun_ext (λ v. go v (eqb v q) refl)
    where
      go : (v : ℕ) → (b : Bool) → eqb v q ≡ b → live S (set C q x) v ≡ live S C v
      go v true h = rw (eqb-true v q h) e
      go v false h = live_other v (eqb-false v q h)

pub live_count : (S C : List ℕ) (q : ℕ) → 0 < get_or C q 0 → live S C q ≡ true
unfolding live
live_count S C q p = rw (lt-ltb 0 (get_or C q 0) p) (or_right (ltb 0 (get_or S q 0)) true refl)

-- a row that comes to live
pub more_live : (n : ℕ) (P : List ℕ) (K L : ℕ → Bool) (q : ℕ) → q < n → ((v : ℕ) → (v ≡ q → ⊥) → K v ≡ L v) → K q ≡ false → L q ≡ true → More n (feeds P K) (feeds P L) (get_or P q 0) q
unfolding feeds
more_live n P K L q h off nay yea = record {
  inside = h;
  off = λ u l v e. rw (off v e);
  no = λ u l. rw nay (and_false (eqb (get_or P q 0) u));
  yes = λ u l. rw yea (and_true (eqb (get_or P q 0) u));
}

pub same_live : (S P C M K : List ℕ) → live S K ≡ live S C → By (length P) (feeds P (live S K)) C M → Right S P C M
same_live S P C M K e b = subst (λ (L : ℕ → Bool). By (length P) (feeds P L) C M) e b

pub shape_set : {T S P C M : List ℕ} (q x y : ℕ) → Shape T S P C M → Shape T S P (set C q x) (set M q y)
shape_set {T} {S} {P} {C} {M} q x y h = record { times = h.times; samples = h.samples; counts = length-set C q x ∙ h.counts; sums = length-set M q y ∙ h.sums; rows = h.rows }

pub climb_falls : (T P : List ℕ) (q : ℕ) → Grows T P → q < length P → (q ≡ none → ⊥) → climb T (get_or P q 0) < climb T q
unfolding climb
climb_falls T P q g h n = rw (ne_eqb q none n) (go (eqb (get_or P q 0) none) refl)
  where
    go : (b : Bool) → eqb (get_or P q 0) none ≡ b → pick (eqb (get_or P q 0) none) 0 (W - get_or T (get_or P q 0) 0) < W - get_or T q 0
    go true e = rw e (omega (arith, g.fits q h))
    go false e = rw e (omega (arith, g.age q h (eqb-false _ _ e), g.fits (get_or P q 0) (g.inside q h (eqb-false _ _ e))))

module _ (T S P C M : List ℕ) (q d : ℕ) (sh : Shape T S P C M) (hq : q < length P) where
  module _ (k : Lacks (length P) (feeds P (live S C)) C M q d) where
    pub room : get_or C q 0 < none
    room = let e : get_or C q 0 + 1 ≡ total one (feeds P (live S C) q) (length P) = rw (eq-eqb q q refl) at (k.count q hq) in omega (arith, total_le (feeds P (live S C) q) (length P), sh.rows)

    mended : By (length P) (feeds P (live S C)) (set C q (get_or C q 0 + 1)) (set M q ((get_or M q 0 + d) % W))
    mended = bumped (length P) (feeds P (live S C)) C M q d (omega (arith, sh.counts)) (omega (arith, sh.sums)) k

    lives : live S (set C q (get_or C q 0 + 1)) q ≡ true
    lives = live_pos S C q (get_or C q 0 + 1) (omega (arith, sh.counts)) (omega arith)

    pub gain_stop : live S C q ≡ true → Right S P (set C q (get_or C q 0 + 1)) (set M q ((get_or M q 0 + d) % W))
    gain_stop l = same_live S P _ _ C (sym (live_same S C q (get_or C q 0 + 1) (lives ∙ sym l))) mended

    pub gain_on : live S C q ≡ false → Lacks (length P) (feeds P (live S (set C q (get_or C q 0 + 1)))) (set C q (get_or C q 0 + 1)) (set M q ((get_or M q 0 + d) % W)) (get_or P q 0) q
    gain_on l = grow (more_live (length P) P (live S C) (live S (set C q (get_or C q 0 + 1))) q hq (λ v n. sym (live_other S C q (get_or C q 0 + 1) v n)) l lives) mended

  module _ (k : Excess (length P) (feeds P (live S C)) C M q d) where
    pub some : 0 < get_or C q 0
    some = let e : get_or C q 0 ≡ total one (feeds P (live S C) q) (length P) + 1 = rw (eq-eqb q q refl) at (k.count q hq) in omega arith

    module _ (r : ℕ) (hr : r < W) (hd : d < length P) (er : (r + d) % W ≡ get_or M q 0) where
      less : By (length P) (feeds P (live S C)) (set C q (get_or C q 0 - 1)) (set M q r)
      less = taken (length P) (feeds P (live S C)) C M q d (omega (arith, sh.counts)) (omega (arith, sh.sums)) r hr (omega (arith, sh.rows)) er hq k

      pub lose_stop : live S (set C q (get_or C q 0 - 1)) q ≡ true → Right S P (set C q (get_or C q 0 - 1)) (set M q r)
      lose_stop l = same_live S P _ _ C (sym (live_same S C q (get_or C q 0 - 1) (l ∙ sym (live_count S C q some)))) less

      pub lose_on : live S (set C q (get_or C q 0 - 1)) q ≡ false → Excess (length P) (feeds P (live S (set C q (get_or C q 0 - 1)))) (set C q (get_or C q 0 - 1)) (set M q r) (get_or P q 0) q
      lose_on l = shrink (more_live (length P) P (live S (set C q (get_or C q 0 - 1))) (live S C) q hq (live_other S C q (get_or C q 0 - 1)) l (live_count S C q some)) less

pub alive_yes : (S C : List ℕ) (u : ℕ) → 0 < get_or S u 0 → true ≡ live S C u
unfolding live
alive_yes S C u h = rw (lt-ltb 0 (get_or S u 0) h) refl

pub alive_count : (S C : List ℕ) (u : ℕ) → get_or S u 0 ≤ 0 → ltb 0 (get_or C u 0) ≡ live S C u
unfolding live
alive_count S C u h = rw (le-ltb 0 (get_or S u 0) h) refl

pub shape_on : {T S P C M : List ℕ} (q x y : ℕ) (C' M' : List ℕ) → C' ≡ set C q x → M' ≡ set M q y → Shape T S P C M → Shape T S P C' M'
shape_on q x y C' M' ec em h = rw (ec, em) (shape_set q x y h)

module _ (T S P C M : List ℕ) (q d : ℕ) (sh : Shape T S P C M) where
  pub lacks_end : q ≡ none → Lacks (length P) (feeds P (live S C)) C M q d → Right S P C M
  lacks_end e k = lacks_none (length P) (feeds P (live S C)) C M d sh.rows (rw e at k)

  pub excess_end : q ≡ none → Excess (length P) (feeds P (live S C)) C M q d → Right S P C M
  excess_end e k = excess_none (length P) (feeds P (live S C)) C M d sh.rows (rw e at k)

  module _ (hq : q < length P) (C' M' : List ℕ) where
    module _ (k : Lacks (length P) (feeds P (live S C)) C M q d) (ec : C' ≡ set C q (get_or C q 0 + 1)) (em : M' ≡ set M q ((get_or M q 0 + d) % W)) where
      pub gain_stops : live S C q ≡ true → Right S P C' M'
      gain_stops l = rw (ec, em) (gain_stop T S P C M q d sh hq k l)

      pub gain_goes : live S C q ≡ false → Lacks (length P) (feeds P (live S C')) C' M' (get_or P q 0) q
      gain_goes l = rw (ec, em) (gain_on T S P C M q d sh hq k l)

    module _ (k : Excess (length P) (feeds P (live S C)) C M q d) (hd : d < length P) (ec : C' ≡ set C q (get_or C q 0 - 1)) (em : (s : ℕ) × (M' ≡ set M q s) × (s < W) × ((s + d) % W ≡ get_or M q 0)) where
      pub lose_stops : live S C' q ≡ true → Right S P C' M'
      lose_stops l = rw (ec, em.1) (lose_stop T S P C M q d sh hq k em.0 em.2 hd em.3 (rw ec at l))

      pub lose_goes : live S C' q ≡ false → Excess (length P) (feeds P (live S C')) C' M' (get_or P q 0) q
      lose_goes l = rw (ec, em.1) (lose_on T S P C M q d sh hq k em.0 em.2 hd em.3 (rw ec at l))

-- the lengths stay
pub shape_kept : {T S P C M : List ℕ} (P' C' M' : List ℕ) → length P' ≡ length P → length C' ≡ length C → length M' ≡ length M → Shape T S P C M → Shape T S P' C' M'
shape_kept P' C' M' p c m h = record { times = h.times ∙ sym p; samples = h.samples ∙ sym p; counts = c ∙ h.counts ∙ sym p; sums = m ∙ h.sums ∙ sym p; rows = omega (arith, h.rows, p) }
