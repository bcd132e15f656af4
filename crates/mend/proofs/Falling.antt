-- What a climb that takes away leaves standing.
use Rattle.std.proofs.Common.{◌≡◌, ℕ, ◌-◌, ◌<◌, ◌≤◌, Bool, true, false, ltb, List, length, get_or, set, sym, refl, ap, ◌∙◌, subst, ⊎_elim, arith, get_or-set_other, get_or-set_same, le-ltb}
use Rattle.meaning.specs.Words.{or}
use Rattle.laws.specs.Bools.{eq?}
use Rattle.mend.specs.Right as right
use Rattle.mend.specs.Right.{live, stands}
use Rattle.mend.specs.Line.{Under, Lost}
use Rattle.mend.proofs.Mending.{live_other, live_count}
use Rattle.mend.proofs.Reading.{live_cases, dead, stands_sample, stands_two}

module _ (S C C' : List ℕ) (q : ℕ) (hq : q < length C) (pos : 0 < get_or C q 0) (ec : C' ≡ set C q (get_or C q 0 - 1)) where
  one_less : get_or C' q 0 ≡ get_or C q 0 - 1
  one_less = ap (λ (x : List ℕ). get_or x q 0) ec ∙ get_or-set_same C q (get_or C q 0 - 1) 0 hq

  pub fall_other : (v : ℕ) → (v ≡ q → ⊥) → stands S C' v ≡ stands S C v
  unfolding stands
  fall_other v n = ap (λ (x : ℕ). or (ltb 0 (get_or S v 0)) (ltb 1 x)) (ap (λ (x : List ℕ). get_or x v 0) ec ∙ get_or-set_other C q v (get_or C q 0 - 1) 0 n)

  pub fall_pass : live S C' q ≡ false → (v : ℕ) → stands S C' v ≡ stands S C v
  unfolding stands
  fall_pass l v = ⊎_elim (λ e. subst (λ (x : ℕ). or (ltb 0 (get_or S x 0)) (ltb 1 (get_or C' x 0)) ≡ or (ltb 0 (get_or S x 0)) (ltb 1 (get_or C x 0))) (sym e) at_q) (fall_other v) (eq? v q)
    where
      at_q : or (ltb 0 (get_or S q 0)) (ltb 1 (get_or C' q 0)) ≡ or (ltb 0 (get_or S q 0)) (ltb 1 (get_or C q 0))
      at_q = let k : _ = dead S C' q l in ap (λ (b : Bool). or (ltb 0 (get_or S q 0)) b) (le-ltb 1 (get_or C' q 0) (omega (arith, k.1)) ∙ sym (le-ltb 1 (get_or C q 0) (omega (arith, k.1, one_less))))

  pub fall_was : live S C' q ≡ true → stands S C q ≡ true
  fall_was l = ⊎_elim (λ s. stands_sample S C q s) (λ s. stands_two S C q (omega (arith, one_less))) (live_cases S C' q l)

-- a climb from q0 keeps what is younger, and wakes nothing
pub fall_under : (T S C₀ C C' : List ℕ) (q0 q : ℕ) → 0 < get_or C q 0 → C' ≡ set C q (get_or C q 0 - 1) → get_or T q0 0 ≤ get_or T q 0 → Under T S C₀ C q0 → Under T S C₀ C' q0
fall_under T S C₀ C C' q0 q pos ec a h = record {
  same = λ v l. beside v (λ e. omega (arith, ap (λ (y : ℕ). get_or T y 0) e)) ∙ h.same v l;
  less = λ v l. h.less v (⊎_elim (λ (e : v ≡ q). ap (live S C) e ∙ live_count S C q pos) (λ m. sym (beside v m) ∙ l) (eq? v q));
}
  where
    beside : (v : ℕ) → (v ≡ q → ⊥) → live S C' v ≡ live S C v
    beside v m = rw ec (live_other S C q (get_or C q 0 - 1) v m)

pub lost_end : (T S P C₀ C : List ℕ) (q0 : ℕ) → ((v : ℕ) → stands S C v ≡ stands S C₀ v) → Under T S C₀ C q0 → Lost T S P C₀ C q0 right.none
lost_end T S P C₀ C q0 s u = record { same = λ v n. s v; was = λ n. absurd (n refl); all = λ z. s; still = λ n. absurd (n refl); above = λ n. absurd (n refl); under = u }

pub lost_stop : (T S P C₀ C C' : List ℕ) (q0 q : ℕ) → (q ≡ right.none → ⊥) → q < length C → 0 < get_or C q 0 → C' ≡ set C q (get_or C q 0 - 1) → ((v : ℕ) → stands S C v ≡ stands S C₀ v) → q < length P → get_or T q0 0 ≤ get_or T q 0 → Under T S C₀ C q0 → live S C' q ≡ true → Lost T S P C₀ C' q0 q
lost_stop T S P C₀ C C' q0 q m hq pos ec s hp a u l = record {
  same = λ v n. fall_other S C C' q hq pos ec v n ∙ s v;
  was = λ n. sym (s q) ∙ fall_was S C C' q hq pos ec l;
  all = λ z. absurd (m z);
  still = λ n. (hp, l);
  above = λ n. a;
  under = fall_under T S C₀ C C' q0 q pos ec a u;
}

pub lt_eq : {a b t : ℕ} → a < b → b ≡ t → a < t
lt_eq h e = omega arith

pub le_lt : {a b t : ℕ} → a ≤ b → b < t → a ≤ t
le_lt h e = omega arith
