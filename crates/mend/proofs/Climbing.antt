-- What a climb leaves standing.
use Rattle.std.proofs.Common.{◌≡◌, ℕ, ◌+◌, ◌<◌, ◌≤◌, Bool, true, false, ltb, ◌⊎◌, List, length, get_or, set, sym, refl, ap, ◌∙◌, subst, inl, inr, ⊎_elim, arith, get_or-set_other, get_or-set_same, le-ltb, lt-ltb}
use mathlib.Core.Option.{Option, some}
use Rattle.meaning.specs.Words.{or}
use Rattle.meaning.specs.Forest.{Par}
use Rattle.laws.specs.Bools.{clash, eq?}
use Rattle.mend.specs.Right as right
use Rattle.mend.specs.Right.{live, stands, more, Grows}
use Rattle.mend.specs.Line.{par_of, Over, root, hit, on, Pass, start, next, ends, at, over, Rise, as_before, risen, Climb, Gained}
use Rattle.mend.proofs.Mending.{live_other, live_pos}
use Rattle.mend.proofs.Reading.{lt?, live_cases, dead, stands_no, stands_live, stands_sample, stands_two, of_par, no_parent, ranked, opt_none, opt_some}

module _ (S C : List ℕ) (q : ℕ) where
  stands_other : (x v : ℕ) → (v ≡ q → ⊥) → stands S (set C q x) v ≡ stands S C v
  unfolding stands
  stands_other x v n = rw (get_or-set_other C q v x 0 n)

  module _ (hq : q < length C) where
    pub stands_pass : live S C q ≡ false → (v : ℕ) → stands S (set C q (get_or C q 0 + 1)) v ≡ stands S C v
    unfolding stands
    stands_pass h v = go (eq? v q)
      where
        go : (v ≡ q) ⊎ (v ≡ q → ⊥) → or (ltb 0 (get_or S v 0)) (ltb 1 (get_or (set C q (get_or C q 0 + 1)) v 0)) ≡ or (ltb 0 (get_or S v 0)) (ltb 1 (get_or C v 0))
        go (inl e) = rw (e, get_or-set_same C q (get_or C q 0 + 1) 0 hq, le-ltb 1 (get_or C q 0 + 1) (omega (arith, (dead S C q h).1)), le-ltb 1 (get_or C q 0) (omega (arith, (dead S C q h).1))) refl
        go (inr n) = rw (get_or-set_other C q v (get_or C q 0 + 1) 0 n)

    pub stands_stop : live S C q ≡ true → stands S (set C q (get_or C q 0 + 1)) q ≡ true
    stands_stop h = ⊎_elim (λ s. stands_sample S (set C q (get_or C q 0 + 1)) q s) (λ s. stands_two S (set C q (get_or C q 0 + 1)) q (omega (arith, get_or-set_same C q (get_or C q 0 + 1) 0 hq))) (live_cases S C q h)

-- a way by rows that do not live stands for one by rows that do not stand
pub pass_map : {P : Par} {K K' : ℕ → Bool} {c d : ℕ} → ((y : ℕ) → K y ≡ false → K' y ≡ false) → Pass P K c d → Pass P K' c d
pass_map h start = start
pass_map h (next {y = y} s e k) = next (pass_map h s) e (h y k)

-- what is over the end of such a way is over its start
pub pass_over : {P : Par} {K K' : ℕ → Bool} {c d : ℕ} {o : Option ℕ} → ((y : ℕ) → K y ≡ false → K' y ≡ false) → Pass P K c d → Over P K' o d → Over P K' o c
pass_over h start r = r
pass_over h (next {y = y} s e k) r = pass_over h s (on e (h y k) r)

one_more : (x : ℕ) → ltb 2 (x + 1) ≡ ltb 1 x
one_more x = ⊎_elim (λ (l : 1 < x). lt-ltb 2 (x + 1) (omega arith) ∙ sym (lt-ltb 1 x l)) (λ (l : x ≤ 1). le-ltb 2 (x + 1) (omega arith) ∙ sym (le-ltb 1 x l)) (lt? 1 x)

-- with one live child more than two a row stood before it got that child
more_stood : (S C C' : List ℕ) (q : ℕ) → q < length C → C' ≡ set C q (get_or C q 0 + 1) → more S C' 2 q ≡ stands S C q
unfolding more stands
more_stood S C C' q h ec = ap (λ (b : Bool). or (ltb 0 (get_or S q 0)) b) (ap (λ (x : List ℕ). ltb 2 (get_or x q 0)) ec ∙ ap (ltb 2) (get_or-set_same C q (get_or C q 0 + 1) 0 h) ∙ one_more (get_or C q 0))

pub climb_start : (T S P C D : List ℕ) (q d w : ℕ) → d < length P → get_or P d 0 ≡ q → Climb T S P C C D D q d w q d
climb_start T S P C D q d w h e = record { inside = h; par = e; same = λ v. refl; above = λ v l. refl; still = λ v l. refl; pass = start; wakes = λ v l. l; rose = λ v. as_before refl refl; stop = λ r x. x }

module _ (T S P C₀ C C' D₀ D D' : List ℕ) (q0 d0 w q d : ℕ) (g : Grows T P) (k : Climb T S P C₀ C D₀ D q0 d0 w q d) where
  pub climb_end : q ≡ right.none → Gained S P C₀ C D₀ D q0 d0 w right.none
  climb_end e = record {
    stop = k.stop right.none (ends e refl);
    same = λ v n. k.same v;
    yes = λ n. absurd (n refl);
    stood = λ n. absurd (n refl);
    all = λ z v. k.same v;
    wakes = k.wakes;
    rose = k.rose;
    over = subst (λ (o : Option ℕ). Over (par_of P) (stands S C) o d0) (sym (opt_none right.none refl)) (pass_over (λ y l. k.same y ∙ stands_no S C₀ y l) k.pass (root (no_parent P d k.inside (k.par ∙ e)) refl));
  }

  module _ (hq : q < length P) (hc : length C ≡ length P) (n : q ≡ right.none → ⊥) (ec : C' ≡ set C q (get_or C q 0 + 1)) where
    edge : par_of P d ≡ some q
    edge = of_par P d k.inside (λ z. n (sym k.par ∙ z)) ∙ ap some k.par

    older : get_or T d 0 < get_or T q 0
    older = (ranked T P g).grows edge

    awake : (v : ℕ) → live S C₀ v ≡ true → live S C' v ≡ true
    awake v l = ⊎_elim (λ (e : v ≡ q). ap (live S C') e ∙ rw ec (live_pos S C q (get_or C q 0 + 1) (omega arith) (omega arith))) (λ m. rw ec (live_other S C q (get_or C q 0 + 1) v m) ∙ k.wakes v l) (eq? v q)

    -- a row that is not q lives as in the columns before
    beside : (E : List ℕ) (v : ℕ) → (v ≡ q → ⊥) → get_or E v 0 ≡ get_or D v 0 → Rise (par_of P) (live S C₀) (live S C) D₀ D d0 w v → Rise (par_of P) (live S C₀) (live S C') D₀ E d0 w v
    beside E v m ed (as_before a b) = as_before (rw ec (live_other S C q (get_or C q 0 + 1) v m) ∙ a) (ed ∙ b)
    beside E v m ed (risen p b) = risen p (ed ∙ b)

    pub climb_pass : length D ≡ length P → D' ≡ set D q w → live S C q ≡ false → Climb T S P C₀ C' D₀ D' q0 d0 w (get_or P q 0) q
    climb_pass hd ed l = record {
      inside = hq;
      par = refl;
      same = λ v. rw ec (stands_pass S C q (omega arith) l v) ∙ k.same v;
      above = λ v a. rw ec (live_other S C q (get_or C q 0 + 1) v (apart v a)) ∙ k.above v (omega (arith, older));
      still = λ v a. at_other v (apart v a) ∙ k.still v (omega (arith, older));
      pass = way;
      wakes = awake;
      rose = λ v. ⊎_elim (λ (e : v ≡ q). subst (λ (x : ℕ). Rise (par_of P) (live S C₀) (live S C') D₀ D' d0 w x) (sym e) (risen way (ap (λ (x : List ℕ). get_or x q 0) ed ∙ get_or-set_same D q w 0 (omega (arith, hd))))) (λ m. beside D' v m (at_other v m) (k.rose v)) (eq? v q);
      stop = λ r x. k.stop r (over n (sym (k.above q older) ∙ l) x);
    }
      where
        apart : (v : ℕ) → get_or T q 0 < get_or T v 0 → v ≡ q → ⊥
        apart v a e = omega (arith, ap (λ (x : ℕ). get_or T x 0) e)

        at_other : (v : ℕ) → (v ≡ q → ⊥) → get_or D' v 0 ≡ get_or D v 0
        at_other v m = ap (λ (x : List ℕ). get_or x v 0) ed ∙ get_or-set_other D q v w 0 m

        way : Pass (par_of P) (live S C₀) d0 q
        way = next k.pass edge (sym (k.above q older) ∙ l)

    other : (v : ℕ) → (v ≡ q → ⊥) → stands S C' v ≡ stands S C₀ v
    other v m = rw ec (stands_other S C q (get_or C q 0 + 1) v m) ∙ k.same v

    pub climb_stop : live S C q ≡ true → Gained S P C₀ C' D₀ D q0 d0 w q
    climb_stop l = record {
      stop = k.stop q (at n lived refl);
      same = other;
      yes = λ m. stood;
      stood = λ m. more_stood S C C' q (omega arith) ec ∙ k.same q;
      all = λ z. absurd (n z);
      wakes = awake;
      rose = λ v. ⊎_elim (λ (e : v ≡ q). subst (λ (x : ℕ). Rise (par_of P) (live S C₀) (live S C') D₀ D d0 w x) (sym e) (as_before (stands_live S C' q stood ∙ sym lived) (k.still q older))) (λ m. beside D v m refl (k.rose v)) (eq? v q);
      over = subst (λ (o : Option ℕ). Over (par_of P) (stands S C') o d0) (sym (opt_some q n)) (pass_over (λ y a. other y (λ e. clash lived (ap (live S C₀) (sym e) ∙ a)) ∙ stands_no S C₀ y a) k.pass (hit edge stood refl));
    }
      where
        stood : stands S C' q ≡ true
        stood = rw ec (stands_stop S C q (omega arith) l)

        lived : live S C₀ q ≡ true
        lived = sym (k.above q older) ∙ l
