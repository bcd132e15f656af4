-- Where a row lives and does not stand, its sum is its only live child.
use Rattle.std.proofs.Common.{◌≡◌, ℕ, zero, suc, ◌+◌, ◌%◌, ◌<◌, ◌≤◌, Bool, true, false, ◌⊎◌, List, length, get_or, sym, refl, ap, ◌∙◌, subst, inl, inr, ⊎_elim, add-zero, mod-eq_of_lt, arith}
use mathlib.Core.Option.{some}
use Rattle.laws.specs.Bools.{eq?}
use Rattle.mend.specs.Right as right
use Rattle.mend.specs.Right.{W, pick, total, one, row, live, stands, feeds, Right, Shape, Grows}
use Rattle.mend.specs.Line.{par_of, Lives}
use Rattle.mend.proofs.Mending.{live_count}
use Rattle.mend.proofs.Reading.{not_standing, total_pos, feeds_is, is_feeds, par_of-is, of_par, live_cases}

total_none : (f : ℕ → Bool) (n : ℕ) → total one f n ≡ 0 → total row f n ≡ 0
unfolding total
total_none f zero h = refl
total_none f (suc n) h = go (f n) refl (λ k. total_none f n k)
  where
    go : (b : Bool) → f n ≡ b → (total one f n ≡ 0 → total row f n ≡ 0) → total row f n + pick (f n) n 0 ≡ 0
    go true e ih = let k : total one f n + 1 ≡ 0 = rw e at h in absurd (omega arith)
    go false e ih = let k : total one f n + 0 ≡ 0 = rw e at h in rw e (omega (arith, ih (omega arith)))

pub only_row : (f : ℕ → Bool) (n : ℕ) → total one f n ≡ 1 → (d : ℕ) × (d < n) × (f d ≡ true) × (total row f n ≡ d)
unfolding total
only_row f zero h = absurd (omega arith)
only_row f (suc n) h = go (f n) refl (λ k. only_row f n k)
  where
    go : (b : Bool) → f n ≡ b → (total one f n ≡ 1 → (d : ℕ) × (d < n) × (f d ≡ true) × (total row f n ≡ d)) → (d : ℕ) × (d < suc n) × (f d ≡ true) × (total row f n + pick (f n) n 0 ≡ d)
    go true e ih = let k : total one f n + 1 ≡ 1 = rw e at h in (n, omega arith, e, rw e (omega (arith, total_none f n (omega arith))))
    go false e ih = let k : total one f n + 0 ≡ 1 = rw e at h in let r : _ = ih (omega arith) in (r.0, omega (arith, r.1), r.2, ap (λ (b : Bool). total row f n + pick b n 0) e ∙ add-zero (total row f n) ∙ r.3)

pub only_one : (f : ℕ → Bool) (n a b : ℕ) → total one f n ≤ 1 → a < n → b < n → f a ≡ true → f b ≡ true → a ≡ b
unfolding total
only_one f zero a b h la lb ea eb = absurd (omega arith)
only_one f (suc n) a b h la lb ea eb = go (eq? a n) (eq? b n) (λ k x y. only_one f n a b k x y ea eb)
  where
    last : f n ≡ true → total one f n ≡ 0
    last e = let k : total one f n + 1 ≤ 1 = rw e at h in omega arith

    less : total one f n ≤ 1
    less = omega arith

    go : (a ≡ n) ⊎ (a ≡ n → ⊥) → (b ≡ n) ⊎ (b ≡ n → ⊥) → (total one f n ≤ 1 → a < n → b < n → a ≡ b) → a ≡ b
    go (inl p) (inl q) ih = p ∙ sym q
    go (inl p) (inr q) ih = absurd (omega (arith, total_pos f n b (omega arith) eb, last (sym (ap f p) ∙ ea)))
    go (inr p) (inl q) ih = absurd (omega (arith, total_pos f n a (omega arith) ea, last (sym (ap f q) ∙ eb)))
    go (inr p) (inr q) ih = ih less (omega arith) (omega arith)

pub record Child (T S P C : List ℕ) (u d : ℕ) : Type 0 where
  pub inside : d < length P
  pub parent : par_of P d ≡ some u
  pub lives : live S C d ≡ true
  pub younger : get_or T d 0 < get_or T u 0

module _ (T S P C M : List ℕ) (sh : Shape T S P C M) (g : Grows T P) (r : Right S P C M) where
  pub lives : Lives (par_of P) (stands S C) (live S C)
  lives = record {
    up = λ {b} {p} e l. let k : _ = par_of-is P b p e in let h : p < length P = subst (λ (y : ℕ). y < length P) k.1 (g.inside b k.0 k.2) in live_count S C p (omega (arith, r.count p h, total_pos (feeds P (live S C) p) (length P) b k.0 (is_feeds P (live S C) p b k.1 l)));
    only = λ {a} {b} {x} n e f l m. let i : _ = par_of-is P a x e in let j : _ = par_of-is P b x f in let h : x < length P = subst (λ (y : ℕ). y < length P) i.1 (g.inside a i.0 i.2) in only_one (feeds P (live S C) x) (length P) a b (omega (arith, (not_standing S C x n).1, r.count x h)) i.0 j.0 (is_feeds P (live S C) x a i.1 l) (is_feeds P (live S C) x b j.1 m);
  }

  pub only_child : (u : ℕ) → u < length P → live S C u ≡ true → stands S C u ≡ false → Child T S P C u (get_or M u 0)
  only_child u l e n = go (only_row (feeds P (live S C) u) (length P) (omega (arith, r.count u l, (not_standing S C u n).1, ⊎_elim (λ s. absurd (omega (arith, (not_standing S C u n).0))) (λ s. s) (live_cases S C u e))))
    where
      go : (d : ℕ) × (d < length P) × (feeds P (live S C) u d ≡ true) × (total row (feeds P (live S C) u) (length P) ≡ d) → Child T S P C u (get_or M u 0)
      go w = let f : _ = feeds_is P (live S C) u w.0 w.2 in
          let k : (get_or P w.0 0 ≡ right.none → ⊥) = (λ z. omega (arith, sh.rows, f.0)) in
          subst (λ (d : ℕ). Child T S P C u d) (sym (r.sum u l ∙ ap (λ (x : ℕ). x % W) w.3 ∙ mod-eq_of_lt (omega (arith, w.1, sh.rows))))
          (record { inside = w.1; parent = of_par P w.0 w.1 k ∙ ap some f.0; lives = f.1; younger = subst (λ (x : ℕ). get_or T w.0 0 < get_or T x 0) f.0 (g.age w.0 w.1 k) })
