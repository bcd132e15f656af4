-- A relabelling row by row, by calls and by a loop over them: a row is never the cell that means none, and the parent has fewer older rows.
use Rattle.std.proofs.Common.{◌≡◌, ℕ, zero, suc, ◌<◌, ◌≤◌, Bool, true, false, ◌⊎◌, List, [], ◌∷◌, length, get_or, set, sym, refl, ap, ◌∙◌, subst, inl, inr, ⊎_elim, arith, length-set, get_or-set_other, get_or-set_same}
use mathlib.Core.Option.{some}
use Rattle.meaning.specs.Forest.{Par}
use Rattle.laws.specs.Bools.{clash, eq?, some_inj, none_some}
use Rattle.ancestry.specs.Column.{older}
use Rattle.ancestry.specs.Older.{older_falls}
use Rattle.mend.specs.Right as right
use Rattle.mend.specs.Right.{stands, Grows}
use Rattle.mend.specs.Line.{par_of, opt, Over, root, hit, on, Pass, start, next}
use Rattle.std.specs.declared.ops.ControlFlow.{ControlFlow}
use Rattle.std.specs.declared.ops.ControlFlow.TheVariants.{Continue, Break}
use Rattle.mend.specs.Labels.{Labelling, Relabelled, Onward, Led}
use Rattle.mend.proofs.Reading.{of_par, no_parent, opt_none, opt_some}

pub below_it : {a b t : ℕ} → a < b → b ≡ t → a < t
below_it h e = omega arith

-- a row that is older than something is a row of the times
timed : (T : List ℕ) (a o : ℕ) → a < get_or T o 0 → o < length T
timed [] a o h = absurd (omega arith)
timed (x ∷ T) a zero h = omega arith
timed (x ∷ T) a (suc o) h = let k : o < length T = timed T a o h in omega arith

pub fewer_older : (T P : List ℕ) (q : ℕ) → Grows T P → q < length P → (get_or P q 0 ≡ right.none → ⊥) → older T (get_or P q 0) < older T q
fewer_older T P q g h n = older_falls T q (get_or P q 0) (timed T (get_or T q 0) (get_or P q 0) (g.age q h n)) (g.age q h n)

-- ---- a way up, taken apart at its lower end

module _ {P : Par} {K : ℕ → Bool} where
  pass_first : {q o v : ℕ} → P q ≡ some o → K o ≡ false → Pass P K o v → Pass P K q v
  pass_first e k start = next start e k
  pass_first e k (next s f j) = next (pass_first e k s) f j

  pass_rest : {q v : ℕ} → Pass P K q v → (v ≡ q) ⊎ ((o : ℕ) × (P q ≡ some o) × (K o ≡ false) × Pass P K o v)
  pass_rest start = inl refl
  pass_rest {q} (next {d} {y} s e k) = go (pass_rest s)
    where
      go : (d ≡ q) ⊎ ((o : ℕ) × (P q ≡ some o) × (K o ≡ false) × Pass P K o d) → (y ≡ q) ⊎ ((o : ℕ) × (P q ≡ some o) × (K o ≡ false) × Pass P K o y)
      go (inl z) = inr (y, ap P (sym z) ∙ e, k, start)
      go (inr f) = inr (f.0, f.1, f.2, next f.3 e k)

-- ---- one row of the way

-- the call from the parent may be made
pub label_next : {T S P C D : List ℕ} {q : ℕ} → Labelling T S P C D q → (w : ℕ) → (get_or P q 0 ≡ right.none → ⊥) → Labelling T S P C (set D q w) (get_or P q 0)
label_next {D = D} {q} lb w z = record { samples = lb.samples; counts = lb.counts; lows = length-set D q w ∙ lb.lows; rows = lb.rows; grows = lb.grows; row = lb.grows.inside q lb.row z }

module _ {T S P C D : List ℕ} {q : ℕ} (lb : Labelling T S P C D q) (K : ℕ → Bool) (w : ℕ) where
  here : get_or (set D q w) q 0 ≡ w
  here = get_or-set_same D q w 0 (omega (arith, lb.lows, lb.row))

  -- where no way leads on from q only q is written
  alone : ((v : ℕ) → Pass (par_of P) K q v → v ≡ q) → Relabelled P K w D (set D q w) q
  alone h = record { long = length-set D q w; cell = λ v. ⊎_elim (λ (e : v ≡ q). inl (subst (λ (x : ℕ). Pass (par_of P) K q x × (get_or (set D q w) x 0 ≡ w)) (sym e) (start, here))) (λ (m : v ≡ q → ⊥). inr ((λ p. m (h v p)), get_or-set_other D q v w 0 m)) (eq? v q) }

  -- the way ends at a row that has no parent
  pub label_top : get_or P q 0 ≡ right.none → Led T P K w D (set D q w) q (Break (get_or P q 0))
  label_top z =
      let e : _ = no_parent P q lb.row z in
      (alone (λ v p. ⊎_elim (λ h. h) (λ f. absurd (none_some e f.1)) (pass_rest p)), root e (opt_none (get_or P q 0) z))

  module _ (z : get_or P q 0 ≡ right.none → ⊥) where
    parent : par_of P q ≡ some (get_or P q 0)
    parent = of_par P q lb.row z

    -- and below a row that stands
    pub label_stop : K (get_or P q 0) ≡ true → Led T P K w D (set D q w) q (Break (get_or P q 0))
    label_stop k = (alone (λ v p. ⊎_elim (λ e. e) (λ f. absurd (clash (ap K (some_inj f.1 parent) ∙ k) f.2)) (pass_rest p)), hit parent k (opt_some (get_or P q 0) z))

    module _ (k : K (get_or P q 0) ≡ false) where
      -- else what is done from the parent on is done from q on
      label_rest : (D' : List ℕ) → Relabelled P K w (set D q w) D' (get_or P q 0) → Relabelled P K w D D' q
      label_rest D' r = record { long = r.long ∙ length-set D q w; cell = λ v. go v (r.cell v) }
        where
          not_on : (v : ℕ) → (v ≡ q → ⊥) → (Pass (par_of P) K (get_or P q 0) v → ⊥) → Pass (par_of P) K q v → ⊥
          not_on v m n p = ⊎_elim m (λ f. n (subst (λ (x : ℕ). Pass (par_of P) K x v) (some_inj f.1 parent) f.3)) (pass_rest p)

          go : (v : ℕ) → (Pass (par_of P) K (get_or P q 0) v × (get_or D' v 0 ≡ w)) ⊎ ((Pass (par_of P) K (get_or P q 0) v → ⊥) × (get_or D' v 0 ≡ get_or (set D q w) v 0)) → (Pass (par_of P) K q v × (get_or D' v 0 ≡ w)) ⊎ ((Pass (par_of P) K q v → ⊥) × (get_or D' v 0 ≡ get_or D v 0))
          go v (inl f) = inl (pass_first parent k f.0, f.1)
          go v (inr f) = ⊎_elim
              (λ (e : v ≡ q). inl (subst (λ (x : ℕ). Pass (par_of P) K q x) (sym e) start, f.1 ∙ ap (λ (x : ℕ). get_or (set D q w) x 0) e ∙ here))
              (λ (m : v ≡ q → ⊥). inr (not_on v m f.0, f.1 ∙ get_or-set_other D q v w 0 m))
              (eq? v q)

      pub label_from : Onward T P K w D (set D q w) q (get_or P q 0)
      label_from = record { row = lb.grows.inside q lb.row z; fewer = fewer_older T P q lb.grows lb.row z; rest = label_rest; over = λ r o. on parent k o }

-- what a call leaves that went on from where another came to
pub led_on : {T P : List ℕ} {K : ℕ → Bool} {w : ℕ} {D D₁ : List ℕ} (D' : List ℕ) {q o : ℕ} → Onward T P K w D D₁ q o → (r : ControlFlow ℕ ℕ) → Led T P K w D₁ D' o r → Led T P K w D D' q r
led_on D' n (Break r) s = (n.rest D' s.0, n.over r s.1)
led_on D' n (Continue o) s = record { row = s.row; fewer = omega (arith, s.fewer, n.fewer); rest = λ E t. n.rest E (s.rest E t); over = λ r t. n.over r (s.over r t) }

-- and the columns that it goes by
pub led_next : {T S P C D D₁ : List ℕ} {K : ℕ → Bool} {w q o : ℕ} → Labelling T S P C D q → length D₁ ≡ length D → Onward T P K w D D₁ q o → Labelling T S P C D₁ o
led_next l k n = record { samples = l.samples; counts = l.counts; lows = k ∙ l.lows; rows = l.rows; grows = l.grows; row = n.row }

-- ---- the loop over calls

-- a relabelling from q has come to v
pub record Underway (T S P C D₀ D : List ℕ) (w q v : ℕ) : Type 0 where
  pub labelling : Labelling T S P C D v
  pub long : length D ≡ length D₀
  pub rest : (D' : List ℕ) → Relabelled P (stands S C) w D D' v → Relabelled P (stands S C) w D₀ D' q
  pub over : (r : ℕ) → Over (par_of P) (stands S C) (opt r) v → Over (par_of P) (stands S C) (opt r) q

pub set_out : {T S P C D : List ℕ} (w : ℕ) {q : ℕ} → Labelling T S P C D q → Underway T S P C D D w q q
set_out w l = record { labelling = l; long = refl; rest = λ E r. r; over = λ r o. o }

module _ {T S P C D₀ D D' : List ℕ} {w q v : ℕ} (u : Underway T S P C D₀ D w q v) (s : ControlFlow ℕ ℕ) (h : Led T P (stands S C) w D D' v s) where
  pub told_done : {r : ℕ} → s ≡ Break r → Relabelled P (stands S C) w D₀ D' q × Over (par_of P) (stands S C) (opt r) q
  told_done {r} e = let d : Led T P (stands S C) w D D' v (Break r) = subst (λ (s : ControlFlow ℕ ℕ). Led T P (stands S C) w D D' v s) e h in (u.rest D' d.0, u.over r d.1)

  pub told_from : {o : ℕ} → s ≡ Continue o → Onward T P (stands S C) w D D' v o
  told_from e = subst (λ (s : ControlFlow ℕ ℕ). Led T P (stands S C) w D D' v s) e h

  -- rows that were passed before, and the ones passed now
  pub told_on : {o : ℕ} → s ≡ Continue o → older T v ≤ older T q → Onward T P (stands S C) w D₀ D' q o
  told_on e b = let n : _ = told_from e in record { row = n.row; fewer = omega (arith, n.fewer, b); rest = λ E t. u.rest E (n.rest E t); over = λ r t. u.over r (n.over r t) }

  pub go_on : {o : ℕ} → length D' ≡ length D → s ≡ Continue o → Underway T S P C D₀ D' w q o
  go_on k e =
      let n : _ = told_from e in
      let l : _ = u.labelling in
      record { labelling = record { samples = l.samples; counts = l.counts; lows = k ∙ l.lows; rows = l.rows; grows = l.grows; row = n.row }; long = k ∙ u.long; rest = λ E t. u.rest E (n.rest E t); over = λ r t. u.over r (n.over r t) }
