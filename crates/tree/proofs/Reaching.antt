-- Where the columns are right, live is reached, and what stands by the columns stands by the definitions.
use mathlib.Core.Path.{◌≡◌, refl, sym, ap, ap₂, subst, fun_ext, ◌∙◌}
use mathlib.Core.Bool.{Bool, true, false}
use mathlib.Core.List.{List, ◌∷◌}
use mathlib.Core.Option.{some}
use mathlib.Core.Logic.{⊎_elim}
use Prim.Native.Nat.{ℕ, zero, suc, ◌+◌, ◌<◌, ◌≤◌}
use native.Mathlib.Omega.{arith}
use borrow.Author.Tests.{lt-ltb, le-ltb, le-leb, lt-leb, ltb-true}
use lib.Dec.{ltb, leb}
use lib.ListN.{length, get_or, get_or-eq_default}
use Rattle.meaning.specs.Words.{or, mem, count, rows, rows_from}
use Rattle.meaning.specs.Forest as def
use Rattle.meaning.specs.Forest.{Ages, reached}
use Rattle.laws.specs.Bools.{not_true, bool_ext}
use Rattle.laws.specs.Facts.{In}
use Rattle.forest.specs.Lines.{Above, here, step, trans}
use Rattle.forest.specs.Contract.{Reached}
use Rattle.forest.specs.TreeLaws.{Aged, reached_of, of_reached, feeds_of, of_feeds}
use Rattle.mend.specs.Right as right
use Rattle.mend.specs.Right.{pick, total, one, live, stands, feeds}
use Rattle.mend.specs.Line.{par_of}
use Rattle.mend.specs.Kept.{Mended}
use Rattle.tree.specs.TreeAt.{node_rows, Flags}
use Rattle.mend.proofs.Reading.{lt?, total_some, feeds_is, is_feeds, live_cases, live_sample, live_no_sample, stands_no_sample, par_of-is, of_par, ranked}
use Rattle.mend.proofs.Only.{lives}

-- the rows of a test counted from the front and from the back
count_from : (h : ℕ → Bool) (i k : ℕ) → count h (rows_from (λ v. v) i k) + total one h i ≡ total one h (i + k)
unfolding rows_from count total
count_from h i zero = let q : i ≡ i + 0 = omega arith in ap (λ (z : ℕ). 0 + z) (ap (total one h) q) ∙ zero_add (total one h (i + 0))
  where
    zero_add : (z : ℕ) → 0 + z ≡ z
    zero_add z = omega arith
count_from h i (suc k) = go (h i) refl (count_from h (suc i) k)
  where
    q : suc i + k ≡ i + suc k
    q = omega arith

    go : (b : Bool) → h i ≡ b → count h (rows_from (λ v. v) (suc i) k) + (total one h i + pick (h i) 1 0) ≡ total one h (suc i + k) → count h (i ∷ rows_from (λ v. v) (suc i) k) + total one h i ≡ total one h (i + suc k)
    go true e ih = let j : count h (rows_from (λ v. v) (suc i) k) + (total one h i + 1) ≡ total one h (suc i + k) = rw e at ih in rw (e, count) (omega (arith, ap (total one h) q))
    go false e ih = let j : count h (rows_from (λ v. v) (suc i) k) + (total one h i + 0) ≡ total one h (suc i + k) = rw e at ih in rw (e, count) (omega (arith, ap (total one h) q))

pub count_rows : (h : ℕ → Bool) (n : ℕ) → count h (node_rows n) ≡ total one h n
unfolding rows total
count_rows h n = let q : 0 + n ≡ n = omega arith in let e : _ = count_from h 0 n in omega (arith, ap (total one h) q)

total_same : (f h : ℕ → Bool) (n : ℕ) → ((v : ℕ) → v < n → f v ≡ h v) → total one f n ≡ total one h n
unfolding total
total_same f h zero s = refl
total_same f h (suc n) s = ap₂ ◌+◌ (total_same f h n (λ v l. s v (omega arith))) (ap (λ (b : Bool). pick b 1 0) (s n (omega arith)))

-- no number that is no row stands
past : (X : List ℕ) (n : ℕ) → length X ≡ n → (u : ℕ) → n ≤ u → length X ≤ u
past X n e u l = omega arith

pub no_row : {T S P C M : List ℕ} → Mended T S P C M → (u : ℕ) → length P ≤ u → stands S C u ≡ false
no_row {T} {S} {P} {C} {M} md u l = stands_no_sample S C u (omega (arith, get_or-eq_default S 0 (past S (length P) md.shape.samples u l))) ∙ le-ltb 1 (get_or C u 0) (omega (arith, get_or-eq_default C 0 (past C (length P) md.shape.counts u l)))

-- and none lives
pub no_life : {T S P C M : List ℕ} → Mended T S P C M → (u : ℕ) → length P ≤ u → live S C u ≡ false
no_life {T} {S} {P} {C} {M} md u l = live_no_sample S C u (omega (arith, get_or-eq_default S 0 (past S (length P) md.shape.samples u l))) ∙ le-ltb 0 (get_or C u 0) (omega (arith, get_or-eq_default C 0 (past C (length P) md.shape.counts u l)))

module _ {T S P C M Q : List ℕ} (md : Mended T S P C M) (fl : Flags S Q (length P)) where
  pub aged : Aged (par_of P) (λ (v : ℕ). get_or T v 0)
  aged = record {
    ranked = ranked T P md.grows;
    bound = λ {b} {p} e. let k : _ = par_of-is P b p e in subst (λ (x : ℕ). get_or T x 0 < Ages) k.1 (md.grows.fits (get_or P b 0) (md.grows.inside b k.0 k.2));
  }

  live_down : (k u : ℕ) → get_or T u 0 < k → u < length P → live S C u ≡ true → Reached (par_of P) (In Q) u
  live_down zero u h l e = absurd (omega arith)
  live_down (suc k) u h l e = ⊎_elim (λ s. (u, fl.only u l s, here)) (λ c. go (total_some (feeds P (live S C) u) (length P) (omega (arith, md.right.count u l))) (λ d a b x. live_down k d a b x)) (live_cases S C u e)
    where
      go : (d : ℕ) × (d < length P) × (feeds P (live S C) u d ≡ true) → ((d : ℕ) → get_or T d 0 < k → d < length P → live S C d ≡ true → Reached (par_of P) (In Q) d) → Reached (par_of P) (In Q) u
      go w ih = let f : _ = feeds_is P (live S C) u w.0 w.2 in
          let n : (get_or P w.0 0 ≡ right.none → ⊥) = (λ z. omega (arith, md.shape.rows, f.0)) in
          let a : get_or T w.0 0 < get_or T u 0 = subst (λ (x : ℕ). get_or T w.0 0 < get_or T x 0) f.0 (md.grows.age w.0 w.1 n) in
          let t : _ = ih w.0 (omega arith) w.1 f.1 in
          (t.0, t.1, trans (step (of_par P w.0 w.1 n ∙ ap some f.0) here) t.2)

  live_up : {a b : ℕ} → live S C b ≡ true → Above (par_of P) a b → live S C a ≡ true
  live_up e here = e
  live_up e (step f x) = live_up ((lives T S P C M md.shape md.grows md.right).up f e) x

  -- live is reached
  pub live_reached : (u : ℕ) → u < length P → live S C u ≡ reached (par_of P) Q u
  live_reached u l = bool_ext
      (λ e. of_reached (par_of P) (λ (v : ℕ). get_or T v 0) aged Q u (live_down (suc (get_or T u 0)) u (omega arith) l e))
      (λ f. let w : _ = reached_of (par_of P) (λ (v : ℕ). get_or T v 0) aged Q u f in live_up (live_sample S C w.0 (fl.set w.0 w.1).1) w.2)

  feeds_same : (u v : ℕ) → v < length P → u < length P → feeds P (live S C) u v ≡ def.feeds (par_of P) (reached (par_of P) Q) u v
  feeds_same u v lv lu = bool_ext
      (λ e. let k : _ = feeds_is P (live S C) u v e in of_feeds (par_of P) (reached (par_of P) Q) u v (of_par P v lv (λ z. omega (arith, md.shape.rows, k.0)) ∙ ap some k.0) (sym (live_reached v lv) ∙ k.1))
      (λ f. let k : _ = feeds_of (par_of P) (reached (par_of P) Q) u v f in is_feeds P (live S C) u v (par_of-is P v u k.0).1 (live_reached v lv ∙ k.1))

  pub count_reached : (u : ℕ) → u < length P → get_or C u 0 ≡ count (def.feeds (par_of P) (reached (par_of P) Q) u) (node_rows (length P))
  count_reached u l = md.right.count u l ∙ total_same (feeds P (live S C) u) (def.feeds (par_of P) (reached (par_of P) Q) u) (length P) (λ v lv. feeds_same u v lv l) ∙ sym (count_rows (def.feeds (par_of P) (reached (par_of P) Q) u) (length P))

  sample_mem : (u : ℕ) → u < length P → ltb 0 (get_or S u 0) ≡ mem u Q
  sample_mem u l = bool_ext (λ e. fl.only u l (ltb-true 0 (get_or S u 0) e)) (λ e. lt-ltb 0 (get_or S u 0) (fl.set u e).1)

  two_leb : (m : ℕ) → ltb 1 m ≡ leb 2 m
  two_leb m = ⊎_elim (λ (l : m < 2). le-ltb 1 m (omega arith) ∙ sym (lt-leb 2 m l)) (λ (l : 2 ≤ m). lt-ltb 1 m (omega arith) ∙ sym (le-leb 2 m l)) (lt? m 2)

  -- what stands by the columns stands
  pub stands_def : (u : ℕ) → u < length P → stands S C u ≡ def.stands (node_rows (length P)) (par_of P) Q u
  unfolding stands def.stands
  stands_def u l = ap₂ or (sample_mem u l) (two_leb (get_or C u 0) ∙ ap (leb 2) (count_reached u l))

  -- nor by the definitions
  no_row_def : (u : ℕ) → length P ≤ u → def.stands (node_rows (length P)) (par_of P) Q u ≡ false
  unfolding def.stands
  no_row_def u l = ap₂ or (not_true (mem u Q) (λ e. omega (arith, (fl.set u e).0))) (lt-leb 2 (count (def.feeds (par_of P) (reached (par_of P) Q) u) (node_rows (length P))) (omega (arith, none_feeds)))
    where
      none_feeds : count (def.feeds (par_of P) (reached (par_of P) Q) u) (node_rows (length P)) ≡ 0
      none_feeds = ⊎_elim
          (λ (k : 0 < total one (def.feeds (par_of P) (reached (par_of P) Q) u) (length P)). let d : _ = total_some (def.feeds (par_of P) (reached (par_of P) Q) u) (length P) k in let e : _ = par_of-is P d.0 u (feeds_of (par_of P) (reached (par_of P) Q) u d.0 d.2).0 in absurd (omega (arith, md.grows.inside d.0 e.0 e.2, e.1)))
          (λ k. omega (arith, k, count_rows (def.feeds (par_of P) (reached (par_of P) Q) u) (length P)))
          (lt? 0 (total one (def.feeds (par_of P) (reached (par_of P) Q) u) (length P)))

  pub stands_all : stands S C ≡ def.stands (node_rows (length P)) (par_of P) Q
  stands_all = fun_ext (λ u. ⊎_elim (λ (l : u < length P). stands_def u l) (λ (l : length P ≤ u). no_row md u l ∙ sym (no_row_def u l)) (lt? u (length P)))
