-- The column of the standing rows below after an edge less: only the line above a row that ceases to stand changes.
use mathlib.Core.Path.{◌≡◌, sym, ap, subst, ◌∙◌}
use mathlib.Core.Bool.{true, false}
use mathlib.Core.List.{List}
use mathlib.Core.Option.{some}
use mathlib.Core.Logic.{⊎_elim}
use Prim.Native.Nat.{ℕ, ◌<◌, ◌≤◌}
use native.Mathlib.Omega.{arith}
use lib.ListN.{length, get_or, set}
use lib.Seq.{get_or-set_same}
use Rattle.laws.specs.Bools.{clash, eq?, none_some}
use Rattle.mend.specs.Right as right
use Rattle.mend.specs.Right.{live, stands}
use Rattle.mend.specs.Line.{par_of, Low, down, Pass, start, next, Lives}
use Rattle.mend.specs.Labels.{Relabelled}
use Rattle.mend.specs.Kept.{LowOk}
use Rattle.mend.proofs.Reading.{par_of-is, no_parent, par_off, ranked}
use Rattle.mend.proofs.Only.{lives, Child, only_child}
use Rattle.mend.proofs.Lows.{low_stays, low_up}
use Rattle.tree.proofs.Leaving.{Parting, long, older, lv}
use Rattle.tree.proofs.LowsEntering.{pass_older}

module _ {T S P C M D U C' M' : List ℕ} {c s : ℕ} (pt : Parting T S P C M D U C' M' c s) where
  lv_before : Lives (par_of P) (stands S C) (live S C)
  lv_before = lives T S P C M pt.kept.mended.shape pt.kept.mended.grows pt.kept.mended.right

  -- c lives still
  pub c_lives : live S C' c ≡ true
  c_lives = pt.lost.under.same c (older pt) ∙ pt.lives

  -- what did not stand does not
  nor_now : (x : ℕ) → stands S C x ≡ false → stands S C' x ≡ false
  nor_now x k = ⊎_elim (λ z. pt.lost.all z x) (λ n. pt.lost.same x (λ e. clash (pt.lost.was n) (ap (stands S C) (sym e) ∙ k))) (eq? s right.none) ∙ k

  only : (x : ℕ) → x < length P → live S C' x ≡ true → stands S C' x ≡ false → Child T S (set P c right.none) C' x (get_or M' x 0)
  only x h l k = only_child T S (set P c right.none) C' M' pt.mended.shape pt.mended.grows pt.mended.right x (omega (arith, h, long pt)) l k

  -- the only live child of a row that lives still is the one that it had
  still_linked : (d x : ℕ) → stands S C x ≡ false → par_of P d ≡ some x → live S C d ≡ true → live S C' x ≡ true → (par_of (set P c right.none) d ≡ some x) × (live S C' d ≡ true)
  still_linked d x k e l m =
      let i : _ = par_of-is P d x e in
      let h : x < length P = subst (λ (y : ℕ). y < length P) i.1 (pt.kept.mended.grows.inside d i.0 i.2) in
      let ch : _ = only x h m (nor_now x k) in
      let q : d ≡ get_or M' x 0 = lv_before.only k e (sym (par_off P c right.none (get_or M' x 0) (not_c ch.parent)) ∙ ch.parent) l (pt.lost.under.less (get_or M' x 0) ch.lives) in
      (ap (par_of (set P c right.none)) q ∙ ch.parent, ap (live S C') q ∙ ch.lives)
    where
      not_c : {y : ℕ} → par_of (set P c right.none) y ≡ some x → y ≡ c → ⊥
      not_c f z = none_some (ap (par_of (set P c right.none)) z ∙ no_parent (set P c right.none) c (omega (arith, long pt, pt.child)) (get_or-set_same P c right.none 0 pt.child)) f

  -- a row keeps its low, where nothing on its line down has ceased to stand
  module _ (off : ℕ → Type 0) (shut : (d x : ℕ) → par_of (set P c right.none) d ≡ some x → stands S C' x ≡ false → off d → off x) (same : (v : ℕ) → (off v → ⊥) → stands S C' v ≡ stands S C v) where
    stays : (u : ℕ) → live S C' u ≡ true → (off u → ⊥) → Low (par_of (set P c right.none)) (stands S C') (live S C') (get_or D u 0) u
    stays u l n = low_stays off shut same still_linked (pt.kept.low.cell u (pt.lost.under.less u l)) l n

  -- where the climb ended at a row that stands, or at none, all stand as before
  pub steady : ((s ≡ right.none → ⊥) → stands S C' s ≡ true) → (v : ℕ) → stands S C v ≡ stands S C' v
  steady calm v = ⊎_elim (λ z. sym (pt.lost.all z v)) (λ n. ⊎_elim (λ (q : v ≡ s). ap (stands S C) q ∙ pt.lost.was n ∙ sym (ap (stands S C') q ∙ calm n)) (λ m. sym (pt.lost.same v m)) (eq? v s)) (eq? s right.none)

  -- nothing ceases to stand: the column is right as it is
  module _ (all : (v : ℕ) → stands S C v ≡ stands S C' v) where
    pub calm_low : (u : ℕ) → live S C' u ≡ true → Low (par_of (set P c right.none)) (stands S C') (live S C') (get_or D u 0) u
    calm_low u l = stays (λ (v : ℕ). ⊥) (λ d x e k o. o) (λ v n. sym (all v)) u l (λ o. o)

    pub less_low : LowOk S (set P c right.none) C' D
    less_low = record { long = pt.kept.low.long ∙ sym (long pt); cell = calm_low }

  -- s ceases to stand: the line above it leads to where its only live child leads
  module _ (row : s ≡ right.none → ⊥) (new : stands S C' s ≡ false) where
    pub s_in : s < length P
    s_in = omega (arith, (pt.lost.still row).0, long pt)

    child_of : Child T S (set P c right.none) C' s (get_or M' s 0)
    child_of = only s s_in (pt.lost.still row).1 new

    -- a row that is not on that line keeps its low
    apart_low : (u : ℕ) → live S C' u ≡ true → (Pass (par_of (set P c right.none)) (stands S C') s u → ⊥) → Low (par_of (set P c right.none)) (stands S C') (live S C') (get_or D u 0) u
    apart_low u l n = stays (Pass (par_of (set P c right.none)) (stands S C') s) (λ d x e k o. next o e k) (λ v m. pt.lost.same v (λ e. m (subst (λ (x : ℕ). Pass (par_of (set P c right.none)) (stands S C') s x) (sym e) start))) u l n

    -- nor does a younger one
    young_low : (u : ℕ) → live S C' u ≡ true → get_or T u 0 < get_or T s 0 → Low (par_of (set P c right.none)) (stands S C') (live S C') (get_or D u 0) u
    young_low u l y = apart_low u l (λ o. let a : get_or T s 0 ≤ get_or T u 0 = pass_older (ranked T (set P c right.none) pt.mended.grows) o in omega arith)

    pub child_low : Low (par_of (set P c right.none)) (stands S C') (live S C') (get_or D c 0) c
    child_low = young_low c c_lives (omega (arith, older pt, pt.lost.above row))

    pub only_in : get_or M' s 0 < length P
    only_in = omega (arith, child_of.inside, long pt)

    -- the only live child of s leads where s leads now
    pub heir_low : Low (par_of (set P c right.none)) (stands S C') (live S C') (get_or D (get_or M' s 0) 0) s
    heir_low = down new child_of.parent child_of.lives (young_low (get_or M' s 0) child_of.lives child_of.younger)

    pub fall_low : {D' : List ℕ} → Relabelled (set P c right.none) (stands S C') (get_or D (get_or M' s 0) 0) D D' s → LowOk S (set P c right.none) C' D'
    fall_low {D'} rl = record {
      long = rl.long ∙ pt.kept.low.long ∙ sym (long pt);
      cell = λ u l. ⊎_elim
          (λ f. subst (λ (z : ℕ). Low (par_of (set P c right.none)) (stands S C') (live S C') z u) (sym f.1) (low_up (lv pt) (pt.lost.still row).1 heir_low f.0))
          (λ f. subst (λ (z : ℕ). Low (par_of (set P c right.none)) (stands S C') (live S C') z u) (sym f.1) (apart_low u l f.0))
          (rl.cell u);
    }
