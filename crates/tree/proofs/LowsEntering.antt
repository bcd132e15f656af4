-- The column of the standing rows below after an edge more: rows that came to live, and the line above a row that comes to stand.
use mathlib.Core.Path.{◌≡◌, refl, sym, ap, subst, ◌∙◌}
use mathlib.Core.Bool.{Bool, true, false}
use mathlib.Core.List.{List}
use mathlib.Core.Option.{some}
use mathlib.Core.Logic.{◌⊎◌, inl, inr, ⊎_elim}
use Prim.Native.Nat.{ℕ, ◌<◌, ◌≤◌}
use native.Mathlib.Omega.{arith}
use lib.ListN.{length, get_or, set, length-set}
use Rattle.laws.specs.Bools.{clash, eq?, none_some}
use Rattle.forest.specs.Lines.{Ranked}
use Rattle.meaning.specs.Forest.{Par}
use Rattle.mend.specs.Right as right
use Rattle.mend.specs.Right.{live, stands}
use Rattle.mend.specs.Line.{par_of, Low, here, Pass, start, next, Lives, Rise, as_before, risen}
use Rattle.mend.specs.Labels.{Relabelled}
use Rattle.mend.specs.Kept.{Mended, LowOk}
use Rattle.mend.proofs.Reading.{lt?, no_parent, par_off, ranked, stands_live, stands_no}
use Rattle.mend.proofs.Only.{lives}
use Rattle.mend.proofs.Climbing.{pass_map}
use Rattle.mend.proofs.Lows.{low_stays, low_up}
use Rattle.tree.proofs.Up.{low_stands}
use Rattle.tree.proofs.Reaching.{no_row}
use Rattle.tree.proofs.Entering.{Entry, s_lived, s_older}

-- a way up leads to no younger row
pub pass_older : {P : Par} {K : ℕ → Bool} {rank : ℕ → ℕ} {s u : ℕ} → Ranked P rank → Pass P K s u → rank s ≤ rank u
pass_older ok start = omega arith
pass_older ok (next s e k) = omega (arith, pass_older ok s, ok.grows e)

-- and is no way at all, or ends at a row of those that it may pass
pass_end : {P : Par} {K : ℕ → Bool} {s u : ℕ} → Pass P K s u → (u ≡ s) ⊎ (K u ≡ false)
pass_end start = inl refl
pass_end (next s e k) = inr k

-- what is low for a row is a row
pub low_inside : {T S P C M : List ℕ} {w u : ℕ} → Mended T S P C M → Low (par_of P) (stands S C) (live S C) w u → w < length P
low_inside {P = P} {w = w} md y = ⊎_elim (λ (l : w < length P). l) (λ (l : length P ≤ w). absurd (clash (low_stands y) (no_row md w l))) (lt? w (length P))

-- an edge of a row that does not live is on no line down
pub low_dead : {S P C D : List ℕ} (c p : ℕ) → live S C c ≡ false → LowOk S P C D → LowOk S (set P c p) C D
low_dead {S} {P} {C} {D} c p n lo = record {
  long = lo.long ∙ sym (length-set P c p);
  cell = λ u l. low_stays (λ (v : ℕ). ⊥) (λ d x e k o. o) (λ v o. refl) (λ d x k e m j. (par_off P c p d (λ z. clash m (ap (live S C) z ∙ n)) ∙ e, m)) (lo.cell u l) l (λ o. o);
}

-- ---- an edge more

module _ {T S P C M D U C' M' D₁ : List ℕ} {c p s w : ℕ} (en : Entry T S P C M D U C' M' D₁ c p s w) where
  lv : Lives (par_of (set P c p)) (stands S C') (live S C')
  lv = lives T S (set P c p) C' M' en.mended.shape en.mended.grows en.mended.right

  still_linked : (d x : ℕ) → stands S C x ≡ false → par_of P d ≡ some x → live S C d ≡ true → live S C' x ≡ true → (par_of (set P c p) d ≡ some x) × (live S C' d ≡ true)
  still_linked d x k e l m = (par_off P c p d (λ z. none_some (ap (par_of P) z ∙ no_parent P c en.enters.child en.enters.free) e) ∙ e, en.gained.wakes d l)

  -- a row that came to live does not stand
  not_yet : (y : ℕ) → live S C y ≡ false → stands S C' y ≡ false
  not_yet y l = ⊎_elim (λ z. en.gained.all z y) (λ n. en.gained.same y (λ e. clash (s_lived en n) (ap (live S C) (sym e) ∙ l))) (eq? s right.none) ∙ stands_no S C y l

  -- D' differs from what the climb left at rows that are off alone, where it is right
  module _ (off : ℕ → Type 0) (shut : (d x : ℕ) → par_of (set P c p) d ≡ some x → stands S C' x ≡ false → off d → off x) (same : (v : ℕ) → (off v → ⊥) → stands S C' v ≡ stands S C v) (D' : List ℕ) (c_on : off c → ⊥) (cells : (u : ℕ) → (off u × Low (par_of (set P c p)) (stands S C') (live S C') (get_or D' u 0) u) ⊎ ((off u → ⊥) × (get_or D' u 0 ≡ get_or D₁ u 0))) where
    more_low : (u : ℕ) → live S C' u ≡ true → Low (par_of (set P c p)) (stands S C') (live S C') (get_or D' u 0) u
    more_low u l = go (cells u) (en.gained.rose u)
      where
        led : (x : ℕ) → get_or D' u 0 ≡ x → Low (par_of (set P c p)) (stands S C') (live S C') x u → Low (par_of (set P c p)) (stands S C') (live S C') (get_or D' u 0) u
        led x e y = subst (λ (z : ℕ). Low (par_of (set P c p)) (stands S C') (live S C') z u) (sym e) y

        c_lives : live S C' c ≡ true
        c_lives = en.gained.wakes c en.lives

        go : (off u × Low (par_of (set P c p)) (stands S C') (live S C') (get_or D' u 0) u) ⊎ ((off u → ⊥) × (get_or D' u 0 ≡ get_or D₁ u 0)) → Rise (par_of (set P c p)) (live S C) (live S C') D D₁ c w u → Low (par_of (set P c p)) (stands S C') (live S C') (get_or D' u 0) u
        go (inl f) r = f.1
        go (inr f) (as_before a b) = led (get_or D u 0) (f.1 ∙ b) (low_stays off shut same still_linked (en.kept.low.cell u (sym a ∙ l)) l f.0)
        go (inr f) (risen q b) = led w (f.1 ∙ b) (low_up lv c_lives (low_stays off shut same still_linked en.w_low c_lives c_on) (pass_map not_yet q))

  -- nothing comes to stand: what the climb left is right
  pub same_low : length D₁ ≡ length P → ((v : ℕ) → stands S C' v ≡ stands S C v) → LowOk S (set P c p) C' D₁
  same_low h steady = record { long = h ∙ sym (length-set P c p); cell = more_low (λ (v : ℕ). ⊥) (λ d x e k o. o) (λ v n. steady v) D₁ (λ o. o) (λ u. inr ((λ o. o), refl)) }

  -- s comes to stand: the line above it leads to s
  pub stand_low : {D' : List ℕ} → length D₁ ≡ length P → (s ≡ right.none → ⊥) → Relabelled (set P c p) (stands S C') s D₁ D' s → LowOk S (set P c p) C' D'
  stand_low {D'} h row rl = record {
    long = rl.long ∙ h ∙ sym (length-set P c p);
    cell = more_low (Pass (par_of (set P c p)) (stands S C') s) (λ d x e k o. next o e k) (λ v n. en.gained.same v (λ e. n (subst (λ (x : ℕ). Pass (par_of (set P c p)) (stands S C') s x) (sym e) start))) D'
        (λ o. let a : get_or T s 0 ≤ get_or T c 0 = pass_older (ranked T (set P c p) en.mended.grows) o in omega (arith, s_older en row))
        (λ u. ⊎_elim (λ f. inl (f.0, subst (λ (z : ℕ). Low (par_of (set P c p)) (stands S C') (live S C') z u) (sym f.1) (low_up lv (stands_live S C' s (en.gained.yes row)) (here (en.gained.yes row)) f.0))) (λ f. inr f) (rl.cell u));
  }

  -- the climb has left the cell of s as it was
  pub s_low : (s ≡ right.none → ⊥) → Low (par_of P) (stands S C) (live S C) (get_or D₁ s 0) s
  s_low row = go (en.gained.rose s)
    where
      go : Rise (par_of (set P c p)) (live S C) (live S C') D D₁ c w s → Low (par_of P) (stands S C) (live S C) (get_or D₁ s 0) s
      go (as_before a b) = subst (λ (z : ℕ). Low (par_of P) (stands S C) (live S C) z s) (sym b) (en.kept.low.cell s (s_lived en row))
      go (risen q b) = ⊎_elim (λ (e : s ≡ c). absurd (omega (arith, s_older en row, ap (λ (x : ℕ). get_or T x 0) e))) (λ l. absurd (clash (s_lived en row) l)) (pass_end q)
