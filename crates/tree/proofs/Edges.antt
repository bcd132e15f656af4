-- The state after an edge more or less: what the climb and the turn at its end leave is right again.
use mathlib.Core.Path.{◌≡◌, refl, sym, ◌∙◌}
use mathlib.Core.Bool.{true, false}
use mathlib.Core.List.{List}
use Prim.Native.Nat.{ℕ, ◌<◌}
use native.Mathlib.Omega.{arith}
use lib.ListN.{length, get_or, set, length-set}
use Rattle.mend.specs.Right as right
use Rattle.mend.specs.Right.{live, stands}
use Rattle.mend.specs.Line.{Gained, Lost}
use Rattle.mend.specs.Kept.{Mended, Kept, Enters}
use Rattle.mend.specs.Labels.{Labelling}
use Rattle.mend.specs.Turns.{settled, Gaining, Gain, gain_calm, gain_stand, Losing, Loss, loss_calm, loss_fall}
use Rattle.mend.proofs.Turning.{settled_yes, settled_no, more_stands}
use Rattle.tree.proofs.OneEdge.{mended_dead}
use Rattle.tree.proofs.Entering.{Entry, s_in, steady, same_up, stand_up, dead_up}
use Rattle.tree.proofs.LowsEntering.{low_inside, low_dead, same_low, stand_low, s_low}
use Rattle.tree.proofs.Leaving.{Parting, less_up, fall_up, dead_less}
use Rattle.tree.proofs.LowsLeaving as lows_leaving
use Rattle.tree.proofs.LowsLeaving.{c_lives, calm_low, less_low, child_low, only_in, heir_low, fall_low}

-- the columns that a relabelling goes by
labelling : {T S P C M D : List ℕ} {s : ℕ} → Mended T S P C M → length D ≡ length P → s < length P → Labelling T S P C D s
labelling md h l = record { samples = md.shape.samples; counts = md.shape.counts; lows = h; rows = md.shape.rows; grows = md.grows; row = l }

-- ---- an edge more

pub entry : {T S P C M D U P' C' M' D₁ : List ℕ} {c p s : ℕ} → Kept T S P C M D U → Enters T P c p → live S C c ≡ true → P' ≡ set P c p → Mended T S P' C' M' → Gained S P' C C' D D₁ p c (get_or D c 0) s → Entry T S P C M D U C' M' D₁ c p s (get_or D c 0)
entry {c = c} k e l is md gd = record { kept = k; enters = e; lives = l; mended = rw is at md; gained = rw is at gd; w_in = low_inside k.mended (k.low.cell c l); w_low = k.low.cell c l }

module _ {T S P C M D U P' C' M' D₁ : List ℕ} {c p s w : ℕ} (en : Entry T S P C M D U C' M' D₁ c p s w) (is : P' ≡ set P c p) (hd : length D₁ ≡ length D) where
  long : length (set P c p) ≡ length P
  long = length-set P c p

  lows : length D₁ ≡ length P
  lows = hd ∙ en.kept.low.long

  -- what the turn at s asks
  pub gaining : Gaining T S P' C' D₁ U w s
  gaining = rw is (record {
    lows = lows ∙ sym long;
    ups = en.kept.up.long ∙ sym long;
    child = omega (arith, en.w_in, long);
    line = λ n. labelling en.mended (lows ∙ sym long) (omega (arith, s_in en n, long));
    below = λ n. omega (arith, low_inside en.kept.mended (s_low en n), long);
  })

  entered_set : {D' U' : List ℕ} → Gain S (set P c p) C' D₁ D' U U' w s → Kept T S (set P c p) C' M' D' U'
  entered_set (gain_calm t ed eu) =
      let calm : ((s ≡ right.none → ⊥) → stands S C s ≡ true) = (λ n. sym (en.gained.stood n) ∙ settled_yes S C' 2 s t n) in
      record { mended = en.mended; low = rw ed (same_low en lows (steady en calm)); up = rw eu (same_up en calm) }
  entered_set (gain_stand o t rl ov eu) =
      let f : _ = settled_no S C' 2 s t in
      let y : _ = s_low en f.0 in
      record { mended = en.mended; low = stand_low en lows f.0 rl; up = rw eu (stand_up en o f.0 (sym (en.gained.stood f.0) ∙ f.1) (low_inside en.kept.mended y) y ov) }

  pub entered : {D' U' : List ℕ} → Gain S P' C' D₁ D' U U' w s → Kept T S P' C' M' D' U'
  entered g = rw is (entered_set (rw is at g))

pub entered_dead : {T S P C M D U : List ℕ} {c p : ℕ} → Kept T S P C M D U → Enters T P c p → live S C c ≡ false → Kept T S (set P c p) C M D U
entered_dead {c = c} {p} k e l = record { mended = mended_dead p k.mended e.child (λ n. (e.parent, e.older)) l; low = low_dead c p l k.low; up = dead_up k e l }

-- ---- an edge less

pub parting : {T S P C M D U P' C' M' : List ℕ} {c s : ℕ} → Kept T S P C M D U → c < length P → (get_or P c 0 ≡ right.none → ⊥) → live S C c ≡ true → P' ≡ set P c right.none → Mended T S P' C' M' → Lost T S P' C C' (get_or P c 0) s → Parting T S P C M D U C' M' c s
parting k h had l is md lo = record { kept = k; child = h; had = had; lives = l; mended = rw is at md; lost = rw is at lo }

module _ {T S P C M D U P' C' M' : List ℕ} {c s : ℕ} (pt : Parting T S P C M D U C' M' c s) (is : P' ≡ set P c right.none) where
  w_in : get_or D c 0 < length P
  w_in = low_inside pt.kept.mended (pt.kept.low.cell c pt.lives)

  less : length (set P c right.none) ≡ length P
  less = length-set P c right.none

  fallen : settled S C' 1 s ≡ false → (s ≡ right.none → ⊥) × (stands S C' s ≡ false)
  fallen t = let f : _ = settled_no S C' 1 s t in (f.0, sym (more_stands S C' s) ∙ f.1)

  -- what the turn at s asks
  pub losing : Losing T S P' C' M' D U (get_or D c 0) s
  losing = rw is (record {
    sums = pt.mended.shape.sums;
    lows = pt.kept.low.long ∙ sym less;
    ups = pt.kept.up.long ∙ sym less;
    child = omega (arith, w_in, less);
    line = λ n. labelling pt.mended (pt.kept.low.long ∙ sym less) (pt.lost.still n).0;
    only = λ t. let f : _ = fallen t in omega (arith, only_in pt f.0 f.1, less);
    below = λ t. let f : _ = fallen t in low_inside pt.mended (heir_low pt f.0 f.1);
  })

  left_set : {D' U' : List ℕ} → Loss S (set P c right.none) C' M' D D' U U' (get_or D c 0) s → Kept T S (set P c right.none) C' M' D' U'
  left_set (loss_calm t ed eu) =
      let calm : ((s ≡ right.none → ⊥) → stands S C' s ≡ true) = (λ n. sym (more_stands S C' s) ∙ settled_yes S C' 1 s t n) in
      let all : _ = lows_leaving.steady pt calm in
      record { mended = pt.mended; low = rw ed (less_low pt all); up = rw eu (less_up pt w_in (calm_low pt all c (c_lives pt)) all) }
  left_set (loss_fall o t rl ov eu) =
      let f : _ = fallen t in
      let y : _ = heir_low pt f.0 f.1 in
      record { mended = pt.mended; low = fall_low pt f.0 f.1 rl; up = rw eu (fall_up pt w_in (child_low pt f.0 f.1) o f.0 f.1 (omega (arith, low_inside pt.mended y, less)) y ov) }

  pub left : {D' U' : List ℕ} → Loss S P' C' M' D D' U U' (get_or D c 0) s → Kept T S P' C' M' D' U'
  left g = rw is (left_set (rw is at g))

pub left_dead : {T S P C M D U : List ℕ} {c : ℕ} → Kept T S P C M D U → c < length P → (get_or P c 0 ≡ right.none → ⊥) → live S C c ≡ false → Kept T S (set P c right.none) C M D U
left_dead {c = c} k h had l = let m : _ = mended_dead right.none k.mended h (λ n. absurd (n refl)) l in record { mended = m; low = low_dead c right.none l k.low; up = dead_less k h had l m }
