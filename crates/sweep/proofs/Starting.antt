-- The sweep starts with no edge, no finished edge, no open run, no mark and no mutation placed.
use mathlib.Core.Path.{◌≡◌, refl, sym, ◌∙◌}
use mathlib.Core.Bool.{Bool, true, false}
use mathlib.Core.List.{List, []}
use mathlib.Core.Option.{none}
use mathlib.Core.Logic.{⊎_elim}
use Prim.Native.Nat.{ℕ, ◌<◌}
use native.Mathlib.Omega.{arith}
use lib.ListN.{length, get_or}
use Rattle.meaning.specs.Words.{at}
use Rattle.laws.specs.Bools.{clash, eq?, none_some}
use Rattle.bridge.specs.Parents.{no_row}
use Rattle.mend.specs.Right.{stands}
use Rattle.mend.specs.Line.{par_of, opt, Over, root, hit, on}
use Rattle.mend.specs.Kept.{Filled}
use Rattle.tree.specs.Sweep as tree
use Rattle.tree.specs.Sweep.{seen, Plan}
use Rattle.mend.proofs.Reading.{opt_some, no_parent}
use Rattle.tree.proofs.Seeing.{not_begun}
use Rattle.tree.proofs.Sweeping.{plan_on}
use Rattle.runs.specs.Runs.{Store, Room}
use Rattle.runs.specs.Sweep.{swept_start, stored_start}
use Rattle.placing.specs.Movers.{held_start}
use Rattle.sweep.specs.Columns.{Input, State, low_cell}
use Rattle.sweep.specs.Sweeping.{Asked, Steady, Going}
use Rattle.sweep.proofs.Inside.{up_row_inside}

-- ---- with no edge nothing is above any row

no_over : (P : List ℕ) {K : ℕ → Bool} (r : ℕ) {v : ℕ} → par_of P v ≡ none → Over (par_of P) K (opt r) v → r ≡ no_row
no_over P r e (root q o) = ⊎_elim (λ (z : r ≡ no_row). z) (λ (z : r ≡ no_row → ⊥). absurd (none_some o (opt_some r z))) (eq? r no_row)
no_over P r e (hit q k o) = absurd (none_some e q)
no_over P r e (on q k o) = absurd (none_some e q)

bare : {T S P C M D U l r pa ch bl br : List ℕ} {y : ℕ} → tree.Swept T S P C M D U l r pa ch bl br 0 0 y → (c : ℕ) → c < length P → get_or U c 0 ≡ no_row
unfolding seen
bare {S = S} {P} {C} {U = U} {bl = bl} {br} sw c l = go (stands S C c) refl
  where
    alone : get_or P c 0 ≡ no_row
    alone = sw.holds.nay c l (λ e h a q. clash a (not_begun bl br 0 0 e refl))

    go : (t : Bool) → stands S C c ≡ t → get_or U c 0 ≡ no_row
    go true e = no_over P (get_or U c 0) (no_parent P c l alone) (sw.kept.up.cell c e)
    go false e = sw.kept.up.idle c l e

-- ---- the start

-- columns that keep their lengths keep their room
pub room_cleared : (n : ℕ) (D D' : Store) → Room n D → length D'.left ≡ length D.left → length D'.right ≡ length D.right → length D'.parent ≡ length D.parent → length D'.child ≡ length D.child → length D'.stood ≡ length D.stood → Room n D'
room_cleared n D D' r a b c d e = record {
  right_long = b ∙ r.right_long ∙ sym a;
  parent_long = c ∙ r.parent_long ∙ sym a;
  child_long = d ∙ r.child_long ∙ sym a;
  stood_long = e ∙ r.stood_long;
}

module _ {L : ℕ} {I : Input} {t : ℕ} {K₀ K : List ℕ} {A : State} (Z : State) (ask : Asked L I t K₀ A)
    (sw : (l r pa ch bl br : List ℕ) → Plan I.time l r pa ch bl br (length Z.parents) → tree.Swept I.time I.sample Z.parents Z.counts Z.sums Z.lows Z.ups l r pa ch bl br 0 0 0)
    (long : length Z.parents ≡ length A.parents)
    (lefts : Filled Z.runs.left (length A.runs.left) 0)
    (pars : Filled Z.runs.par (length A.runs.par) no_row)
    (marks : Filled K (length K₀) 0)
    (stood : Filled Z.store.stood (length A.store.stood) 0)
    (room : Room (length I.time) Z.store)
    (mrows : length Z.moves.row ≡ length A.moves.row)
    (mlows : length Z.moves.low ≡ length A.moves.low)
    (z : Z.begun ≡ 0) (w : Z.ended ≡ 0) (p : Z.placed ≡ 0) (k : Z.moves.count ≡ 0) where
  abbrev n : ℕ
  n = length I.time

  start : tree.Swept I.time I.sample Z.parents Z.counts Z.sums Z.lows Z.ups I.left I.right I.parent I.child I.by_left I.by_right 0 0 0
  start = sw I.left I.right I.parent I.child I.by_left I.by_right (plan_on (long ∙ sym ask.shape.times) ask.plan)

  none_open : (c : ℕ) → c < n → at Z.runs.par c ≡ no_row
  none_open c l = pars.cells c (omega (arith, ask.par_long))

  pub steady_start : Steady L I t K 0 Z
  steady_start = record {
    tree = rw (z, w) start;
    sites = ask.sites;
    listed = ask.listed;
    marks_long = marks.long ∙ ask.marks_long;
    bare = λ v l. marks.cells v (omega (arith, ask.marks_long));
    runs = record { left_long = lefts.long ∙ ask.left_long; par_long = pars.long ∙ ask.par_long; rows = λ c l h. absurd (h (none_open c l)) };
    room = room;
    numbered = ask.numbered;
    even = mlows ∙ ask.even ∙ sym mrows;
    few = omega arith;
    most = omega arith;
    ahead = λ i a l. omega arith;
    inside = omega arith;
  }

  pub going_start : Z.store.count ≡ 0 → (Q : List ℕ) → Going L I 0 Q [] Z
  going_start e Q = record {
    swept = swept_start _ n L (at Z.runs.left) (at Z.runs.par)
        (λ y c q l h k. omega (arith, up_row_inside ask.plan.checked Q y c q h, ask.shape.rows, ask.shape.times))
        (λ c l. lefts.cells c (omega (arith, ask.left_long)))
        none_open;
    stored = stored_start n Z.store e (λ q l. stood.cells q (omega (arith, room.stood_long, stood.long)));
    current = λ c l. none_open c l ∙ sym (bare start c (omega (arith, start.kept.mended.shape.times)));
    held = rw p (held_start (low_cell I Q) Z.moves k);
  }
