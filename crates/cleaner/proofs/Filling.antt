-- The sweep's lists in the lent columns, whether they were copied there or swept there.
use mathlib.Core.Path.{◌≡◌, refl, ap, ◌∙◌}
use mathlib.Core.List.{List, ◌++◌}
use Prim.Native.Nat.{ℕ, suc, ◌+◌, ◌-◌, ◌<◌, ◌≤◌}
use native.Mathlib.Omega.{arith}
use lib.ListN.{length, get_or, take, drop, length-append, length-drop, get_or-append}
use lib.Seq.{length-take-le, get_or-take, get_or-drop, get_or-append-add}
use Rattle.meaning.specs.Words.{at}
use Rattle.meaning.specs.Rows.{EdgeColumns}
use Rattle.meaning.specs.Answer.{limits, put}
use Rattle.placing.specs.Placing.{Moves}
use Rattle.runs.specs.Runs.{Store, Cell, no_edge}
use Rattle.sweep.specs.Columns.{Input}
use Rattle.sweep.specs.Sweeping.{Done}
use Rattle.cleaner.specs.Reading.{put_at}
use Rattle.cleaner.specs.Finishing.{Front, Filled}

-- the first k cells of the column are those of f, and the others are as they were
pub record Written (k : ℕ) (f old new : List ℕ) : Type 0 where
  pub front : Front k old new
  pub same : (i : ℕ) → i < k → at new i ≡ at f i

-- a front of k cells that came back as p
part_front : (k : ℕ) (old p : List ℕ) → k ≤ length old → length p ≡ k → Front k old (p ++ drop k old)
part_front k old p h e = record {
  long = omega (arith, length-append p (drop k old), length-drop k old);
  past = λ i l.
      let q : i ≡ length p + (i - k) = omega arith in
      let s : k + (i - k) ≡ i = omega arith in
      ap (at (p ++ drop k old)) q ∙ get_or-append-add p (drop k old) (i - k) 0 ∙ get_or-drop k old (i - k) 0 ∙ ap (at old) s;
}

-- the same, and the cells of p in it
pub part_written : (k : ℕ) (old p : List ℕ) → k ≤ length old → length p ≡ k → Written k p old (p ++ drop k old)
part_written k old p h e = record {
  front = part_front k old p h e;
  same = λ i l. get_or-append p (drop k old) 0 i (omega arith);
}

-- k cells put over the front
put_part : (k : ℕ) (new old : List ℕ) → length new ≡ k → k ≤ length old → Front k old (put new old)
unfolding put
put_part k new old e h =
    let f : Front (length new) old (new ++ drop (length new) old) = part_front (length new) old new (omega arith) refl in
    record { long = f.long; past = λ i l. f.past i (omega arith) }

-- the first k cells of f put there
put_written : (k : ℕ) (f old : List ℕ) → k ≤ length f → k ≤ length old → Written k f old (put (take k f) old)
put_written k f old h g =
    let e : length (take k f) ≡ k = length-take-le k f h in
    record { front = put_part k (take k f) old e g; same = λ i l. put_at (take k f) old i (omega arith) ∙ get_or-take k f i 0 l }

pub copy_written : (k : ℕ) (f old new : List ℕ) → k ≤ length f → k ≤ length old → new ≡ put (take k f) old → Written k f old new
copy_written k f old new h g e = rw e (put_written k f old h g)

module _ {L : ℕ} {I : Input} {Q : List ℕ} {D₀ : Store} {W₀ : Moves} {D : Store} {W : Moves} (d : Done L I Q D₀ W₀ D W) where
  -- the sweep counts up to one edge past the limit
  pub count_few : D.count ≤ suc limits.edges
  count_few = omega (arith, d.edges.2.counted)

  -- columns written with the sweep's lists are filled
  pub filled : (k m : ℕ) → k ≤ suc limits.edges → k ≤ length D.left → m ≤ length W.row → (out out' : EdgeColumns) (rows rows' lows lows' : List ℕ) → Written k D.left out.left out'.left → Written k D.right out.right out'.right → Written k D.parent out.parent out'.parent → Written k D.child out.child out'.child → Written m W.row rows rows' → Written m W.low lows lows' → Filled L I Q k m out out' rows rows' lows lows'
  filled k m few h g out out' rows rows' lows lows' wl wr wp wc wm wz = record {
    edges = d.edges.0;
    collected = d.edges.1;
    cells = λ i l b.
        let c : Cell D i (get_or d.edges.0 i no_edge) = d.edges.2.cells i (omega (arith, d.edges.2.counted)) (omega arith) in
        record { left = wl.same i l ∙ c.left; right = wr.same i l ∙ c.right; parent = wp.same i l ∙ c.parent; child = wc.same i l ∙ c.child };
    left_front = wl.front;
    right_front = wr.front;
    parent_front = wp.front;
    child_front = wc.front;
    moving = λ j l b.
        let n : j < W.count = omega (arith, d.held.counted) in
        (wm.same j l ∙ d.held.rows j n (omega arith), wz.same j l ∙ d.held.lows j n (omega arith));
    rows_front = wm.front;
    lows_front = wz.front;
  }
