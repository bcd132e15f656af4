-- Between two changes no edge begins or ends: output parents and nearest standing rows stay.
use mathlib.Core.Path.{◌≡◌, sym, ap}
use mathlib.Core.List.{List}
use mathlib.Core.Logic.{◌⊎◌, inl, inr, ⊎_elim}
use Prim.Native.Nat.{ℕ, ◌+◌, ◌<◌, ◌≤◌}
use native.Mathlib.Omega.{arith}
use lib.ListN.{length, get_or}
use Rattle.meaning.specs.Words.{at}
use Rattle.meaning.specs.Rows.{edges_of}
use Rattle.meaning.specs.Forest.{Par, Ages, reached, stands, low, drawn}
use Rattle.bridge.specs.Parents.{parent_row}
use Rattle.accepted.specs.Columns.{all_rows-is}
use Rattle.encoding.specs.Quiet.{Still, forest_still}
use Rattle.byrows.specs.Rows.{all_rows, reached_row, stands_row, up_row, low_row}
use Rattle.tree.specs.Sweep.{Index, Cut, Ahead, Plan}
use Rattle.tree.specs.TreeAt.{columns}
use Rattle.mend.proofs.Reading.{lt?}

-- a key that both cuts agree on is before the one or from the other on
either_side : {key b : List ℕ} {m i y z : ℕ} → Index key b m → Cut key b i y y → Cut key b i z z → (e : ℕ) → e < m → (get_or key e 0 < y) ⊎ (z ≤ get_or key e 0)
either_side {key} {b} {m} {i} {y} {z} ix c d e l = go (ix.all e l)
  where
    go : (k : ℕ) × (k < length b) × (get_or b k 0 ≡ e) → (get_or key e 0 < y) ⊎ (z ≤ get_or key e 0)
    go (k, h, q) = ⊎_elim
        (λ (a : k < i). inl (rw q at (c.past k a)))
        (λ (a : i ≤ k). inr (rw q at (d.next k a h)))
        (lt? k i)

module _ (x : ℕ) {T l r pa ch bl br : List ℕ} {n i j next : ℕ} (pl : Plan T l r pa ch bl br n) (here : Ahead l r bl br i j (x + 1)) (there : Ahead l r bl br i j next) where
  still_edge : (y : ℕ) → x ≤ y → y < next → (e : ℕ) → e < length l → Still x y (record { left = at l e; right = at r e; parent = at pa e; child = at ch e })
  still_edge y a b e h = record {
    begins = λ k. ⊎_elim (λ (q : get_or l e 0 < x + 1). absurd (omega arith)) (λ (q : next ≤ get_or l e 0). omega arith) (either_side pl.lefts here.begun there.begun e (omega (arith, pl.checked.lefts)));
    ends = λ k. ⊎_elim (λ (q : get_or r e 0 < x + 1). absurd (omega arith)) (λ (q : next ≤ get_or r e 0). omega arith) (either_side pl.rights here.ended there.ended e (omega (arith, pl.checked.lefts)));
  }

  -- "nothing changes": the forest of rows is the same up to the next change
  pub forest_same : (y : ℕ) → x ≤ y → y < next → parent_row (columns l r pa ch) x ≡ parent_row (columns l r pa ch) y
  unfolding parent_row edges_of
  forest_same y a b = forest_still x y a (edges_of (λ v. v) (columns l r pa ch)) (all_rows-is (Still x y) (λ e. record { left = at l e; right = at r e; parent = at pa e; child = at ch e }) (length l) (still_edge y a b))

  pub up_same : (k : ℕ) (Q : List ℕ) (y c : ℕ) → x ≤ y → y < next → up_row (columns l r pa ch) k Q y c ≡ up_row (columns l r pa ch) k Q x c
  unfolding up_row stands_row
  up_same k Q y c a b = ap (λ (P : Par). drawn P (stands (all_rows k) P Q) c) (sym (forest_same y a b))

  pub low_same : (k : ℕ) (Q : List ℕ) (y u : ℕ) → x ≤ y → y < next → low_row (columns l r pa ch) k Q y u ≡ low_row (columns l r pa ch) k Q x u
  unfolding low_row reached_row stands_row
  low_same k Q y u a b = ap (λ (P : Par). low (all_rows k) P (reached P Q) (stands (all_rows k) P Q) Ages u) (sym (forest_same y a b))
