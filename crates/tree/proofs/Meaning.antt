-- The columns are what the definitions say: the tree at a position.
use mathlib.Core.Path.{◌≡◌, refl, sym, ap, ap₂, subst, ◌∙◌}
use mathlib.Core.Bool.{Bool, true, false}
use mathlib.Core.List.{List}
use mathlib.Core.Option.{Option, none, some}
use mathlib.Core.Logic.{⊎_elim}
use Prim.Native.Nat.{ℕ, ◌+◌, ◌<◌, ◌≤◌}
use native.Mathlib.Omega.{arith}
use lib.ListN.{length, get_or}
use lib.Seq.{ext_get_or}
use Rattle.meaning.specs.Words.{rows}
use Rattle.meaning.specs.Rows.{EdgeColumns}
use Rattle.meaning.specs.Forest as def
use Rattle.meaning.specs.Forest.{Par, reached, up, drawn}
use Rattle.laws.specs.Bools.{truth, eq?, none_some, some_inj}
use Rattle.laws.specs.Counting.{length_rows, get_rows}
use Rattle.bridge.specs.Parents.{code, parent_row}
use Rattle.forest.specs.Contract.{Near, found, Up}
use Rattle.forest.specs.Contract as contract
use Rattle.forest.specs.TreeLaws.{Aged, up_of, of_up}
use Rattle.mend.specs.Right as right
use Rattle.mend.specs.Right.{stands}
use Rattle.mend.specs.Line.{par_of, opt, Over, root, hit, on}
use Rattle.mend.specs.Kept.{Kept}
use Rattle.tree.specs.Sweep.{Ahead, Swept}
use Rattle.tree.specs.TreeAt.{columns, stands_at, node_rows, Flags, TreeAt}
use Rattle.mend.proofs.Reading.{opt_none, opt_some, par_in}
use Rattle.tree.proofs.Up.{over_one}
use Rattle.tree.proofs.Reaching.{aged, live_reached, stands_all}
use Rattle.tree.proofs.Placing.{placed, ahead_between}

-- ---- what is over a row is the up of the definitions

over_some : {P : Par} {K : ℕ → Bool} {w v : ℕ} → Over P K (some w) v → Up P K w v
over_some (root e z) = absurd (none_some z refl)
over_some {P} {K} {w = w} (hit {p = p} e k z) = let y : w ≡ p = some_inj refl z in (p, e, subst (λ (a : ℕ). Near P K a p) (sym y) (found k))
over_some (on {p = p} e k r) = let t : _ = over_some r in (p, e, contract.on k t.1 t.2)

near_over : {P : Par} {K : ℕ → Bool} {w v p : ℕ} → P v ≡ some p → Near P K w p → Over P K (some w) v
near_over e (found k) = hit e k refl
near_over e (contract.on k f n) = on e k (near_over f n)

pub over_up : (P : Par) (K : ℕ → Bool) (rank : ℕ → ℕ) (ok : Aged P rank) (o : Option ℕ) (v : ℕ) → Over P K o v → up P K v ≡ o
over_up P K rank ok (some w) v h = of_up P K rank ok w v (over_some h)
over_up P K rank ok none v h = go (up P K v) refl
  where
    go : (o : Option ℕ) → up P K v ≡ o → up P K v ≡ none
    go none e = e
    go (some w) e = let t : _ = up_of P K w v e in absurd (none_some refl (over_one h (near_over t.1 t.2)))

-- ---- columns of rows

pub code_opt : (v : ℕ) → code (opt v) ≡ v
unfolding code
code_opt v = ⊎_elim (λ (e : v ≡ right.none). ap code (opt_none v e) ∙ sym e) (λ (n : v ≡ right.none → ⊥). ap code (opt_some v n)) (eq? v right.none)

-- a column is made of rows by its cells
column : (X : List ℕ) (f : ℕ → ℕ) (n : ℕ) → length X ≡ n → ((u : ℕ) → u < n → get_or X u 0 ≡ f u) → X ≡ rows f n
column X f n e h = ext_get_or 0 X (rows f n) (e ∙ sym (length_rows f n)) (λ i l. h i (omega (arith, e)) ∙ sym (get_rows f 0 n i (omega (arith, e))))

drawn_yes : (P : Par) (K : ℕ → Bool) (v : ℕ) → K v ≡ true → drawn P K v ≡ up P K v
unfolding drawn
drawn_yes P K v k = rw (k, drawn)

drawn_no : (P : Par) (K : ℕ → Bool) (v : ℕ) → K v ≡ false → drawn P K v ≡ none
unfolding drawn
drawn_no P K v k = rw (k, drawn)

module _ {T S P C M D U Q : List ℕ} (k : Kept T S P C M D U) (fl : Flags S Q (length P)) where
  up_cell : (u : ℕ) → u < length P → get_or U u 0 ≡ code (drawn (par_of P) (stands S C) u)
  unfolding code
  up_cell u l = ⊎_elim
      (λ (e : stands S C u ≡ true). sym (ap code (drawn_yes (par_of P) (stands S C) u e ∙ over_up (par_of P) (stands S C) (λ (v : ℕ). get_or T v 0) (aged k.mended fl) (opt (get_or U u 0)) u (k.up.cell u e)) ∙ code_opt (get_or U u 0)))
      (λ (e : stands S C u ≡ false). k.up.idle u l e ∙ sym (ap code (drawn_no (par_of P) (stands S C) u e)))
      (truth (stands S C u))

  -- the columns are those of the tree at x, where the column of parents is the forest at x
  pub tree_is : (E : EdgeColumns) (x : ℕ) → par_of P ≡ parent_row E x → TreeAt E Q (length P) x S P C U
  unfolding stands_at
  tree_is E x is = record {
    forest = is;
    parents = column P (λ u. code (parent_row E x u)) (length P) refl (λ u l. sym (ap (λ (F : Par). code (F u)) (sym is) ∙ ap code (par_in P u l) ∙ code_opt (get_or P u 0)));
    reaches = λ u l. live_reached k.mended fl u l ∙ ap (λ (F : Par). reached F Q u) is;
    stood = λ u l. ap (λ (f : ℕ → Bool). f u) standing;
    ups = column U (λ u. code (drawn (parent_row E x) (stands_at E Q (length P) x) u)) (length P) k.up.long (λ u l. up_cell u l ∙ ap₂ (λ (F : Par) (f : ℕ → Bool). code (drawn F f u)) is standing);
  }
    where
      standing : stands S C ≡ def.stands (node_rows (length P)) (parent_row E x) Q
      standing = stands_all k.mended fl ∙ ap (λ (F : Par). def.stands (node_rows (length P)) F Q) is

-- the columns of a sweep that has come to x are those of the tree at x
pub tree_at : {T S P C M D U l r pa ch bl br Q : List ℕ} {i j : ℕ} (x : ℕ) → Swept T S P C M D U l r pa ch bl br i j (x + 1) → Flags S Q (length P) → TreeAt (columns l r pa ch) Q (length P) x S P C U
tree_at x sw fl = tree_is sw.kept fl _ x (placed x sw.plan sw.ahead sw.holds sw.kept.mended.shape.rows)

-- up to the next change y the columns are those of the tree at each position z
pub swept_on : {T S P C M D U l r pa ch bl br : List ℕ} {i j x y : ℕ} (z : ℕ) → Swept T S P C M D U l r pa ch bl br i j (x + 1) → Ahead l r bl br i j y → x ≤ z → z < y → Swept T S P C M D U l r pa ch bl br i j (z + 1)
swept_on z sw ah h k = record { kept = sw.kept; plan = sw.plan; ahead = ahead_between sw.ahead ah (omega arith) (omega arith); holds = sw.holds }

-- where the forest is the same, so is the tree
pub tree_stays : {E : EdgeColumns} {Q S P C U : List ℕ} {n x z : ℕ} → parent_row E z ≡ parent_row E x → TreeAt E Q n x S P C U → TreeAt E Q n z S P C U
unfolding stands_at
tree_stays {E} {Q} {S} {P} {C} {U} {n} {x} {z} e t = record {
  forest = t.forest ∙ sym e;
  parents = t.parents ∙ ap (λ (F : Par). rows (λ u. code (F u)) n) (sym e);
  reaches = λ u l. t.reaches u l ∙ ap (λ (F : Par). reached F Q u) (sym e);
  stood = λ u l. t.stood u l ∙ ap (λ (F : Par). def.stands (node_rows n) F Q u) (sym e);
  ups = t.ups ∙ ap (λ (F : Par). rows (λ u. code (drawn F (def.stands (node_rows n) F Q) u)) n) (sym e);
}
