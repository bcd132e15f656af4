-- The row that the only live children lead to is the low of the definitions.
use mathlib.Core.Path.{◌≡◌, refl, sym, ap, ap₂, subst, ◌∙◌}
use mathlib.Core.Bool.{Bool, true, false}
use mathlib.Core.List.{List, ◌∷◌}
use mathlib.Core.Option.{Option, none, some}
use mathlib.Core.Logic.{◌⊎◌, inl, inr, ⊎_elim}
use Prim.Native.Nat.{ℕ, zero, suc, ◌+◌, ◌<◌, ◌≤◌}
use native.Mathlib.Omega.{arith}
use lib.ListN.{length, get_or}
use Rattle.meaning.specs.Words.{mem, rows, rows_from, first_of}
use Rattle.meaning.specs.Rows.{EdgeColumns}
use Rattle.meaning.specs.Forest as def
use Rattle.meaning.specs.Forest.{Par, Ages, reached}
use Rattle.laws.specs.Bools.{clash, not_true, eq?}
use Rattle.laws.specs.Members.{mem_nil, mem_here, mem_there, mem_cases}
use Rattle.laws.specs.Facts.{In, Distinct, nil, cons}
use Rattle.bridge.specs.Parents.{parent_row}
use Rattle.std.proofs.Common.{Some, None}
use Rattle.forest.specs.Passing.{first_some, first_of-is}
use Rattle.forest.specs.TreeLaws.{Nodes, feeds_of, of_feeds}
use Rattle.forest.specs.Lowest.{Rule, stands_rule}
use Rattle.forest.specs.Code.{low_here, low_on}
use Rattle.mend.specs.Right.{live, stands}
use Rattle.mend.specs.Line.{par_of, Low, here, down, Lives}
use Rattle.mend.specs.Kept.{Mended}
use Rattle.tree.specs.TreeAt.{stands_at, low_at, row_given, node_rows, Flags}
use Rattle.mend.proofs.Reading.{lt?, par_of-is, stands_no}
use Rattle.mend.proofs.Only.{lives}
use Rattle.tree.proofs.Reaching.{aged, no_row, live_reached, stands_all}

-- ---- the node rows, each once

from_mem : (a i k : ℕ) → mem a (rows_from (λ v. v) i k) ≡ true → (i ≤ a) × (a < i + k)
unfolding rows_from
from_mem a i zero h = absurd (mem_nil a h)
from_mem a i (suc k) h = ⊎_elim (λ (e : a ≡ i). (omega arith, omega arith)) (λ m. let r : _ = from_mem a (suc i) k m in (omega (arith, r.0), omega (arith, r.1))) (mem_cases a i (rows_from (λ v. v) (suc i) k) h)

mem_from : (a i k : ℕ) → i ≤ a → a < i + k → mem a (rows_from (λ v. v) i k) ≡ true
unfolding rows_from
mem_from a i zero h l = absurd (omega arith)
mem_from a i (suc k) h l = go (eq? a i) (λ m. mem_from a (suc i) k m (omega arith))
  where
    go : (a ≡ i) ⊎ (a ≡ i → ⊥) → (suc i ≤ a → mem a (rows_from (λ v. v) (suc i) k) ≡ true) → mem a (i ∷ rows_from (λ v. v) (suc i) k) ≡ true
    go (inl e) ih = mem_here a i (rows_from (λ v. v) (suc i) k) e
    go (inr n) ih = mem_there a i (rows_from (λ v. v) (suc i) k) (ih (omega arith))

once_from : (i k : ℕ) → Distinct (rows_from (λ v. v) i k)
unfolding rows_from
once_from i zero = nil
once_from i (suc k) = cons (not_true (mem i (rows_from (λ v. v) (suc i) k)) (λ h. omega (arith, (from_mem i (suc i) k h).0))) (once_from (suc i) k)

pub rows_once : (n : ℕ) → Distinct (node_rows n)
unfolding rows
rows_once n = once_from 0 n

pub row_mem : (a n : ℕ) → mem a (node_rows n) ≡ true → a < n
unfolding rows
row_mem a n h = omega (arith, (from_mem a 0 n h).1)

pub mem_row : (a n : ℕ) → a < n → mem a (node_rows n) ≡ true
unfolding rows
mem_row a n l = mem_from a 0 n (omega arith) (omega arith)

pub nodes : (P : List ℕ) → Nodes (par_of P) (node_rows (length P))
nodes P = record { once = rows_once (length P); listed = λ {b} {p} e. mem_row b (length P) (par_of-is P b p e).0 }

-- ---- low

-- where nothing stands at u and no child of u is reached, nothing is low
low_none : (N : List ℕ) (P : Par) (R K : ℕ → Bool) (k u : ℕ) → K u ≡ false → first_of (def.feeds P R u) N ≡ none → def.low N P R K (suc k) u ≡ none
unfolding def.low
low_none N P R K k u e f = rw (e, def.low) (rw f)

module _ {T S P C M Q : List ℕ} (md : Mended T S P C M) (fl : Flags S Q (length P)) where
  lv : Lives (par_of P) (stands S C) (live S C)
  lv = lives T S P C M md.shape md.grows md.right

  rule : Rule (par_of P) (In Q) (stands S C)
  rule = subst (λ (f : ℕ → Bool). Rule (par_of P) (In Q) f) (sym (stands_all md fl)) (stands_rule (par_of P) (λ (v : ℕ). get_or T v 0) (aged md fl) (node_rows (length P)) (nodes P) Q)

  -- the only reached child
  first_child : {x d : ℕ} → stands S C x ≡ false → par_of P d ≡ some x → live S C d ≡ true → first_of (def.feeds (par_of P) (reached (par_of P) Q) x) (node_rows (length P)) ≡ some d
  first_child {x} {d} k e l =
      let hd : _ = (par_of-is P d x e).0 in
      let f : _ = first_some (def.feeds (par_of P) (reached (par_of P) Q) x) d (node_rows (length P)) ((nodes P).listed e) (of_feeds (par_of P) (reached (par_of P) Q) x d e (sym (live_reached md fl d hd) ∙ l)) in
      let g : _ = feeds_of (par_of P) (reached (par_of P) Q) x f.0 (first_of-is (def.feeds (par_of P) (reached (par_of P) Q) x) f.0 (node_rows (length P)) f.1) in
      f.1 ∙ ap some (lv.only k g.0 e (live_reached md fl f.0 (par_of-is P f.0 x g.0).0 ∙ g.1) l)

  low_some : {w u : ℕ} → Low (par_of P) (stands S C) (live S C) w u → def.low (node_rows (length P)) (par_of P) (reached (par_of P) Q) (stands S C) Ages u ≡ some w
  low_some {w} (here k) = low_here (par_of P) (λ (v : ℕ). get_or T v 0) (aged md fl) (node_rows (length P)) (nodes P) Q (stands S C) rule w k
  low_some (down {x} {d} k e l y) = low_on (par_of P) (λ (v : ℕ). get_or T v 0) (aged md fl) (node_rows (length P)) (nodes P) Q (stands S C) rule x d ((aged md fl).bound e) k (first_child k e l) ∙ low_some y

  low_dead : (u : ℕ) → live S C u ≡ false → def.low (node_rows (length P)) (par_of P) (reached (par_of P) Q) (stands S C) Ages u ≡ none
  low_dead u n = low_none (node_rows (length P)) (par_of P) (reached (par_of P) Q) (stands S C) 4294967295 u (stands_no S C u n) (go (first_of (def.feeds (par_of P) (reached (par_of P) Q) u) (node_rows (length P))) refl)
    where
      go : (o : Option ℕ) → first_of (def.feeds (par_of P) (reached (par_of P) Q) u) (node_rows (length P)) ≡ o → first_of (def.feeds (par_of P) (reached (par_of P) Q) u) (node_rows (length P)) ≡ none
      go none f = f
      go (some d) f =
          let g : _ = feeds_of (par_of P) (reached (par_of P) Q) u d (first_of-is (def.feeds (par_of P) (reached (par_of P) Q) u) d (node_rows (length P)) f) in
          absurd (clash (lv.up g.0 (live_reached md fl d (par_of-is P d u g.0).0 ∙ g.1)) n)

  module _ (E : EdgeColumns) (x : ℕ) (is : par_of P ≡ parent_row E x) where
    at_x : (u : ℕ) → def.low (node_rows (length P)) (par_of P) (reached (par_of P) Q) (stands S C) Ages u ≡ low_at E Q (length P) x u
    unfolding low_at stands_at
    at_x u = ap₂ (λ (F : Par) (f : ℕ → Bool). def.low (node_rows (length P)) F (reached F Q) f Ages u) is (stands_all md fl ∙ ap (λ (F : Par). def.stands (node_rows (length P)) F Q) is)

    pub low_is : {w u : ℕ} → Low (par_of P) (stands S C) (live S C) w u → Some w ≡ row_given (low_at E Q (length P) x u)
    low_is {w} {u} h = ap row_given (sym (low_some h) ∙ at_x u)

    pub low_is_none : (u : ℕ) → live S C u ≡ false → None ≡ row_given (low_at E Q (length P) x u)
    low_is_none u n = ap row_given (sym (low_dead u n) ∙ at_x u)

-- a row that the only live children lead to is a row
pub low_row : {T S P C M : List ℕ} {w u : ℕ} → Mended T S P C M → Low (par_of P) (stands S C) (live S C) w u → w < length P
low_row {P = P} {w = w} md (here k) = ⊎_elim (λ (l : w < length P). l) (λ (l : length P ≤ w). absurd (clash k (no_row md w l))) (lt? w (length P))
low_row md (down k e l y) = low_row md y
