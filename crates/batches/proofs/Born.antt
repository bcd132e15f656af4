-- Where a birth stands: its row in joined columns, and its time.
use mathlib.Core.Path.{◌≡◌, sym, ap, ◌∙◌}
use mathlib.Core.Bool.{true, false}
use mathlib.Core.List.{List, [], ◌∷◌, ◌++◌}
use mathlib.Core.Logic.{◌⊎◌, inl, inr, ⊎_elim}
use Prim.Native.Nat.{ℕ, zero, suc, ◌+◌, ◌<◌, ◌≤◌}
use native.Mathlib.Omega.{arith}
use lib.ListN.{length}
use borrow.Author.Tests.{eq-eqb, ne_eqb}
use Rattle.std.specs.Prelude.{Some, None}
use Rattle.meaning.specs.Words.{at, mem, index_of, place_in, rows, rows_from}
use Rattle.meaning.specs.Rows.{NodeColumns, Node, births, node_at, nodes_of, node_of, time_of}
use Rattle.meaning.specs.Join.{time_in}
use Rattle.laws.specs.Bools.{clash, eq?, not_true, truth}
use Rattle.laws.specs.Counting.{rows_at}
use Rattle.laws.specs.Members.{index_below, mem_cases, mem_here, mem_there, mem_nil}
use Rattle.history.specs.Nodes.{node_left, node_right, time_none}
use Rattle.accepted.specs.Columns.{births_of, birth_in}
use Rattle.order.specs.Ranks.{index_none, place_in-some, place_in-none}

-- ---- the row of b, step by step

pub index_first : (b a : ℕ) (l : List ℕ) → b ≡ a → index_of b (a ∷ l) ≡ 0
unfolding index_of
index_first b a l e = rw (eq-eqb b a e, index_of)

pub index_later : (b a : ℕ) (l : List ℕ) → (b ≡ a → ⊥) → index_of b (a ∷ l) ≡ suc (index_of b l)
unfolding index_of
index_later b a l n = rw (ne_eqb b a n, index_of)

-- ---- the row says whether b is there

pub index_there : (b : ℕ) (l : List ℕ) → index_of b l < length l → mem b l ≡ true
index_there b l h = ⊎_elim (λ (e : mem b l ≡ true). e) (λ (e : mem b l ≡ false). absurd (omega (arith, index_none b l e))) (truth (mem b l))

pub index_not_there : (b : ℕ) (l : List ℕ) → length l ≤ index_of b l → mem b l ≡ false
index_not_there b l h = not_true (mem b l) (λ k. omega (arith, index_below b l k))

-- ---- the row in joined columns

pub index_left : (b : ℕ) (l m : List ℕ) → mem b l ≡ true → index_of b (l ++ m) ≡ index_of b l
index_left b [] m h = absurd (mem_nil b h)
index_left b (a ∷ l) m h = ⊎_elim
    (λ (e : b ≡ a). index_first b a (l ++ m) e ∙ sym (index_first b a l e))
    (λ (n : b ≡ a → ⊥). index_later b a (l ++ m) n ∙ ap suc (index_left b l m (⊎_elim (λ (e : b ≡ a). absurd (n e)) (λ k. k) (mem_cases b a l h))) ∙ sym (index_later b a l n))
    (eq? b a)

pub index_right : (b : ℕ) (l m : List ℕ) → mem b l ≡ false → index_of b (l ++ m) ≡ length l + index_of b m
index_right b [] m h = omega arith
index_right b (a ∷ l) m h = ⊎_elim
    (λ (e : b ≡ a). absurd (clash (mem_here b a l e) h))
    (λ (n : b ≡ a → ⊥). omega (arith, index_later b a (l ++ m) n, index_right b l m (not_true (mem b l) (λ k. clash (mem_there b a l k) h))))
    (eq? b a)

-- the same of what the searches gave
module _ (base birth : List ℕ) (b : ℕ) where
  pub row_in_base : (i : ℕ) → Some i ≡ place_in b base → i ≡ index_of b (base ++ birth)
  row_in_base i e = let w : _ = place_in-some b base i e in w.0 ∙ sym (index_left b base birth w.3)

  module _ (n : None ≡ place_in b base) where
    pub row_in_batch : (j : ℕ) → Some j ≡ place_in b birth → length base + j ≡ index_of b (base ++ birth)
    row_in_batch j e = ap (λ k. length base + k) (place_in-some b birth j e).0 ∙ sym (index_right b base birth (place_in-none b base n).1)

    pub row_nowhere : None ≡ place_in b birth → length base + length birth ≡ index_of b (base ++ birth)
    row_nowhere e = ap (λ k. length base + k) (sym (place_in-none b birth e).0) ∙ sym (index_right b base birth (place_in-none b base n).1)

-- ---- the time

module _ (f : ℕ → Node) (b : ℕ) where
  node_first : (n : Node) (l : List Node) → n.birth ≡ b → node_of (n ∷ l) b ≡ n
  unfolding node_of
  node_first n l e = rw (eq-eqb n.birth b e, node_of)

  node_later : (n : Node) (l : List Node) → (n.birth ≡ b → ⊥) → node_of (n ∷ l) b ≡ node_of l b
  unfolding node_of
  node_later n l e = rw (ne_eqb n.birth b e, node_of)

  node_from : (i k : ℕ) → mem b (rows_from (λ j. (f j).birth) i k) ≡ true → node_of (rows_from f i k) b ≡ f (i + index_of b (rows_from (λ j. (f j).birth) i k))
  unfolding rows_from
  node_from i zero h = absurd (mem_nil b h)
  node_from i (suc k) h = go (eq? b (f i).birth) (λ m. node_from (suc i) k m)
    where
      go : (b ≡ (f i).birth) ⊎ (b ≡ (f i).birth → ⊥) → (mem b (rows_from (λ j. (f j).birth) (suc i) k) ≡ true → node_of (rows_from f (suc i) k) b ≡ f (suc i + index_of b (rows_from (λ j. (f j).birth) (suc i) k))) → node_of (rows_from f i (suc k)) b ≡ f (i + index_of b (rows_from (λ j. (f j).birth) i (suc k)))
      go (inl e) ih =
          let q : i ≡ i + index_of b ((f i).birth ∷ rows_from (λ j. (f j).birth) (suc i) k) = omega (arith, index_first b (f i).birth (rows_from (λ j. (f j).birth) (suc i) k) e) in
          node_first (f i) (rows_from f (suc i) k) (sym e) ∙ ap f q
      go (inr n) ih =
          let q : suc i + index_of b (rows_from (λ j. (f j).birth) (suc i) k) ≡ i + index_of b ((f i).birth ∷ rows_from (λ j. (f j).birth) (suc i) k) = omega (arith, index_later b (f i).birth (rows_from (λ j. (f j).birth) (suc i) k) n) in
          node_later (f i) (rows_from f (suc i) k) (λ e. n (sym e)) ∙ ih (⊎_elim (λ (e : b ≡ (f i).birth). absurd (n e)) (λ m. m) (mem_cases b (f i).birth (rows_from (λ j. (f j).birth) (suc i) k) h)) ∙ ap f q

-- the time of a birth is the time of its row
pub time_at : (N : NodeColumns) → length N.birth ≡ length N.time → (b : ℕ) → mem b N.birth ≡ true → time_of (nodes_of N) b ≡ at N.time (index_of b N.birth)
unfolding time_of nodes_of rows
time_at N e b h =
    let col : rows_from (at N.birth) 0 (length N.time) ≡ N.birth = ap (rows_from (at N.birth) 0) (sym e) ∙ rows_at N.birth in
    let k : mem b (rows_from (at N.birth) 0 (length N.time)) ≡ true = ap (mem b) col ∙ h in
    let q : 0 + index_of b (rows_from (at N.birth) 0 (length N.time)) ≡ index_of b N.birth = omega (arith, ap (index_of b) col) in
    ap (λ (n : Node). n.time) (node_from (node_at N) b 0 (length N.time) k)
    ∙ ap (at N.time) q

module _ (base N : NodeColumns) (s : length base.birth ≡ length base.time) (t : length N.birth ≡ length N.time) (b : ℕ) where
  pub time_base : index_of b base.birth < length base.time → time_in base N b ≡ at base.time (index_of b base.birth)
  unfolding time_in time_of
  time_base h =
      let m : mem b base.birth ≡ true = index_there b base.birth (omega arith) in
      ap (λ (n : Node). n.time) (node_left (nodes_of base) (nodes_of N) b (birth_in base s b m)) ∙ time_at base s b m

  module _ (h : length base.time ≤ index_of b base.birth) where
    not_base : mem b (births (nodes_of base)) ≡ false
    not_base = ap (mem b) (births_of base s) ∙ index_not_there b base.birth (omega arith)

    time_past : time_in base N b ≡ time_of (nodes_of N) b
    unfolding time_in time_of
    time_past = ap (λ (n : Node). n.time) (node_right (nodes_of base) (nodes_of N) b not_base)

    pub time_batch : index_of b N.birth < length N.time → time_in base N b ≡ at N.time (index_of b N.birth)
    time_batch k = time_past ∙ time_at N t b (index_there b N.birth (omega arith))

    pub time_nowhere : length N.time ≤ index_of b N.birth → time_in base N b ≡ 0
    time_nowhere k = time_past ∙ time_none (nodes_of N) b (ap (mem b) (births_of N t) ∙ index_not_there b N.birth (omega arith))

-- the same of what the searches gave
module _ (base N : NodeColumns) (b : ℕ) (s : length base.birth ≡ length base.time) (t : length N.birth ≡ length N.time) where
  pub base_time : (i : ℕ) → Some i ≡ place_in b base.birth → at base.time i ≡ time_in base N b
  base_time i e = let w : _ = place_in-some b base.birth i e in ap (at base.time) w.0 ∙ sym (time_base base N s t b (omega (arith, w.0, w.1)))

  module _ (n : None ≡ place_in b base.birth) where
    past : length base.time ≤ index_of b base.birth
    past = omega (arith, (place_in-none b base.birth n).0)

    pub batch_time : (j : ℕ) → Some j ≡ place_in b N.birth → at N.time j ≡ time_in base N b
    batch_time j e = let w : _ = place_in-some b N.birth j e in ap (at N.time) w.0 ∙ sym (time_batch base N s t b past (omega (arith, w.0, w.1)))

    pub no_time : None ≡ place_in b N.birth → 0 ≡ time_in base N b
    no_time e = sym (time_nowhere base N s t b past (omega (arith, (place_in-none b N.birth e).0)))
