-- Sorted by key, the edges that a sweep collects are the edges of the result.
use Rattle.std.specs.Prelude.{◌≡◌, Bool}
use Rattle.std.proofs.Math.Path.{refl, ap}
use Rattle.std.proofs.Common.{◌∙◌, arith}
use Rattle.std.proofs.Math.Bool.{true, false}
use mathlib.Core.List.{List, [], ◌∷◌}
use Rattle.std.proofs.Math.Option.{some}
use Prim.Native.Nat.{ℕ, suc, ◌<◌}
use Rattle.std.proofs.Math.ListN.{length}
use Rattle.meaning.specs.Words.{at, lex, insert, sort}
use Rattle.meaning.specs.Rows.{NodeColumns, Tables, Edge}
use Rattle.meaning.specs.Forest.{Par}
use Rattle.meaning.specs.Answer.{Limits}
use Rattle.laws.specs.Facts.{Any, now, later, All, done, also}
use Rattle.history.specs.Order.{lex_trans, lex_apart}
use Rattle.history.specs.Lists.{sort_any, all_sort, all_to}
use Rattle.encoding.specs.Ascending.{Ascending, empty, first, all_at, pick}
use Rattle.encoding.specs.Edges.{is_of}
use Rattle.byrows.specs.Rows.{sample_rows, up_row, row_key}
use Rattle.byrows.specs.Ground.{Ground, once}
use Rattle.byrows.specs.Kept.{EdgeRows}
use Rattle.runs.specs.Runs.{Parent, Follows, InTurn, none_yet, one_more, Collected}

-- ---- a sort

module _ {A : Type 0} (lt : A → A → Bool) where
  length_insert : (a : A) (l : List A) → length (insert lt a l) ≡ suc (length l)
  unfolding insert
  length_insert a [] = refl
  length_insert a (b ∷ l) = go (lt a b) refl (length_insert a l)
    where
      go : (t : Bool) → lt a b ≡ t → length (insert lt a l) ≡ suc (length l) → length (insert lt a (b ∷ l)) ≡ suc (length (b ∷ l))
      go true e ih = rw (e, insert)
      go false e ih = rw (e, insert) (ap suc ih)

  -- a sort keeps the number of rows
  pub length_sort : (l : List A) → length (sort lt l) ≡ length l
  unfolding sort
  length_sort [] = refl
  length_sort (a ∷ l) = length_insert a (sort lt l) ∙ ap suc (length_sort l)

  insert_below : (c a : A) (l : List A) → lt c a ≡ true → All (λ b. lt c b ≡ true) l → All (λ b. lt c b ≡ true) (insert lt a l)
  unfolding insert
  insert_below c a [] e done = also e done
  insert_below c a (b ∷ l) e (also p h) = go (lt a b) refl (insert_below c a l e h)
    where
      go : (t : Bool) → lt a b ≡ t → All (λ b. lt c b ≡ true) (insert lt a l) → All (λ b. lt c b ≡ true) (insert lt a (b ∷ l))
      go true q ih = rw (q, insert) (also e (also p h))
      go false q ih = rw (q, insert) (also p ih)

  module _ (trans : (a b c : A) → lt a b ≡ true → lt b c ≡ true → lt a c ≡ true) where
    -- what is below or above each member has its place among them
    pub insert_ascending : (a : A) (l : List A) → All (λ b. lt a b ≡ false → lt b a ≡ true) l → Ascending lt l → Ascending lt (insert lt a l)
    unfolding insert
    insert_ascending a [] done empty = first done empty
    insert_ascending a (b ∷ l) (also h k) (first p s) = go (lt a b) refl (insert_ascending a l k s)
      where
        go : (t : Bool) → lt a b ≡ t → Ascending lt (insert lt a l) → Ascending lt (insert lt a (b ∷ l))
        go true e ih = rw (e, insert) (first (also e (all_to (λ c q. trans a b c e q) p)) (first p s))
        go false e ih = rw (e, insert) (first (insert_below b a l (h e) p) ih)

-- ---- by key

-- edges between rows, by edge key
abbrev pub by_row_key : NodeColumns → Edge → Edge → Bool
by_row_key N d e = lex (row_key N d) (row_key N e)

module _ (N : NodeColumns) (n : ℕ) (own : (i j : ℕ) → i < n → j < n → at N.birth i ≡ at N.birth j → i ≡ j) where
  -- two edges of which, where they are of one child, one begins to the right of the other differ in key
  apart_keys : (d e : Edge) → d.child < n → e.child < n → Follows d e → by_row_key N d e ≡ false → by_row_key N e d ≡ true
  unfolding row_key
  apart_keys d e p q a h = lex_apart (row_key N d) (row_key N e) refl
      (λ z. let r : d.left < e.left = a (own d.child e.child p q (ap (λ (l : List ℕ). at l 2) z)) in let k : d.left ≡ e.left = ap (λ (l : List ℕ). at l 3) z in omega arith) h

  all_apart : (e : Edge) (l : List Edge) → e.child < n → All (λ (d : Edge). (d.parent < n) × (d.child < n)) l → All (Follows e) l → All (λ d. by_row_key N e d ≡ false → by_row_key N d e ≡ true) l
  all_apart e [] p done done = done
  all_apart e (d ∷ l) p (also i h) (also a k) = also (apart_keys e d p i.1 a) (all_apart e l p h k)

  pub sort_ascending : (F : List Edge) → All (λ (e : Edge). (e.parent < n) × (e.child < n)) F → InTurn F → Ascending (by_row_key N) (sort (by_row_key N) F)
  unfolding sort
  sort_ascending [] done none_yet = empty
  sort_ascending (e ∷ l) (also i h) (one_more a o) = insert_ascending (by_row_key N) (λ c d f. lex_trans (row_key N c) (row_key N d) (row_key N f)) e (sort (by_row_key N) l) (all_sort (by_row_key N) l (all_apart e l i.1 h a)) (sort_ascending l h o)

-- the edges that a sweep over the output parents collects, sorted by key, are the edges of the result
pub edge_rows : (m : Limits) (L : ℕ) (T : Tables) (S : List ℕ) (g : Ground m L T S) (F : List Edge) → Collected (up_row T.edges (length T.nodes.birth) (sample_rows T.nodes.birth S)) (length T.nodes.birth) L F → EdgeRows m L T S g (sort (by_row_key T.nodes) F)
edge_rows m L T S g F k = record {
  inside = all_sort (by_row_key T.nodes) F k.inside;
  ascending = sort_ascending T.nodes (length T.nodes.birth) (once m L T S g) F k.inside k.in_turn;
  whole = all_sort (by_row_key T.nodes) F k.whole;
  covers = λ x u p a b e. sort_any (by_row_key T.nodes) F (k.covers x u p a b e);
}

-- ---- the rows marked as parents

module _ (U : ℕ → Par) (n L : ℕ) (F : List Edge) (k : Collected U n L F) where
  -- the parent of a collected edge is an output parent somewhere
  pub parent_somewhere : (p : ℕ) → Parent F p → (y : ℕ) × (c : ℕ) × (y < L) × (c < n) × (U y c ≡ some p)
  parent_somewhere p a =
      let r : _ = pick a in
      let w : _ = all_at r.0 k.whole r.1 in
      let i : _ = all_at r.0 k.inside r.1 in
      (r.0.left, r.0.child, omega (arith, w.wide, w.inside), i.1, is_of (U r.0.left r.0.child) r.0.parent (w.holds r.0.left (omega arith) w.wide) ∙ ap some r.2)

  -- and an output parent somewhere is the parent of a collected edge
  pub somewhere_parent : (y c p : ℕ) → y < L → c < n → U y c ≡ some p → Parent F p
  somewhere_parent y c p a b e = any_to (λ d v. v.to_parent) (k.covers y c p a b e)
    where
      any_to : {Q W : Edge → Type 0} {l : List Edge} → ((d : Edge) → Q d → W d) → Any Q l → Any W l
      any_to h (now q) = now (h _ q)
      any_to h (later x) = later (any_to h x)
