-- The tables that 01's cleaning leaves, read at a position: the tree is drawn together to what stands, and every edge is as long as it can be.
use Rattle.std.specs.Prelude.{◌≡◌, true, List, ℕ, zero, suc, ◌<◌, ◌≤◌, length}
use Rattle.std.proofs.Math.Path.{refl}
use Rattle.std.proofs.Common.{sym, ap, subst, ◌∙◌, arith}
use Rattle.meaning.specs.Words.{at}
use Rattle.meaning.specs.Rows.{Tables, Edge, Record, births, edges_of, record_of, time_of}
use Rattle.meaning.specs.Forest.{Par, parent_in, is, stands, drawn}
use Rattle.meaning.specs.Answer.{Limits}
use Rattle.meaning.specs.Clean.{stands_at, forest_at, kept, clean, cleaned, clean_answer}
use Rattle.laws.specs.Bools.{clash}
use Rattle.laws.specs.Facts.{In, All, CleanOk}
use Rattle.forest.specs.TreeLaws.{Aged, Nodes}
use Rattle.forest.specs.Profile.{stands_profile}
use Rattle.history.specs.Kept.{kept_distinct, chosen, somewhere}
use Rattle.history.specs.Cleaned.{good_aged, good_nodes, rule_at, drawn_at, clean_parent}
use Rattle.encoding.specs.Ascending.{all_at}
use Rattle.encoding.specs.Edges.{Whole, is_of, edges_whole}
use Rattle.accepted.specs.Refusals.{Accepted}
use Rattle.accepted.specs.Columns.{row_any}
use Rattle.accepted.specs.Records.{Young}
use Rattle.accepted.specs.Calls.{clean_accepted}
use Rattle.results.specs.Trees.{tree_at, Ancestral, stands_reached}
use Rattle.results.specs.Cleaning.{cleaned_means}

-- two edges of one parent and child that are as long as they can be do not touch
whole_apart : (L : ℕ) (time : ℕ → ℕ) (D : ℕ → Par) (d e : Edge) → Whole L time D d → Whole L time D e → d.parent ≡ e.parent → d.child ≡ e.child → d.right ≡ e.left → ⊥
whole_apart L time D d e v w p c t = before e.left refl
  where
    before : (z : ℕ) → z ≡ e.left → ⊥
    before zero q = omega (arith, v.wide)
    before (suc y) q = clash (sym (λ n. is (D y (c n)) (p n)) ∙ v.holds y (omega (arith, v.wide)) (omega arith)) (w.begins y q)

module _ (m : Limits) (L : ℕ) (T : Tables) (S : List ℕ) (out : Tables) (out_map : List ℕ) (cells : ℕ)
    (accept : Accepted (clean_answer stands m L T S out out_map cells)) (young : Young T.nodes) where
  abbrev R : Record
  R = record_of L T

  abbrev C : Tables
  C = cleaned stands L T S

  ok : CleanOk (record_of L T) S
  ok = clean_accepted stands m L T S out out_map cells accept young

  pub given_aged : (x : ℕ) → Aged (tree_at L T x) (time_of (record_of L T).nodes)
  given_aged x = good_aged R ok.good x

  pub given_nodes : (x : ℕ) → Nodes (tree_at L T x) (births (record_of L T).nodes)
  given_nodes x = good_nodes R ok.good x

  same_length : R.len ≡ L
  unfolding record_of
  same_length = refl

  pub tree_is : (x : ℕ) → x < L → tree_at L (cleaned stands L T S) x ≡ drawn (tree_at L T x) (stands (births (record_of L T).nodes) (tree_at L T x) S)
  tree_is x l = ap (λ (Z : Record). parent_in Z.edges x) (cleaned_means stands stands_profile m L T S out out_map cells accept young) ∙ clean_parent stands stands_profile R S ok x (omega (arith, same_length))

  -- ---- what is left leads down to a sample

  standing_ancestral : (x b : ℕ) → x < L → stands (births R.nodes) (tree_at L T x) S b ≡ true → Ancestral L T (cleaned stands L T S) S x b
  standing_ancestral x b l k = rw (tree_is x l) (stands_reached (tree_at L T x) (time_of R.nodes) (given_aged x) (births R.nodes) (given_nodes x) S b k)

  pub sample_ancestral : (x b : ℕ) → x < L → In S b → Ancestral L T (cleaned stands L T S) S x b
  sample_ancestral x b l h = standing_ancestral x b l ((rule_at stands stands_profile R S ok x).samples h)

  pub chosen_ancestral : (b : ℕ) → chosen stands (record_of L T) S b ≡ true → (x : ℕ) × (x < L) × Ancestral L T (cleaned stands L T S) S x b
  unfolding stands_at
  chosen_ancestral b h = let r : _ = somewhere stands R S b h in let l : r.0 < L = omega (arith, same_length, r.1) in (r.0, l, standing_ancestral r.0 b l r.2)

  -- ---- edges

  abbrev D : ℕ → Par
  D = forest_at stands (record_of L T) S

  there : All (Whole L (time_of R.nodes) D) (clean stands S R).edges
  unfolding clean record_of
  there = edges_whole L (time_of R.nodes) D (kept stands R S) (kept_distinct stands R S ok.good.once ok.distinct)

  pub left_whole : All (Whole L (time_of (record_of L T).nodes) (forest_at stands (record_of L T) S)) (record_of L (cleaned stands L T S)).edges
  left_whole = subst (λ (Z : Record). All (Whole L (time_of R.nodes) D) Z.edges) (sym (cleaned_means stands stands_profile m L T S out out_map cells accept young)) there

  pub edge_ancestral : (e : Edge) → Whole L (time_of (record_of L T).nodes) (forest_at stands (record_of L T) S) e → (x : ℕ) → e.left ≤ x → x < e.right → Ancestral L T (cleaned stands L T S) S x e.child
  unfolding forest_at stands_at
  edge_ancestral e w x a b = standing_ancestral x e.child (omega (arith, w.inside)) ((drawn_at stands stands_profile R S ok x).child (is_of (D x e.child) e.parent (w.holds x a b)))

  -- row i of the edges that are left
  abbrev row : ℕ → Edge
  row i = record { left = at C.edges.left i; right = at C.edges.right i; parent = at C.nodes.birth (at C.edges.parent i); child = at C.nodes.birth (at C.edges.child i) }

  whole_row : (i : ℕ) → i < length C.edges.left → Whole L (time_of R.nodes) D (row i)
  unfolding record_of edges_of
  whole_row i l = all_at (row i) left_whole (row_any (λ e. e ≡ row i) row (length C.edges.left) i l refl)

  -- two rows of the edges that are left, of one parent and one child, do not touch
  pub rows_apart : (i j : ℕ) → i < length (cleaned stands L T S).edges.left → j < length (cleaned stands L T S).edges.left →
      at (cleaned stands L T S).edges.parent i ≡ at (cleaned stands L T S).edges.parent j →
      at (cleaned stands L T S).edges.child i ≡ at (cleaned stands L T S).edges.child j →
      at (cleaned stands L T S).edges.right i ≡ at (cleaned stands L T S).edges.left j → ⊥
  rows_apart i j k l p c t = whole_apart L (time_of R.nodes) D (row i) (row j) (whole_row i k) (whole_row j l) (ap (at C.nodes.birth) p) (ap (at C.nodes.birth) c) t
