-- 000, "Tree sequence simplification": the four properties of a simplified tree sequence, each proved of the tables that 01's cleaning leaves.
-- A cleaning that is not refused is the only premise; that times are below 2 to the 32 every column of u32 tells.
use Rattle.std.specs.Prelude.{◌≡◌, true, List, ◌⊎◌, ℕ, ◌<◌, ◌≤◌, length}
use Rattle.std.proofs.Common.{sym, ap, ◌∙◌, inl, inr}
use Rattle.meaning.specs.Words.{at, mem}
use Rattle.meaning.specs.Rows.{Tables, Edge, births, record_of, time_of}
use Rattle.meaning.specs.Forest.{stands}
use Rattle.meaning.specs.Answer.{Limits}
use Rattle.meaning.specs.Clean.{cleaned, clean_answer}
use Rattle.laws.specs.Facts.{All}
use Rattle.forest.specs.Profile.{stands_profile}
use Rattle.history.specs.Lists.{all_to}
use Rattle.history.specs.Kept.{kept_cases, chosen}
use Rattle.accepted.specs.Refusals.{Accepted}
use Rattle.accepted.specs.Records.{Young}
use Rattle.accepted.specs.Calls.{clean_tells}
use Rattle.results.specs.Trees.{tree_at, Ancestral, Induced, NoUnary, drawn_induced, drawn_no_unary}
use Rattle.results.specs.Cleaning.{cleaned_births}
use Rattle.results.specs.Marginal.{given_aged, given_nodes, tree_is, sample_ancestral, chosen_ancestral, left_whole, edge_ancestral, rows_apart}

module _ (m : Limits) (L : ℕ) (T : Tables) (S : List ℕ) (out : Tables) (out_map : List ℕ) (cells : ℕ)
    (accept : Accepted (clean_answer stands m L T S out out_map cells)) (young : Young T.nodes) where
  -- "1. All marginal trees must match the subtree of the corresponding tree in the input tree sequence that is induced by the samples."
  pub induced_subtrees : (x : ℕ) → x < L → Induced (tree_at L T x) (tree_at L (cleaned stands L T S) x) S
  induced_subtrees x l = rw (tree_is m L T S out out_map cells accept young x l)
      (drawn_induced (tree_at L T x) (time_of (record_of L T).nodes) (given_aged m L T S out out_map cells accept young x) (births (record_of L T).nodes) (given_nodes m L T S out out_map cells accept young x) S)

  -- "2. Within the marginal trees, all non-sample vertices must have at least two children (i.e., unary tree vertices are removed)."
  pub no_unary_vertices : (x : ℕ) → x < L → NoUnary (tree_at L (cleaned stands L T S) x) S
  no_unary_vertices x l = rw (tree_is m L T S out out_map cells accept young x l)
      (drawn_no_unary (tree_at L T x) (time_of (record_of L T).nodes) (given_aged m L T S out out_map cells accept young x) (births (record_of L T).nodes) (given_nodes m L T S out out_map cells accept young x) S)

  -- "3. Any nodes and edges not ancestral to any of the sampled nodes are removed."
  pub only_ancestral_nodes : (b : ℕ) → mem b (cleaned stands L T S).nodes.birth ≡ true → (x : ℕ) × (x < L) × Ancestral L T (cleaned stands L T S) S x b
  only_ancestral_nodes b h = go (kept_cases stands (record_of L T) S b (sym (ap (mem b) (cleaned_births stands stands_profile m L T S out out_map cells accept young)) ∙ h))
    where
      go : (mem b S ≡ true) ⊎ ((mem b (births (record_of L T).nodes) ≡ true) × (chosen stands (record_of L T) S b ≡ true)) → (x : ℕ) × (x < L) × Ancestral L T (cleaned stands L T S) S x b
      go (inl s) = let l : 0 < L = (clean_tells stands m L T S out out_map cells accept).sound.len.some_length in (0, l, sample_ancestral m L T S out out_map cells accept young 0 b l s)
      go (inr c) = chosen_ancestral m L T S out out_map cells accept young b c.1

  pub only_ancestral_edges : All (λ (e : Edge). (x : ℕ) → e.left ≤ x → x < e.right → Ancestral L T (cleaned stands L T S) S x e.child) (record_of L (cleaned stands L T S)).edges
  only_ancestral_edges = all_to (edge_ancestral m L T S out out_map cells accept young) (left_whole m L T S out out_map cells accept young)

  -- "4. There are no adjacent redundant edges, i.e., pairs of edges (ℓ, x, p, c) and (x, r, p, c) which can be represented with a single edge (ℓ, r, p, c)."
  pub no_adjacent_edges : (i j : ℕ) → i < length (cleaned stands L T S).edges.left → j < length (cleaned stands L T S).edges.left →
      at (cleaned stands L T S).edges.parent i ≡ at (cleaned stands L T S).edges.parent j →
      at (cleaned stands L T S).edges.child i ≡ at (cleaned stands L T S).edges.child j →
      at (cleaned stands L T S).edges.right i ≡ at (cleaned stands L T S).edges.left j → ⊥
  no_adjacent_edges = rows_apart m L T S out out_map cells accept young
