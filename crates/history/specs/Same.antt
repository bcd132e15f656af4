-- Two records that give the encoding the same are cleaned to the same record.
use Rattle.std.specs.Prelude.{◌≡◌, Bool, true, not, ℕ, ◌<◌}
use Rattle.std.proofs.Common.{sym, ◌∙◌, ⊎_elim, arith}
use Rattle.std.proofs.Math.Path.{ap}
use mathlib.Core.List.{List, ◌++◌, map}
use Rattle.meaning.specs.Words.{and, mem}
use Rattle.meaning.specs.Rows.{Record, births, node_of, time_of, pos_of}
use Rattle.meaning.specs.Forest.{Rules}
use Rattle.meaning.specs.Clean.{before, edges_for, moved, stands_at, forest_at, low_at, others, kept, clean}
use Rattle.laws.specs.Bools.{bool_ext}
use Rattle.laws.specs.Counting.{below_of, of_below}
use Rattle.laws.specs.Facts.{In, Distinct}
use Rattle.history.specs.Order.{sorted_unique, sorted_as, before_order, before_same}
use Rattle.history.specs.Lists.{map_same}
use Rattle.history.specs.Nodes.{time_same}
use Rattle.history.specs.Encode.{edges_same}
use Rattle.history.specs.Kept.{chosen, somewhere, others_of, of_others, others_sorted, kept_distinct, kept_cases}

pub record_eq : (A B : Record) → A.len ≡ B.len → A.nodes ≡ B.nodes → A.edges ≡ B.edges → A.sites ≡ B.sites → A.muts ≡ B.muts → A ≡ B
record_eq A B l n e s m = λ i. record { len = l i; nodes = n i; edges = e i; sites = s i; muts = m i }

-- all that the encoding is given, of Y and of X
pub record Same (rule : Rules) (S : List ℕ) (Y X : Record) : Type 0 where
  pub len : Y.len ≡ X.len
  pub sites : Y.sites ≡ X.sites
  pub once_y : Distinct (births Y.nodes)
  pub once_x : Distinct (births X.nodes)
  pub samples : Distinct S
  pub stand : (x : ℕ) → x < X.len → stands_at rule Y S x ≡ stands_at rule X S x
  pub forest : (x : ℕ) → x < X.len → forest_at rule Y S x ≡ forest_at rule X S x
  pub born : (x b : ℕ) → x < X.len → stands_at rule X S x b ≡ true → (mem b (births Y.nodes) ≡ true) × (mem b (births X.nodes) ≡ true) × (node_of Y.nodes b ≡ node_of X.nodes b)
  pub sample_row : (b : ℕ) → In S b → node_of Y.nodes b ≡ node_of X.nodes b
  pub muts : moved (pos_of Y.sites) (low_at rule Y S) Y.muts ≡ moved (pos_of X.sites) (low_at rule X S) X.muts

module _ (rule : Rules) (S : List ℕ) (Y X : Record) (s : Same rule S Y X) where
  abbrev t : Record → ℕ → ℕ
  t R = time_of R.nodes

  chosen_same : (b : ℕ) → chosen rule Y S b ≡ chosen rule X S b
  chosen_same b = ap (λ (u : Bool). and (not (mem b S)) u) (bool_ext
      (λ h.
      let r : _ = below_of (λ x. stands_at rule Y S x b) Y.len h in
      let l : r.0 < X.len = omega (arith, r.1, s.len) in
      of_below (λ x. stands_at rule X S x b) X.len r.0 l (sym (ap (λ (f : ℕ → Bool). f b) (s.stand r.0 l)) ∙ r.2))
      (λ h.
      let r : _ = below_of (λ x. stands_at rule X S x b) X.len h in
      of_below (λ x. stands_at rule Y S x b) Y.len r.0 (omega (arith, r.1, s.len)) (ap (λ (f : ℕ → Bool). f b) (s.stand r.0 r.1) ∙ r.2)))

  -- what is chosen has the same row in both
  chosen_born : (b : ℕ) → chosen rule X S b ≡ true → (mem b (births Y.nodes) ≡ true) × (mem b (births X.nodes) ≡ true) × (node_of Y.nodes b ≡ node_of X.nodes b)
  chosen_born b h = let r : _ = somewhere rule X S b h in s.born r.0 b r.1 r.2

  others_mem : (b : ℕ) → mem b (others rule Y S) ≡ mem b (others rule X S)
  others_mem b = bool_ext
      (λ h. let c : chosen rule X S b ≡ true = sym (chosen_same b) ∙ (others_of rule Y S b h).1 in of_others rule X S b (chosen_born b c).1 c)
      (λ h. let r : _ = others_of rule X S b h in of_others rule Y S b (chosen_born b r.1).0 (chosen_same b ∙ r.1))

  same_others : others rule Y S ≡ others rule X S
  same_others = sorted_unique (before (t X)) (before_order (t X)) (others rule Y S) (others rule X S)
      (sorted_as (before (t Y)) (before (t X)) (λ a b i j. before_same (t Y) (t X) a b (when a i) (when b j)) (others_sorted rule Y S s.once_y))
      (others_sorted rule X S s.once_x)
      others_mem
    where
      when : (b : ℕ) → mem b (others rule Y S) ≡ true → t Y b ≡ t X b
      when b m = time_same Y.nodes X.nodes b (chosen_born b (sym (chosen_same b) ∙ (others_of rule Y S b m).1)).2

  same_kept : kept rule Y S ≡ kept rule X S
  unfolding kept
  same_kept = ap (λ (o : List ℕ). S ++ o) same_others

  row_same : (b : ℕ) → mem b (kept rule X S) ≡ true → node_of Y.nodes b ≡ node_of X.nodes b
  row_same b m = ⊎_elim (λ (i : mem b S ≡ true). s.sample_row b i) (λ (i : (mem b (births X.nodes) ≡ true) × (chosen rule X S b ≡ true)). (chosen_born b i.1).2) (kept_cases rule X S b m)

  same_edges : edges_for Y.len (t Y) (forest_at rule Y S) (kept rule Y S) ≡ edges_for X.len (t X) (forest_at rule X S) (kept rule X S)
  same_edges =
      (λ i. edges_for (s.len i) (t Y) (forest_at rule Y S) (same_kept i))
      ∙ edges_same X.len (t Y) (t X) (forest_at rule Y S) (forest_at rule X S) (kept rule X S)
      (kept_distinct rule X S s.once_x s.samples)
      (λ b m. time_same Y.nodes X.nodes b (row_same b m))
      s.forest

  -- the encoding law
  pub same_clean : clean rule S Y ≡ clean rule S X
  unfolding clean
  same_clean = record_eq (clean rule S Y) (clean rule S X) s.len
      (ap (map (node_of Y.nodes)) same_kept ∙ map_same (node_of Y.nodes) (node_of X.nodes) (kept rule X S) row_same)
      same_edges
      s.sites s.muts
