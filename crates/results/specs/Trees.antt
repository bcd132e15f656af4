-- The tree that a cleaning leaves at one position, for 01's rule: the subtree that the samples induce, with no unary vertex but samples.
use Rattle.std.specs.Prelude.{◌≡◌, Bool, true, false, List, ◌⊎◌, ℕ}
use Rattle.std.proofs.Common.{sym, inl, inr, ⊎_elim, arith}
use Rattle.std.proofs.Math.Option.{some}
use Rattle.meaning.specs.Words.{mem}
use Rattle.meaning.specs.Rows.{Tables, record_of}
use Rattle.meaning.specs.Forest.{Par, Ages, parent_in, above, reached, stands, drawn}
use Rattle.laws.specs.Bools.{clash, bool_ext}
use Rattle.laws.specs.Facts.{In}
use Rattle.forest.specs.Lines.{Above, here, step, trans, comparable, child_to, same_child, above_eq}
use Rattle.forest.specs.Contract.{Reached, Stands, sample, two, Contract, up_in, order_in, order_out, reached_out, stands_out}
use Rattle.forest.specs.TreeLaws.{Aged, Nodes, above_of, of_above, of_reached, stands_of, drawn_contract}
use Rattle.forest.specs.Lowest.{Rule, stands_rule}
use Rattle.forest.specs.Redrawn.{contract_aged}
use Rattle.forest.specs.Mrca.{Mrca, mrca_stands}

-- the vertices of a tree of samples: the samples, and the ends of its edges
pub data Vertex (F : Par) (S : List ℕ) (u : ℕ) : Type 0 where
  a_sample : In S u → Vertex F S u
  a_parent : {c : ℕ} → F c ≡ some u → Vertex F S u
  a_child : {p : ℕ} → F u ≡ some p → Vertex F S u

-- F is the subtree of P that the samples induce: its vertices are their most recent common ancestors (each sample is its own), and of two vertices one is above the other exactly if it is in P
pub record Induced (P F : Par) (S : List ℕ) : Type 0 where
  pub only : (u : ℕ) → Vertex F S u → (s t : ℕ) × In S s × In S t × Mrca P s t u
  pub all : (u s t : ℕ) → In S s → In S t → Mrca P s t u → Vertex F S u
  pub order : (u v : ℕ) → Vertex F S u → Vertex F S v → above F Ages u v ≡ above P Ages u v

-- the tree at position x that tables give
abbrev pub tree_at : ℕ → Tables → ℕ → Par
tree_at L T x = parent_in (record_of L T).edges x

-- every vertex that is no sample has two children
abbrev pub NoUnary : Par → List ℕ → Type 0
NoUnary F S = (u : ℕ) → Vertex F S u → mem u S ≡ false → (c d : ℕ) × (c ≡ d → ⊥) × (F c ≡ some u) × (F d ≡ some u)

-- at x the node b is a sample or has one below it, in the tree that T gives and in the tree that C gives
abbrev pub Ancestral : ℕ → Tables → Tables → List ℕ → ℕ → ℕ → Type 0
Ancestral L T C S x b = (reached (tree_at L T x) S b ≡ true) × (reached (tree_at L C x) S b ≡ true)

module _ (P : Par) (rank : ℕ → ℕ) (ok : Aged P rank) (N : List ℕ) (nd : Nodes P N) (S : List ℕ) where
  abbrev K : ℕ → Bool
  K = stands N P S

  abbrev Q : Par
  Q = drawn P K

  ct : Contract P K Q
  ct = drawn_contract P K rank ok

  ru : Rule P (In S) K
  ru = stands_rule P rank ok N nd S

  -- the vertices are what stands
  vertex_stands : (u : ℕ) → Vertex Q S u → K u ≡ true
  vertex_stands u (a_sample h) = ru.samples h
  vertex_stands u (a_parent e) = up_in ct e
  vertex_stands u (a_child e) = ct.child e

  forks : (u : ℕ) → K u ≡ true → Stands Q (In S) u
  forks u k = stands_out ct (In S) rank ok.ranked (λ s h. ru.samples h) k (stands_of P rank ok N nd S u k)

  pub stands_vertex : (u : ℕ) → K u ≡ true → Vertex Q S u
  stands_vertex u k = go (forks u k)
    where
      go : Stands Q (In S) u → Vertex Q S u
      go (sample h) = a_sample h
      go (two n e f r s) = a_parent e

  -- where the lines from two samples meet is their most recent common ancestor
  fork_mrca : (u c d s t : ℕ) → (c ≡ d → ⊥) → P c ≡ some u → P d ≡ some u → Above P c s → Above P d t → Mrca P s t u
  fork_mrca u c d s t n e f x y = record { one = trans (step e here) x; other = trans (step f here) y; recent = λ {a} p q. ⊎_elim (λ (z : Above P a u). z) (λ (z : Above P u a). under a p q (child_to z)) (comparable p (trans (step e here) x)) }
    where
      under : (a : ℕ) → Above P a s → Above P a t → (u ≡ a) ⊎ ((i : ℕ) × (P i ≡ some u) × Above P i a) → Above P a u
      under a p q (inl z) = above_eq (sym z)
      under a p q (inr i) = absurd (n (same i))
        where
          same : ((i : ℕ) × (P i ≡ some u) × Above P i a) → c ≡ d
          same i = let g : i.0 ≡ c = same_child rank ok.ranked i.1 e (trans i.2 p) x in let h : i.0 ≡ d = same_child rank ok.ranked i.1 f (trans i.2 q) y in cc

  vertex_mrca : (u : ℕ) → Vertex Q S u → (s t : ℕ) × In S s × In S t × Mrca P s t u
  vertex_mrca u v = go (stands_of P rank ok N nd S u (vertex_stands u v))
    where
      go : Stands P (In S) u → (s t : ℕ) × In S s × In S t × Mrca P s t u
      go (sample h) = (u, u, h, h, record { one = here; other = here; recent = λ p q. p })
      go (two {c} {d} n e f r s) = (r.0, s.0, r.1, s.1, fork_mrca u c d r.0 s.0 n e f r.2 s.2)

  ok_q : Aged Q rank
  ok_q = contract_aged rank ct ok

  same_above : (u v : ℕ) → Vertex Q S u → Vertex Q S v → above Q Ages u v ≡ above P Ages u v
  same_above u v a b = bool_ext
      (λ h. of_above P rank ok Ages u v (omega arith) (order_in ct (above_of Q Ages u v h)))
      (λ h. of_above Q rank ok_q Ages u v (omega arith) (order_out ct (vertex_stands u a) (vertex_stands v b) (above_of P Ages u v h)))

  pub drawn_induced : Induced P (drawn P (stands N P S)) S
  drawn_induced = record {
    only = vertex_mrca;
    all = λ u s t h k r. stands_vertex u (mrca_stands P Q K rank ok.ranked (In S) ru ct s t h k u r);
    order = same_above;
  }

  pub drawn_no_unary : NoUnary (drawn P (stands N P S)) S
  drawn_no_unary u v m = go (forks u (vertex_stands u v))
    where
      go : Stands Q (In S) u → (c d : ℕ) × (c ≡ d → ⊥) × (Q c ≡ some u) × (Q d ≡ some u)
      go (sample h) = absurd (clash h m)
      go (two {c} {d} n e f r s) = (c, d, n, e, f)

  -- what stands has a sample at or below it, before and after
  pub stands_reached : (u : ℕ) → stands N P S u ≡ true → (reached P S u ≡ true) × (reached (drawn P (stands N P S)) S u ≡ true)
  stands_reached u k =
      let r : Reached P (In S) u = ru.only k in
      (of_reached P rank ok S u r, of_reached Q rank ok_q S u (reached_out ct (In S) rank ok.ranked (λ s h. ru.samples h) k r))
