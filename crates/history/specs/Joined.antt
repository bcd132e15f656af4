-- A joined record, read again: its nodes, and it is good again.
use Rattle.std.specs.Prelude.{◌≡◌, true, false, List, ◌++◌, ◌⊎◌, ℕ, ◌<◌, length}
use Rattle.std.proofs.Common.{sym, ap, ◌∙◌, inl, inr, arith}
use Rattle.std.proofs.Math.Logic.{⊎_elim}
use Rattle.meaning.specs.Words.{mem}
use Rattle.meaning.specs.Rows.{Edge, Mutation, Record, births, time_of, pos_of}
use Rattle.meaning.specs.Forest.{Ages}
use Rattle.meaning.specs.Join.{Batch, keyed, join}
use Rattle.laws.specs.Bools.{truth}
use Rattle.laws.specs.Members.{mem_left, mem_right}
use Rattle.laws.specs.Facts.{Distinct, Any, All, Cov, Good, Closed, JoinOk}
use Rattle.history.specs.Lists.{any_split, any_sort, all_app, all_to, all_sort, distinct_join}
use Rattle.history.specs.Nodes.{births_join, node_left, node_right, time_same}
use Rattle.history.specs.Moved.{all_by}

pub join_births : (R : Record) (B : Batch) → births (join R B).nodes ≡ births R.nodes ++ births B.nodes
unfolding join
join_births R B = births_join R.nodes B.nodes

module _ (R : Record) (B : Batch) where
  abbrev NR : List ℕ
  NR = births R.nodes

  abbrev NB : List ℕ
  NB = births B.nodes

  pub base_time : (b : ℕ) → mem b NR ≡ true → time_of (R.nodes ++ B.nodes) b ≡ time_of R.nodes b
  base_time b m = time_same (R.nodes ++ B.nodes) R.nodes b (node_left R.nodes B.nodes b m)

  pub batch_time : (b : ℕ) → mem b NR ≡ false → time_of (R.nodes ++ B.nodes) b ≡ time_of B.nodes b
  batch_time b m = time_same (R.nodes ++ B.nodes) B.nodes b (node_right R.nodes B.nodes b m)

  pub join_young : ((b : ℕ) → time_of R.nodes b < Ages) → ((b : ℕ) → time_of B.nodes b < Ages) → (b : ℕ) → time_of (R.nodes ++ B.nodes) b < Ages
  join_young r n b = ⊎_elim
      (λ (m : mem b NR ≡ true). omega (arith, base_time b m, r b))
      (λ (m : mem b NR ≡ false). omega (arith, batch_time b m, n b))
      (truth (mem b NR))

  module _ (c : Closed R) (j : JoinOk R B) where
    edges_closed : All (λ (e : Edge). (mem e.parent (NR ++ NB) ≡ true) × (mem e.child (NR ++ NB) ≡ true)) (join R B).edges
    unfolding join
    edges_closed = all_sort (keyed (R.nodes ++ B.nodes)) (R.edges ++ B.edges) (all_app
        (all_to (λ e p. (mem_left e.parent NR NB p.0, mem_left e.child NR NB p.1)) c.edges_in)
        (all_to (λ e p. (
          ⊎_elim (λ (i : mem e.parent NB ≡ true). mem_right e.parent NR NB i) (λ (i : mem e.parent NR ≡ true). mem_left e.parent NR NB i)
              p.0,
          mem_right e.child NR NB p.1,
        )) j.rows_in))

    muts_closed : All (λ (m : Mutation). mem m.node (NR ++ NB) ≡ true) (join R B).muts
    unfolding join
    muts_closed = all_by R.muts B.muts 0 (length R.sites)
        (all_to (λ m p. mem_left m.node NR NB p) c.muts_in)
        (all_to (λ m p. mem_right m.node NR NB p.0) j.muts_ok)

    -- every birth that a row of a joined record names is a node's
    pub join_closed : Closed (join R B)
    join_closed = record { edges_in = rw (join_births R B) edges_closed; muts_in = rw (join_births R B) muts_closed }

  module _ (g : Good R) (j : JoinOk R B) where
    -- an edge of the join is the base's or the batch's
    joined_edge : (x v q : ℕ) → Any (Cov x v q) (join R B).edges → Any (Cov x v q) R.edges ⊎ Any (Cov x v q) B.edges
    unfolding join
    joined_edge x v q a = any_split R.edges (any_sort (keyed (R.nodes ++ B.nodes)) (R.edges ++ B.edges) a)

    abbrev Ends : ℕ → ℕ → Type 0
    Ends v q = (mem v (NR ++ NB) ≡ true) × (mem q (NR ++ NB) ≡ true) × (time_of (R.nodes ++ B.nodes) v < time_of (R.nodes ++ B.nodes) q)

    base_ends : (x v q : ℕ) → Any (Cov x v q) R.edges → Ends v q
    base_ends x v q a =
        let r : _ = g.edge x v q a in
        (mem_left v NR NB r.0, mem_left q NR NB r.1, omega (arith, r.2, base_time v r.0, base_time q r.1))

    batch_ends : (x v q : ℕ) → Any (Cov x v q) B.edges → Ends v q
    batch_ends x v q a =
        let r : _ = j.edge x v q a in
        (mem_right v NR NB r.0, ⊎_elim (λ (m : mem q NB ≡ true). mem_right q NR NB m) (λ (m : mem q NR ≡ true). mem_left q NR NB m) r.1, r.2)

    join_ends : (x v q : ℕ) → Any (Cov x v q) (join R B).edges → Ends v q
    join_ends x v q a = ⊎_elim (base_ends x v q) (batch_ends x v q) (joined_edge x v q a)

    -- a base edge and a batch edge have different children
    sides : (x v q r : ℕ) → Any (Cov x v q) R.edges → Any (Cov x v r) B.edges → q ≡ r
    sides x v q r a b = absurd (j.fresh v (j.edge x v r b).0 (g.edge x v q a).0)

    join_single : (x v q r : ℕ) → Any (Cov x v q) (join R B).edges → Any (Cov x v r) (join R B).edges → q ≡ r
    join_single x v q r a b = go (joined_edge x v q a) (joined_edge x v r b)
      where
        go : Any (Cov x v q) R.edges ⊎ Any (Cov x v q) B.edges → Any (Cov x v r) R.edges ⊎ Any (Cov x v r) B.edges → q ≡ r
        go (inl a) (inl b) = g.single x v q r a b
        go (inl a) (inr b) = sides x v q r a b
        go (inr a) (inl b) = sym (sides x v r q b a)
        go (inr a) (inr b) = j.single x v q r a b

    join_muts : All (λ (m : Mutation). (mem m.node (NR ++ NB) ≡ true) × (pos_of (join R B).sites m.site < (join R B).len)) (join R B).muts
    unfolding join
    join_muts = all_by R.muts B.muts 0 (length R.sites)
        (all_to (λ m p. (mem_left m.node NR NB p.0, p.1)) g.muts_ok)
        (all_to (λ m p. (mem_right m.node NR NB p.0, p.1)) j.muts_ok)

    young : (b : ℕ) → time_of (join R B).nodes b < Ages
    unfolding join
    young = join_young g.young j.young

    older : (x v q : ℕ) → Any (Cov x v q) (join R B).edges → time_of (join R B).nodes v < time_of (join R B).nodes q
    unfolding join
    older x v q a = (join_ends x v q a).2

    pub join_once : Distinct (NR ++ NB)
    join_once = distinct_join NR NB g.once j.once (λ b r n. j.fresh b n r)

    -- what the checks 1 to 9 found of the base, and 20 to 25 of the batch, 1 to 9 find of the joined record
    pub join_good : Good (join R B)
    join_good = record {
      once = rw (join_births R B) join_once;
      young = young;
      edge = λ x v q a. (ap (mem v) (join_births R B) ∙ (join_ends x v q a).0, ap (mem q) (join_births R B) ∙ (join_ends x v q a).1, older x v q a);
      single = join_single;
      muts_ok = rw (join_births R B) join_muts;
    }
