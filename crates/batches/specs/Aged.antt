-- Base and batch as the rules 22 to 26 and the order of edges see them: time and birth of each node, and no populations (M-106).
use Rattle.std.specs.Prelude.{◌≡◌, Bool, true, false, not, eqb, leb, ltb, length}
use Rattle.std.proofs.Math.Path.{refl, ap, ap₂, fun_ext}
use Rattle.std.proofs.Common.{sym, ◌∙◌, arith}
use mathlib.Core.List.{List, [], ◌∷◌, ◌++◌, append-nil}
use Prim.Native.Nat.{ℕ, zero, suc}
use Rattle.meaning.specs.Words.{or, at, mem, rows, rows_from}
use Rattle.meaning.specs.Rows.{NodeColumns, EdgeColumns, Tables, Node, age_table, node_at, nodes_of, node_of, time_of}
use Rattle.meaning.specs.Answer.{Answer, refuse_row}
use Rattle.meaning.specs.Check.{edge_shared, mutation_above}
use Rattle.meaning.specs.Join.{BatchTables, batch_tables, time_in, batch_birth, batch_edge, batch_mutation, batch_rules}
use Rattle.accepted.specs.Batches.{BatchEdgeRight, edges_with}
use Rattle.batches.specs.Joint.{Joint}
use Rattle.batches.specs.Asked.{read_base, read_batch}

abbrev pub aged_nodes : NodeColumns → NodeColumns
aged_nodes N = age_table N.time N.birth

abbrev pub aged_batch : BatchTables → BatchTables
aged_batch B = batch_tables (aged_nodes B.nodes) B.edges B.muts

-- ---- the time of a birth

module _ (b : ℕ) where
  node_first : (n : Node) (l : List Node) → eqb n.birth b ≡ true → node_of (n ∷ l) b ≡ n
  unfolding node_of
  node_first n l e = rw (e, node_of)

  node_later : (n : Node) (l : List Node) → eqb n.birth b ≡ false → node_of (n ∷ l) b ≡ node_of l b
  unfolding node_of
  node_later n l e = rw (e, node_of)

  time_first : (n : Node) (l : List Node) → eqb n.birth b ≡ true → time_of (n ∷ l) b ≡ n.time
  unfolding time_of
  time_first n l e = ap (λ (x : Node). x.time) (node_first n l e)

  time_later : (n : Node) (l : List Node) → eqb n.birth b ≡ false → time_of (n ∷ l) b ≡ time_of l b
  unfolding time_of
  time_later n l e = ap (λ (x : Node). x.time) (node_later n l e)

  -- a row more, of one time and one birth
  time_row : (n o : Node) (l m : List Node) → n.time ≡ o.time → n.birth ≡ o.birth → time_of l b ≡ time_of m b → time_of (n ∷ l) b ≡ time_of (o ∷ m) b
  time_row n o l m t s e = go (eqb n.birth b) refl
    where
      go : (x : Bool) → eqb n.birth b ≡ x → time_of (n ∷ l) b ≡ time_of (o ∷ m) b
      go true q = time_first n l q ∙ t ∙ sym (time_first o m (ap (λ k. eqb k b) (sym s) ∙ q))
      go false q = time_later n l q ∙ e ∙ sym (time_later o m (ap (λ k. eqb k b) (sym s) ∙ q))

  time_rows : (N : NodeColumns) (l m : List Node) → time_of l b ≡ time_of m b → (i k : ℕ) → time_of (rows_from (node_at (aged_nodes N)) i k ++ l) b ≡ time_of (rows_from (node_at N) i k ++ m) b
  unfolding rows_from
  time_rows N l m e i zero = e
  time_rows N l m e i (suc k) = time_row (node_at (aged_nodes N) i) (node_at N i) (rows_from (node_at (aged_nodes N)) (suc i) k ++ l) (rows_from (node_at N) (suc i) k ++ m) refl refl (time_rows N l m e (suc i) k)

  time_own : (N : NodeColumns) → time_of (nodes_of (aged_nodes N)) b ≡ time_of (nodes_of N) b
  unfolding nodes_of rows
  time_own N =
      ap (λ l. time_of l b) (sym (append-nil (rows_from (node_at (aged_nodes N)) 0 (length N.time))))
      ∙ time_rows N [] [] refl 0 (length N.time)
      ∙ ap (λ l. time_of l b) (append-nil (rows_from (node_at N) 0 (length N.time)))

-- the first row with the birth decides, and its time is copied
pub time_aged : (base N : NodeColumns) (b : ℕ) → time_in (aged_nodes base) (aged_nodes N) b ≡ time_in base N b
unfolding time_in nodes_of rows
time_aged base N b = time_rows b base (nodes_of (aged_nodes N)) (nodes_of N) (time_own b N) 0 (length base.time)

-- ---- rule 23, and what it finds

module _ (L : ℕ) (base N : NodeColumns) (E : EdgeColumns) where
  pub edge_aged : batch_edge L (aged_nodes base) (aged_nodes N) E ≡ batch_edge L base N E
  unfolding batch_edge
  edge_aged = fun_ext (λ i. ap₂ (λ p c.
      or (not (mem (at E.child i) N.birth))
      (or (not (or (mem (at E.parent i) base.birth) (mem (at E.parent i) N.birth)))
      (or (leb (at E.right i) (at E.left i))
      (or (ltb L (at E.right i))
      (leb p c))))) (time_aged base N (at E.parent i)) (time_aged base N (at E.child i)))

  pub right_aged : (i : ℕ) → BatchEdgeRight L base N E i → BatchEdgeRight L (aged_nodes base) (aged_nodes N) E i
  right_aged i h = record {
    child_in = h.child_in;
    parent_in-is = h.parent_in-is;
    some_position = h.some_position;
    within = h.within;
    older = omega (arith, h.older, time_aged base N (at E.child i), time_aged base N (at E.parent i));
  }

-- ---- base and batch together

module _ (L : ℕ) (T : Tables) (B : BatchTables) where
  -- what the rules of a batch find is handed on without the populations
  pub joint_aged : (position site node : List ℕ) → Joint L T B → Joint L (read_base T.nodes.time T.nodes.birth T.edges position) (read_batch B.nodes.time B.nodes.birth B.edges site node)
  joint_aged position site node j = record {
    base_long = j.base_long;
    long = j.long;
    few = j.few;
    base_once = j.base_once;
    once = j.once;
    fresh = j.fresh;
    rising = j.rising;
    even = j.even;
    edge = λ i l. right_aged L T.nodes B.nodes B.edges i (j.edge i l);
  }

  -- 22 to 26 read of the base nodes, edges and positions alone, and no population
  pub rules_aged : (rest : Answer) → batch_rules L (read_base T.nodes.time T.nodes.birth T.edges T.sites.position) (aged_batch B) rest ≡ batch_rules L T B rest
  unfolding batch_rules
  rules_aged rest = ap (λ (f : ℕ → Bool).
      refuse_row 22 (batch_birth T.nodes.birth B.nodes.birth) (length B.nodes.birth)
      (refuse_row 23 f (length B.edges.left)
      (refuse_row 24 (edge_shared B.edges) (length B.edges.left)
      (refuse_row 25 (batch_mutation (length T.sites.position) B.nodes.birth B.muts) (length B.muts.site)
      (refuse_row 26 (mutation_above (edges_with T B) T.sites.position (λ b. b) B.muts) (length B.muts.site) rest))))) (edge_aged L T.nodes B.nodes B.edges)
