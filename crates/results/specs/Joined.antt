-- A joined record has again what the checks 3 to 10 found of the base.
use Rattle.std.specs.Prelude.{◌≡◌, Bool, true, eqb, length}
use Rattle.std.proofs.Math.Path.{refl, sym, ap}
use Rattle.std.proofs.Common.{◌∙◌, ⊎_elim, arith}
use Rattle.std.proofs.Math.Bool.{false}
use mathlib.Core.List.{List, ◌++◌}
use Rattle.std.proofs.Math.Option.{Option, none, some}
use Prim.Native.Nat.{ℕ, zero, suc, ◌<◌}
use Rattle.meaning.specs.Words.{at, mem, sort}
use Rattle.meaning.specs.Rows.{Edge, Mutation, Record, births, time_of, pos_of, edge_key}
use Rattle.meaning.specs.Forest.{Par, Ages, parent_in, above, ancestor}
use Rattle.meaning.specs.Join.{Batch, keyed, by_site, join}
use Rattle.laws.specs.Bools.{not_true}
use Rattle.laws.specs.Members.{mem_left, mem_right}
use Rattle.laws.specs.Facts.{Distinct, Any, now, later, All, also, Cov, Closed, done}
use Rattle.forest.specs.Lines.{Above, here, step}
use Rattle.forest.specs.Carriers.{ancestor_of}
use Rattle.forest.specs.Profile.{join_par}
use Rattle.bridge.specs.Rename.{above_zero, above_here, above_top, above_step, ancestor_top, ancestor_step}
use Rattle.history.specs.Order.{keyed_trans, keyed_apart}
use Rattle.history.specs.Lists.{all_app, all_to, all_both, all_sort, distinct_join}
use Rattle.history.specs.Encode.{parent_of}
use Rattle.history.specs.JoinEdges.{join_parent}
use Rattle.history.specs.Moved.{all_by}
use Rattle.history.specs.Joined.{join_births, base_time}
use Rattle.history.specs.Pairs.{Pairs}
use Rattle.history.specs.Alleles.{Settles}
use Rattle.results.specs.Pairwise.{Pairwise, before_rest, pairwise_any, of_pairs, to_pairs, pairwise_app, pairwise_with, sort_pairwise, sort_ordered, sort_order, lone}
use Rattle.results.specs.Facts.{Right, Parted, Rises, RecordSound}
use Rattle.results.specs.Batched.{BatchFacts}
use Rattle.results.specs.BySite.{cross_to, by_site_pairwise}

-- ---- rows of which no two of one child share a position

parted_turn : (d e : Edge) → Parted d e → Parted e d
parted_turn d e h x c a b p q = h x (sym c) p q a b

-- an edge that shares a position with no row of the list is no row's
not_among : (x v q r : ℕ) (e : Edge) {l : List Edge} → All (Parted e) l → Cov x v q e → Any (Cov x v r) l → ⊥
not_among x v q r e done c x6 = elim x6 [ ]
not_among x v q r e (also h a) c (now d) = h x (c.of_child ∙ sym d.of_child) c.begun c.not_over d.begun d.not_over
not_among x v q r e (also h a) c (later y) = not_among x v q r e a c y

-- each child has one parent at a position
parted_single : (x v q r : ℕ) {l : List Edge} → Pairwise Parted l → Any (Cov x v q) l → Any (Cov x v r) l → q ≡ r
parted_single x v q r lone x6 _ = elim x6 [ ]
parted_single x v q r (before_rest a p) (now c) (now d) = sym c.to_parent ∙ d.to_parent
parted_single x v q r (before_rest {a = e} a p) (now c) (later y) = absurd (not_among x v q r e a c y)
parted_single x v q r (before_rest {a = e} a p) (later y) (now d) = absurd (not_among x v r q e a d y)
parted_single x v q r (before_rest a p) (later y) (later z) = parted_single x v q r p y z

-- ---- a forest that agrees with P on nodes that have no others above them

module _ (P J : Par) (old : ℕ → Bool) (same : (v : ℕ) → old v ≡ true → J v ≡ P v) (stays : (v q : ℕ) → P v ≡ some q → old q ≡ true) where
  above_base : (k a b : ℕ) → old b ≡ true → above J k a b ≡ above P k a b
  above_base zero a b o = above_zero J a b ∙ sym (above_zero P a b)
  above_base (suc k) a b o = go (eqb a b) refl (P b) refl (λ p h. above_base k a p h)
    where
      go : (t : Bool) → eqb a b ≡ t → (q : Option ℕ) → P b ≡ q → ((p : ℕ) → old p ≡ true → above J k a p ≡ above P k a p) → above J (suc k) a b ≡ above P (suc k) a b
      go true e q f ih = above_here J k a b e ∙ sym (above_here P k a b e)
      go false e none f ih = above_top J k a b e (same b o ∙ f) ∙ sym (above_top P k a b e f)
      go false e (some p) f ih = above_step J k a b p e (same b o ∙ f) ∙ ih p (stays b p f) ∙ sym (above_step P k a b p e f)

  ancestor_base : (a b : ℕ) → old b ≡ true → ancestor J a b ≡ ancestor P a b
  ancestor_base a b o = go (P b) refl
    where
      go : (q : Option ℕ) → P b ≡ q → ancestor J a b ≡ ancestor P a b
      go none f = ancestor_top J a b (same b o ∙ f) ∙ sym (ancestor_top P a b f)
      go (some p) f = ancestor_step J a b p (same b o ∙ f) ∙ above_base Ages a p (stays b p f) ∙ sym (ancestor_step P a b p f)

  above_old : (a b : ℕ) → Above P a b → old b ≡ true → old a ≡ true
  above_old a b here o = o
  above_old a b (step {p} e x) o = above_old a p x (stays b p e)

  -- no ancestor of such a node is another
  ancestor_old : (a b : ℕ) → old b ≡ true → ancestor J a b ≡ true → old a ≡ true
  ancestor_old a b o h = let r : _ = ancestor_of P a b (sym (ancestor_base a b o) ∙ h) in above_old a r.0 r.2 (stays b r.0 r.1)

-- ---- the joined record

module _ (L : ℕ) (R : Record) (B : Batch) (s : RecordSound L R) (t : BatchFacts L R B) where
  abbrev NR : List ℕ
  NR = births R.nodes

  abbrev NB : List ℕ
  NB = births B.nodes

  abbrev X : Record
  X = join R B

  abbrev time : ℕ → ℕ
  time = time_of (R.nodes ++ B.nodes)

  abbrev both : List Edge
  both = R.edges ++ B.edges

  once : Distinct (NR ++ NB)
  once = distinct_join NR NB s.once t.once t.fresh

  edges_closed : All (λ (e : Edge). (mem e.parent (NR ++ NB) ≡ true) × (mem e.child (NR ++ NB) ≡ true)) X.edges
  unfolding join
  edges_closed = all_sort (keyed (R.nodes ++ B.nodes)) both (all_app
      (all_to (λ e p. (mem_left e.parent NR NB p.0, mem_left e.child NR NB p.1)) s.closed.edges_in)
      (all_to (λ e p. (⊎_elim (λ (h : mem e.parent NR ≡ true). mem_left e.parent NR NB h) (λ (h : mem e.parent NB ≡ true). mem_right e.parent NR NB h) p.0, mem_right e.child NR NB p.1)) (all_both t.parent_in-is t.child_in)))

  muts_closed : All (λ (m : Mutation). mem m.node (NR ++ NB) ≡ true) X.muts
  unfolding join
  muts_closed = all_by R.muts B.muts 0 (length R.sites) (all_to (λ m p. mem_left m.node NR NB p) s.closed.muts_in) (all_to (λ m p. mem_right m.node NR NB p) t.node_in)

  pub join_record_closed : Closed (join R B)
  join_record_closed = record { edges_in = rw (join_births R B) edges_closed; muts_in = rw (join_births R B) muts_closed }

  -- ---- edges

  base_right : All (Right L time) R.edges
  base_right = all_to (λ e p. record { wide = p.0.wide; within = p.0.within; older = omega (arith, p.0.older, base_time R B e.child p.1.1, base_time R B e.parent p.1.0) }) (all_both s.edge s.closed.edges_in)

  right : All (Right L time) X.edges
  unfolding join
  right = all_sort (keyed (R.nodes ++ B.nodes)) both (all_app base_right t.edge)

  -- a base edge and a batch edge have different children
  parted_both : Pairwise Parted both
  parted_both = pairwise_app R.edges B.edges s.parted t.parted
      (cross_to (λ d e p q x c a b g h. t.fresh e.child (rw c at p.1) q) s.closed.edges_in t.child_in)

  parted : Pairwise Parted X.edges
  unfolding join
  parted = sort_pairwise parted_turn (keyed (R.nodes ++ B.nodes)) both parted_both

  -- edges that share no position have different keys
  keys_differ : Pairwise (λ d e. edge_key time d ≡ edge_key time e → ⊥) both
  keys_differ = pairwise_with (λ d e p q h k. differ d e p q h k) (all_app base_right t.edge) parted_both
    where
      differ : (d e : Edge) → Right L time d → Right L time e → Parted d e → edge_key time d ≡ edge_key time e → ⊥
      differ d e p q h k =
          let c : d.child ≡ e.child = unfold edge_key in ap (λ (l : List ℕ). at l 2) k in
          let z : d.left ≡ e.left = unfold edge_key in ap (λ (l : List ℕ). at l 3) k in
          h d.left c (omega arith) p.wide (omega arith) (omega (arith, q.wide))

  ordered : Pairwise (λ d e. keyed X.nodes d e ≡ true) X.edges
  unfolding join
  ordered = sort_order (keyed (R.nodes ++ B.nodes)) (keyed_trans (R.nodes ++ B.nodes)) (keyed_apart (R.nodes ++ B.nodes)) both keys_differ

  -- ---- mutations

  site_rows : All (λ (m : Mutation). m.site < length R.sites) X.muts
  unfolding join
  site_rows = all_by R.muts B.muts 0 (length R.sites) s.site_row t.site_row

  rising : Pairs Rises X.muts
  unfolding join
  rising = to_pairs (by_site_pairwise Rises (λ m n l. omega arith) R.muts B.muts
      (pairwise_any (λ m n. m.site ≡ n.site → Rises m n) (λ m n e. omega arith) R.muts)
      (pairwise_any (λ m n. m.site ≡ n.site → Rises m n) (λ m n e. omega arith) B.muts)
      (cross_to (λ m n p q e. omega arith) s.site_row t.site_row) 0 (length R.sites))

  abbrev new : ℕ → Bool
  new b = mem b NB

  -- the batch's forest grafted on the base's, however the rows are sorted
  grafted : (lt : Edge → Edge → Bool) (x : ℕ) → parent_in (sort lt both) x ≡ join_par new (parent_in B.edges x) (parent_in R.edges x)
  grafted lt x = join_parent new lt x R.edges B.edges
      (record { single = λ v q r. parted_single x v q r s.parted; side = λ v q a. not_true (new v) (λ n. t.fresh v (child_of s.closed.edges_in a) n) })
      (record { single = λ v q r. parted_single x v q r t.parted; side = λ v q a. born_of t.child_in a })
    where
      child_of : {v q : ℕ} {l : List Edge} → All (λ (e : Edge). (mem e.parent NR ≡ true) × (mem e.child NR ≡ true)) l → Any (Cov x v q) l → mem v NR ≡ true
      child_of {v = v} {q = q} done x4 = elim x4 [ ]
      child_of (also p a) (now c) = rw c.of_child at p.1
      child_of (also p a) (later y) = child_of a y

      born_of : {v q : ℕ} {l : List Edge} → All (λ (e : Edge). mem e.child NB ≡ true) l → Any (Cov x v q) l → mem v NB ≡ true
      born_of {v = v} {q = q} done x4 = elim x4 [ ]
      born_of (also p a) (now c) = rw c.of_child at p
      born_of (also p a) (later y) = born_of a y

  -- the rows as they came
  as_they_came : sort (λ d e. true) both ≡ both
  as_they_came = sort_ordered (λ d e. true) both (pairwise_any (λ d e. true ≡ true) (λ d e. refl) both)

  same_forest : (x : ℕ) → parent_in X.edges x ≡ parent_in both x
  unfolding join
  same_forest x = grafted (keyed (R.nodes ++ B.nodes)) x ∙ sym (grafted (λ d e. true) x) ∙ ap (λ (l : List Edge). parent_in l x) as_they_came

  base_parent : (x v : ℕ) → mem v NR ≡ true → parent_in X.edges x v ≡ parent_in R.edges x v
  unfolding join join_par
  base_parent x v h = ap (λ (F : Par). F v) (grafted (keyed (R.nodes ++ B.nodes)) x) ∙ (let n : new v ≡ false = not_true (new v) (λ n. t.fresh v h n) in rw (n, join_par))

  base_above : (x v q : ℕ) → parent_in R.edges x v ≡ some q → mem q NR ≡ true
  base_above x v q e = go s.closed.edges_in (parent_of x v R.edges q e)
    where
      go : {l : List Edge} → All (λ (e : Edge). (mem e.parent NR ≡ true) × (mem e.child NR ≡ true)) l → Any (Cov x v q) l → mem q NR ≡ true
      go done x4 = elim x4 [ ]
      go (also p a) (now c) = rw c.to_parent at p.0
      go (also p a) (later y) = go a y

  base_settled : (m n : Mutation) → mem m.node NR ≡ true → mem n.node NR ≡ true → Settles R m n → Settles X m n
  unfolding join
  base_settled m n h k q e =
      let x : ℕ = pos_of R.sites m.site in
      ancestor_base (parent_in R.edges x) (parent_in X.edges x) (λ b. mem b NR) (base_parent x) (base_above x) n.node m.node h ∙ q e

  cross_settled : (m n : Mutation) → mem m.node NR ≡ true → mem n.node NB ≡ true → Settles X m n
  unfolding join
  cross_settled m n h k e =
      let x : ℕ = pos_of R.sites m.site in
      not_true (ancestor (parent_in X.edges x) n.node m.node) (λ a.
      t.fresh n.node (ancestor_old (parent_in R.edges x) (parent_in X.edges x) (λ b. mem b NR) (base_parent x) (base_above x) n.node m.node h a) k)

  batch_settled : Pairwise (Settles X) B.muts
  unfolding join
  batch_settled = pairwise_with (λ m n h k q e. ap (λ (F : Par). ancestor F n.node m.node) (same_forest (pos_of R.sites m.site)) ∙ q e) t.node_in t.settled

  settled : Pairwise (Settles X) (by_site R.muts B.muts 0 (length R.sites))
  settled = by_site_pairwise (Settles X) (λ m n l e. absurd (omega arith)) R.muts B.muts
      (pairwise_with (λ m n h k q e. base_settled m n h k q) s.closed.muts_in (of_pairs s.settled.order))
      (pairwise_with (λ m n h k q e. q) t.node_in batch_settled)
      (cross_to (λ m n h k e. cross_settled m n h k) s.closed.muts_in t.node_in) 0 (length R.sites)

  settled_again : Pairs (Settles X) X.muts
  settled_again = unfold join in to_pairs settled

  join_sites : X.sites ≡ R.sites
  unfolding join
  join_sites = refl

  join_len : X.len ≡ R.len
  unfolding join
  join_len = refl

  join_right : All (Right L (time_of X.nodes)) X.edges
  join_right = unfold join in right

  -- what the checks 3 to 10 found of the base, and 22 to 26 of the batch, 3 to 10 find of the joined record
  pub join_record_sound : RecordSound L (join R B)
  join_record_sound = record {
    len = join_len ∙ s.len;
    once = rw (join_births R B) once;
    closed = join_record_closed;
    edge = join_right;
    ordered = ordered;
    parted = parted;
    inside = rw join_sites s.inside;
    ascending = rw join_sites s.ascending;
    site_row = rw join_sites site_rows;
    rising = rising;
    settled = record { order = settled_again };
  }
