-- The third demand proved: from calls that are not refused to the law of histories.
use Rattle.std.specs.Prelude.{◌≡◌, refl, true, List, [], ◌∷◌, ◌++◌, map, ℕ, zero, suc, ◌<◌, length}
use Rattle.std.proofs.Common.{sym, ap, ◌∙◌, inl, inr, arith}
use Rattle.meaning.specs.Words.{at, mem}
use Rattle.meaning.specs.Rows.{NodeColumns, Tables, Node, Edge, births, node_at, nodes_of, edges_of, node_of, time_of, record_of, tables_of}
use Rattle.meaning.specs.Forest.{Ages, Rules}
use Rattle.meaning.specs.Answer.{Limits, done}
use Rattle.meaning.specs.Clean.{kept, clean, cleaned, clean_answer}
use Rattle.meaning.specs.Join.{BatchTables, batch_of, join, joined, join_answer}
use Rattle.laws.specs.Members.{at_mem}
use Rattle.laws.specs.Facts.{Any, All, done as all_done, also, parents, Good, Closed, CleanOk}
use Rattle.accepted.specs.Refusals.{Accepted, of_done}
use Rattle.accepted.specs.Columns.{all_rows-is, any_row, births_of, parent_any}
use Rattle.accepted.specs.Records.{Young}
use Rattle.accepted.specs.Calls.{clean_tells, clean_accepted, clean_closed, join_tells, join_accepted, join_good, join_closed}
use Rattle.forest.specs.Profile.{Profile}
use Rattle.history.specs.Lists.{all_app}
use Rattle.history.specs.Run as run
use Rattle.history.specs.Calls as calls
use Rattle.history.proofs.Calls.{tables_three}
use Rattle.demands.specs.Histories.{Lent, Call, joins, cleans, as_parent, NamedLater, tidied, untouched, NotRefused}
use Rattle.demands.specs.Third.{YoungBatches}

-- ---- times stay below 2 to the 32

-- every row of a list of nodes is young
all_times : (l : List Node) → All (λ (n : Node). n.time < Ages) l → (i : ℕ) → i < length (map (λ (n : Node). n.time) l) → at (map (λ (n : Node). n.time) l) i < Ages
all_times [] all_done i h = absurd (omega arith)
all_times (n ∷ l) (also q a) zero h = q
all_times (n ∷ l) (also q a) (suc i) h = all_times l a i (omega arith)

young_rows : (N : NodeColumns) → Young N → All (λ (n : Node). n.time < Ages) (nodes_of N)
unfolding nodes_of
young_rows N y = all_rows-is (λ (n : Node). n.time < Ages) (node_at N) (length N.time) y

young_copied : (N : List Node) (l : List ℕ) → ((b : ℕ) → time_of N b < Ages) → All (λ (n : Node). n.time < Ages) (map (node_of N) l)
unfolding time_of
young_copied N [] h = all_done
young_copied N (b ∷ l) h = also (h b) (young_copied N l h)

young_cleaned : (rule : Rules) (L : ℕ) (T : Tables) (S : List ℕ) → Good (record_of L T) → Young (cleaned rule L T S).nodes
unfolding cleaned tables_of clean
young_cleaned rule L T S g = all_times (map (node_of (record_of L T).nodes) (kept rule (record_of L T) S)) (young_copied (record_of L T).nodes (kept rule (record_of L T) S) g.young)

young_joined : (L : ℕ) (T : Tables) (B : BatchTables) → Young T.nodes → Young B.nodes → Young (joined L T B).nodes
unfolding joined tables_of join record_of batch_of
young_joined L T B y z = all_times (nodes_of T.nodes ++ nodes_of B.nodes) (all_app (young_rows T.nodes y) (young_rows B.nodes z))

-- ---- what a batch names

batch_edges : (B : BatchTables) → (batch_of B).edges ≡ edges_of (λ b. b) B.edges
unfolding batch_of
batch_edges B = refl

-- a parent of the batch stands in its column of parents
parent_named : (B : BatchTables) → length B.edges.parent ≡ length B.edges.left → (b : ℕ) → mem b (parents (batch_of B).edges) ≡ true → mem b B.edges.parent ≡ true
unfolding edges_of
parent_named B even b h =
    let a : Any (λ (e : Edge). e.parent ≡ b) (edges_of (λ b. b) B.edges) = parent_any (edges_of (λ b. b) B.edges) b (rw (batch_edges B) at h) in
    let r : _ = any_row (λ (e : Edge). e.parent ≡ b) (λ i. record { left = at B.edges.left i; right = at B.edges.right i; parent = at B.edges.parent i; child = at B.edges.child i }) (length B.edges.left) a in
    rw r.2 at (at_mem B.edges.parent r.0 (omega (arith, r.1, even)))

module _ (rule : Rules) (pr : Profile rule) (m : Limits) (L : ℕ) where
  -- the calls, without what is lent
  abbrev plainly : List Call → List calls.Call
  plainly [] = []
  plainly (joins B o p ∷ l) = calls.joins B ∷ plainly l
  plainly (cleans S o ∷ l) = calls.cleans S ∷ plainly l

  -- what the law of histories calls named is named
  named : (l : List Call) (last : List ℕ) (o p : Lent) (T P : Tables) → NotRefused rule m L l last o p T P → (b : ℕ) → run.Names (calls.meant (plainly l)) last b → NamedLater l last b
  named [] last o p T P a b h = h
  named (joins B q r ∷ l) last o p T P a b (inl h) = inl (as_parent (parent_named B (join_tells m L T B q.out q.cells (of_done (join_answer m L T B q.out q.cells) a.0)).batch.shape.parents b h))
  named (joins B q r ∷ l) last o p T P a b (inr h) = inr (named l last o p (joined L T B) (joined L P B) a.2 b h)
  named (cleans S q ∷ l) last o p T P a b (inl h) = inl h
  named (cleans S q ∷ l) last o p T P a b (inr h) = inr (named l last o p (cleaned rule L T S) P a.2 b h)

  -- the births of the record are the column of births
  column : (T : Tables) (S : List ℕ) (q : Lent) → clean_answer rule m L T S q.out q.map q.cells ≡ done → births (record_of L T).nodes ≡ T.nodes.birth
  unfolding record_of
  column T S q a = births_of T.nodes (clean_tells rule m L T S q.out q.map q.cells (of_done (clean_answer rule m L T S q.out q.map q.cells) a)).sound.shape.births

  accepted : (l : List Call) (last : List ℕ) (o p : Lent) (T P : Tables) → Young T.nodes → Young P.nodes → YoungBatches l → NotRefused rule m L l last o p T P → calls.AcceptedT L rule (plainly l) last T P
  accepted [] last o p T P y z w a = (
    clean_accepted rule m L T last o.out o.map o.cells (of_done (clean_answer rule m L T last o.out o.map o.cells) a.0) y,
    clean_accepted rule m L P last p.out p.map p.cells (of_done (clean_answer rule m L P last p.out p.map p.cells) a.1) z,
  )
  accepted (joins B q r ∷ l) last o p T P y z w a =
      let f : Accepted (join_answer m L T B q.out q.cells) = of_done (join_answer m L T B q.out q.cells) a.0 in
      let g : Accepted (join_answer m L P B r.out r.cells) = of_done (join_answer m L P B r.out r.cells) a.1 in (
        join_good m L T B q.out q.cells f y,
        join_good m L P B r.out r.cells g z,
        join_accepted m L T B q.out q.cells f w.0,
        join_accepted m L P B r.out r.cells g w.0,
        accepted l last o p (joined L T B) (joined L P B) (young_joined L T B y w.0) (young_joined L P B z w.0) w.1 a.2,
      )
  accepted (cleans S q ∷ l) last o p T P y z w a =
      let c : CleanOk (record_of L T) S = clean_accepted rule m L T S q.out q.map q.cells (of_done (clean_answer rule m L T S q.out q.map q.cells) a.0) y in (
        c,
        (λ b i h. a.1 b (ap (mem b) (sym (column T S q a.0)) ∙ i) (named l last o p (cleaned rule L T S) P a.2 b h)),
        accepted l last o p (cleaned rule L T S) P (young_cleaned rule L T S c.good) z w a.2,
      )

  start_closed : (l : List Call) (last : List ℕ) (o p : Lent) (T P : Tables) → NotRefused rule m L l last o p T P → Closed (record_of L T)
  start_closed [] last o p T P a = clean_closed rule m L T last o.out o.map o.cells (of_done (clean_answer rule m L T last o.out o.map o.cells) a.0)
  start_closed (joins B q r ∷ l) last o p T P a = join_closed m L T B q.out q.cells (of_done (join_answer m L T B q.out q.cells) a.0)
  start_closed (cleans S q ∷ l) last o p T P a = clean_closed rule m L T S q.out q.map q.cells (of_done (clean_answer rule m L T S q.out q.map q.cells) a.0)

  same_run : (l : List Call) (T : Tables) → calls.run_t L rule (plainly l) T ≡ tidied rule m L l T
  same_run [] T = refl
  same_run (joins B o p ∷ l) T = same_run l (joined L T B)
  same_run (cleans S o ∷ l) T = same_run l (cleaned rule L T S)

  same_plain : (l : List Call) (T : Tables) → calls.plain_t L (plainly l) T ≡ untouched rule m L l T
  same_plain [] T = refl
  same_plain (joins B o p ∷ l) T = same_plain l (joined L T B)
  same_plain (cleans S o ∷ l) T = same_plain l T

  -- "the last four tables are equal, row for row"
  pub last_tables_equal : (l : List Call) (last : List ℕ) (o p : Lent) (T : Tables) → Young T.nodes → YoungBatches l → NotRefused rule m L l last o p T T →
      cleaned rule L (tidied rule m L l T) last ≡ cleaned rule L (untouched rule m L l T) last
  last_tables_equal l last o p T y w a =
      ap (λ z. cleaned rule L z last) (sym (same_run l T))
      ∙ tables_three L rule pr (plainly l) last T (start_closed l last o p T T a) (accepted l last o p T T y y w a)
      ∙ ap (λ z. cleaned rule L z last) (same_plain l T)
