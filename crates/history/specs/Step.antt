-- The one-step law for records: a cleaning before a batch does not change a cleaning after it.
use Rattle.std.specs.Prelude.{◌≡◌, Bool, false, ◌⊎◌, ℕ, ◌<◌, length}
use Rattle.std.proofs.Math.Path.{refl, sym, ap, ap₂}
use Rattle.std.proofs.Common.{◌∙◌, arith}
use Rattle.std.proofs.Math.Bool.{true}
use mathlib.Core.List.{List, [], ◌∷◌, ◌++◌}
use Rattle.std.proofs.Math.Option.{Option, none, some}
use Rattle.std.proofs.Math.Logic.{inl, inr, ⊎_elim}
use Rattle.meaning.specs.Words.{or, mem}
use Rattle.meaning.specs.Rows.{Mutation, Record, births, node_of, time_of, pos_of}
use Rattle.meaning.specs.Forest.{Par, Ages, Rules, parent_in, reached, low, drawn}
use Rattle.meaning.specs.Clean.{moved, stands_at, forest_at, low_at, kept, clean}
use Rattle.meaning.specs.Join.{Batch, keyed, by_site, join}
use Rattle.laws.specs.Bools.{truth, not_true, some_inj}
use Rattle.laws.specs.Members.{mem_left, mem_right, mem_split}
use Rattle.laws.specs.Facts.{In, Distinct, Any, All, done, also, Cov}
use Rattle.forest.specs.TreeLaws.{Nodes}
use Rattle.forest.specs.Profile.{Profile, Setting, join_par}
use Rattle.forest.specs.Position.{step_sub, step_stands, step_drawn, step_low_new, step_low_old, step_low_gone}
use Rattle.history.specs.Lists.{distinct_join}
use Rattle.history.specs.Nodes.{node_left, node_right}
use Rattle.history.specs.Encode.{parent_of}
use Rattle.history.specs.Moved.{moved_by, moved_same, moved_twice, Twice}
use Rattle.history.specs.JoinEdges.{Side, join_parent}
use Rattle.history.specs.Kept.{kept_distinct, sample_kept}
use Rattle.history.specs.Same.{same_clean}
use Rattle.history.specs.Cleaned.{good_edge, good_nodes, stands_kept, kept_in, clean_births, clean_row, drawn_ends, clean_parent, clean_edge}
use Rattle.history.specs.Joined.{base_time, join_young, join_births, join_once}
use Rattle.history.specs.Fits.{Fits, parents_have}

module _ (rule : Rules) (pr : Profile rule) (R : Record) (B : Batch) (S S2 : List ℕ) (ft : Fits R B S S2) where
  abbrev NR : List ℕ
  NR = births R.nodes

  abbrev NB : List ℕ
  NB = births B.nodes

  abbrev new : ℕ → Bool
  new b = mem b NB

  abbrev T : ℕ → Par
  T x = parent_in R.edges x

  abbrev U : ℕ → Par
  U x = parent_in B.edges x

  abbrev rank : ℕ → ℕ
  rank = time_of (R.nodes ++ B.nodes)

  abbrev rows : List ℕ
  rows = kept rule R S

  old_not_new : (b : ℕ) → mem b NR ≡ true → new b ≡ false
  old_not_new b m = not_true (new b) (λ n. ft.joined.fresh b n m)

  rows_old : (b : ℕ) → mem b rows ≡ true → mem b NR ≡ true
  rows_old = kept_in rule pr R S ft.cleaned

  rank_young : (b : ℕ) → rank b < Ages
  rank_young = join_young R B ft.cleaned.good.young ft.joined.young

  t_edge : (x v q : ℕ) → T x v ≡ some q → (mem v NR ≡ true) × (mem q NR ≡ true) × (rank v < rank q)
  t_edge x v q e = let r : _ = good_edge R ft.cleaned.good x v q e in (r.0, r.1, omega (arith, r.2, base_time R B v r.0, base_time R B q r.1))

  u_edge : (x v q : ℕ) → U x v ≡ some q → (new v ≡ true) × ((new q ≡ true) ⊎ In S q) × (rank v < rank q)
  u_edge x v q e =
      let a : _ = parent_of x v B.edges q e in
      let r : _ = ft.joined.edge x v q a in
      (r.0, ft.named q (parents_have x v q B.edges a), r.2)

  join_cases : (x : ℕ) (F : Par) (v q : ℕ) → join_par new (U x) F v ≡ some q → ((new v ≡ true) × (U x v ≡ some q)) ⊎ ((new v ≡ false) × (F v ≡ some q))
  unfolding join_par
  join_cases x F v q e = ⊎_elim (λ (n : new v ≡ true). inl (n, rw (n, join_par) at e)) (λ (n : new v ≡ false). inr (n, rw (n, join_par) at e)) (truth (new v))

  setting : (x : ℕ) → Setting new (T x) (U x) rank S S2
  setting x = record {
    batch = record {
      base_child = λ {b} {p} e. old_not_new b (t_edge x b p e).0;
      base_parent = λ {b} {p} e. old_not_new p (t_edge x b p e).1;
      named = λ {b} {p} e. (u_edge x b p e).1;
    };
    from = ft.from;
    base_aged = record { ranked = record { grows = λ {b} {p} e. (t_edge x b p e).2 }; bound = λ {b} {p} e. rank_young p };
    aged = record { ranked = record { grows = λ {b} {p} e. grow b p (join_cases x (T x) b p e) }; bound = λ {b} {p} e. rank_young p };
  }
    where
      grow : (v q : ℕ) → ((new v ≡ true) × (U x v ≡ some q)) ⊎ ((new v ≡ false) × (T x v ≡ some q)) → rank v < rank q
      grow v q (inl r) = (u_edge x v q r.1).2
      grow v q (inr r) = (t_edge x v q r.1).2

  nd_t : (x : ℕ) → Nodes (T x) NR
  nd_t x = good_nodes R ft.cleaned.good x

  abbrev K : ℕ → ℕ → Bool
  K x = rule NR (T x) S

  abbrev C : Record
  C = clean rule S R

  -- ---- the two joins, read at a position

  abbrev X : Record
  X = join R B

  abbrev Y : Record
  Y = join C B

  u_side : (x : ℕ) → Side new true x B.edges
  u_side x = record { single = ft.joined.single x; side = λ v q a. (ft.joined.edge x v q a).0 }

  x_parent : (x : ℕ) → parent_in X.edges x ≡ join_par new (U x) (T x)
  unfolding join
  x_parent x = join_parent new (keyed (R.nodes ++ B.nodes)) x R.edges B.edges
      (record { single = ft.cleaned.good.single x; side = λ v q a. old_not_new v (ft.cleaned.good.edge x v q a).0 })
      (u_side x)

  abbrev CB : ℕ → Par
  CB x = join_par new (U x) (drawn (T x) (K x))

  ends : (x b p : ℕ) → x < R.len → drawn (T x) (K x) b ≡ some p → (mem b rows ≡ true) × (mem p rows ≡ true)
  ends = drawn_ends rule pr R S ft.cleaned

  c_edge : (x v q : ℕ) → Any (Cov x v q) C.edges → (x < R.len) × (drawn (T x) (K x) v ≡ some q)
  c_edge = clean_edge rule pr R S ft.cleaned

  y_parent : (x : ℕ) → x < R.len → parent_in Y.edges x ≡ CB x
  unfolding join
  y_parent x l =
      join_parent new (keyed (C.nodes ++ B.nodes)) x C.edges B.edges
      (record {
        single = λ v q r a b. some_inj (c_edge x v q a).1 (c_edge x v r b).1;
        side = λ v q a. old_not_new v (rows_old v (ends x v q l (c_edge x v q a).1).0);
      })
      (u_side x)
      ∙ ap (λ (F : Par). join_par new (U x) F) (clean_parent rule pr R S ft.cleaned x l)

  y_births : births Y.nodes ≡ rows ++ NB
  y_births = join_births C B ∙ ap (λ (l : List ℕ). l ++ NB) (clean_births rule pr R S ft.cleaned)

  x_births : births X.nodes ≡ NR ++ NB
  x_births = join_births R B

  x_once : Distinct (NR ++ NB)
  x_once = join_once R B ft.cleaned.good ft.joined

  y_once : Distinct (rows ++ NB)
  y_once = distinct_join rows NB (kept_distinct rule R S ft.cleaned.good.once ft.cleaned.distinct) ft.joined.once (λ c i j. ft.joined.fresh c j (rows_old c i))

  nd_x : (x : ℕ) → Nodes (join_par new (U x) (T x)) (births X.nodes)
  nd_x x = rw x_births (record {
    once = x_once;
    listed = λ {b} {p} e. ⊎_elim
        (λ (r : (new b ≡ true) × (U x b ≡ some p)). mem_right b NR NB r.0)
        (λ (r : (new b ≡ false) × (T x b ≡ some p)). mem_left b NR NB (t_edge x b p r.1).0)
        (join_cases x (T x) b p e);
  })

  nd_y : (x : ℕ) → x < R.len → Nodes (CB x) (births Y.nodes)
  nd_y x l = rw y_births (record {
    once = y_once;
    listed = λ {b} {p} e. ⊎_elim
        (λ (r : (new b ≡ true) × (U x b ≡ some p)). mem_right b rows NB r.0)
        (λ (r : (new b ≡ false) × (drawn (T x) (K x) b ≡ some p)). mem_left b rows NB (ends x b p l r.1).0)
        (join_cases x (drawn (T x) (K x)) b p e);
  })

  -- ---- what the encoding is given is the same

  same_stands : (x : ℕ) → x < R.len → stands_at rule Y S2 x ≡ stands_at rule X S2 x
  unfolding stands_at
  same_stands x l =
      ap (λ (F : Par). rule (births Y.nodes) F S2) (y_parent x l)
      ∙ step_stands rule pr new (T x) (U x) rank S S2 (setting x) NR (nd_t x) (births X.nodes) (births Y.nodes) (nd_x x) (nd_y x l)
      ∙ ap (λ (F : Par). rule (births X.nodes) F S2) (sym (x_parent x))

  same_forest : (x : ℕ) → x < R.len → forest_at rule Y S2 x ≡ forest_at rule X S2 x
  unfolding forest_at stands_at
  same_forest x l =
      ap (λ (F : Par). drawn F (rule (births Y.nodes) F S2)) (y_parent x l)
      ∙ step_drawn rule pr new (T x) (U x) rank S S2 (setting x) NR (nd_t x) (births X.nodes) (births Y.nodes) (nd_x x) (nd_y x l)
      ∙ ap (λ (F : Par). drawn F (rule (births X.nodes) F S2)) (sym (x_parent x))

  -- low of a record whose nodes are N and whose forest is F
  abbrev low_in : List ℕ → Par → ℕ → Option ℕ
  low_in N F u = low N F (reached F S2) (rule N F S2) Ages u

  low_y : (x u : ℕ) → x < R.len → low_at rule Y S2 x u ≡ low_in (births Y.nodes) (CB x) u
  unfolding low_at stands_at
  low_y x u l = ap (λ (F : Par). low_in (births Y.nodes) F u) (y_parent x l)

  low_x : (x u : ℕ) → low_at rule X S2 x u ≡ low_in (births X.nodes) (join_par new (U x) (T x)) u
  unfolding low_at stands_at
  low_x x u = ap (λ (F : Par). low_in (births X.nodes) F u) (x_parent x)

  same_low_new : (x u : ℕ) → x < R.len → new u ≡ true → low_at rule Y S2 x u ≡ low_at rule X S2 x u
  same_low_new x u l n =
      low_y x u l
      ∙ step_low_new rule pr new (T x) (U x) rank S S2 (setting x) NR (nd_t x) (births X.nodes) (births Y.nodes) (nd_x x) (nd_y x l) u (omega (arith, rank_young u)) n
      ∙ sym (low_x x u)

  same_low_old : (x u a : ℕ) → x < R.len → new u ≡ false → low_at rule R S x u ≡ some a → low_at rule Y S2 x a ≡ low_at rule X S2 x u
  unfolding low_at stands_at
  same_low_old x u a l n h =
      low_y x a l
      ∙ step_low_old rule pr new (T x) (U x) rank S S2 (setting x) NR (nd_t x) (births X.nodes) (births Y.nodes) (nd_x x) (nd_y x l) u a (omega (arith, rank_young u))
      (omega (arith, rank_young a)) n h
      ∙ sym (low_x x u)

  same_low_gone : (x u : ℕ) → x < R.len → new u ≡ false → low_at rule R S x u ≡ none → low_at rule X S2 x u ≡ none
  unfolding low_at stands_at
  same_low_gone x u l n h =
      low_x x u
      ∙ step_low_gone rule pr new (T x) (U x) rank S S2 (setting x) NR (nd_t x) (births X.nodes) (births Y.nodes) (nd_x x) (nd_y x l) u (omega (arith, rank_young u)) n h

  -- ---- node rows

  -- what is in the join of the cleaned record has the same row in the join of the whole one
  row_same : (b : ℕ) → mem b (rows ++ NB) ≡ true → node_of Y.nodes b ≡ node_of X.nodes b
  unfolding join
  row_same b m = ⊎_elim
      (λ (i : mem b rows ≡ true). node_left C.nodes B.nodes b (ap (mem b) (clean_births rule pr R S ft.cleaned) ∙ i) ∙ clean_row rule pr R S ft.cleaned b i ∙ sym
      (node_left R.nodes B.nodes b (rows_old b i)))
      (λ (i : mem b NB ≡ true). node_right C.nodes B.nodes b
      (ap (mem b) (clean_births rule pr R S ft.cleaned) ∙ not_true (mem b rows) (λ j. ft.joined.fresh b i (rows_old b j))) ∙ sym
      (node_right R.nodes B.nodes b (not_true (mem b NR) (ft.joined.fresh b i))))
      (mem_split b rows NB m)

  -- what stands somewhere in the join of the whole record was kept, or is new
  stood : (x b : ℕ) → x < R.len → stands_at rule X S2 x b ≡ true → mem b (rows ++ NB) ≡ true
  unfolding stands_at
  stood x b l h = ⊎_elim
      (λ (n : new b ≡ true). mem_right b rows NB n)
      (λ (n : new b ≡ false). mem_left b rows NB (stands_kept rule pr R S ft.cleaned x b l (rw n at k)))
      (truth (new b))
    where
      k : or (new b) (K x b) ≡ true
      k = step_sub rule pr new (T x) (U x) rank S S2 (setting x) NR (nd_t x) (births X.nodes) (births Y.nodes) (nd_x x) (nd_y x l) b
          (ap (λ (F : Par). rule (births X.nodes) F S2 b) (sym (x_parent x)) ∙ h)

  in_both : (b : ℕ) → mem b (rows ++ NB) ≡ true → (mem b (births Y.nodes) ≡ true) × (mem b (births X.nodes) ≡ true) × (node_of Y.nodes b ≡ node_of X.nodes b)
  in_both b m = (
    ap (mem b) y_births ∙ m,
    ap (mem b) x_births ∙ ⊎_elim (λ (i : mem b rows ≡ true). mem_left b NR NB (rows_old b i))
        (λ (i : mem b NB ≡ true). mem_right b NR NB i) (mem_split b rows NB m),
    row_same b m,
  )

  -- ---- mutations

  abbrev pos : ℕ → ℕ
  pos = pos_of R.sites

  pub base_muts : (l : List Mutation) → All (λ (m : Mutation). (mem m.node NR ≡ true) × (pos m.site < R.len)) l → All (Twice pos (low_at rule R S) (low_at rule Y S2) (low_at rule X S2)) l
  base_muts [] done = done
  base_muts (m ∷ l) (also p a) = also (record {
    stays = λ w e. same_low_old (pos m.site) m.node w p.1 (old_not_new m.node p.0) e;
    goes = λ e. same_low_gone (pos m.site) m.node p.1 (old_not_new m.node p.0) e;
  }) (base_muts l a)

  batch_muts : (l : List Mutation) → All (λ (m : Mutation). (mem m.node NB ≡ true) × (pos m.site < R.len)) l →
      All (λ (m : Mutation). low_at rule Y S2 (pos m.site) m.node ≡ low_at rule X S2 (pos m.site) m.node) l
  batch_muts [] done = done
  batch_muts (m ∷ l) (also p a) = also (same_low_new (pos m.site) m.node p.1 p.0) (batch_muts l a)

  same_muts : moved (pos_of Y.sites) (low_at rule Y S2) Y.muts ≡ moved (pos_of X.sites) (low_at rule X S2) X.muts
  unfolding clean join
  same_muts =
      moved_by pos (low_at rule Y S2) (moved pos (low_at rule R S) R.muts) B.muts 0 (length R.sites)
      ∙ ap₂ (λ (a b : List Mutation). by_site a b 0 (length R.sites))
      (moved_twice pos (low_at rule R S) (low_at rule Y S2) (low_at rule X S2) R.muts (base_muts R.muts ft.cleaned.good.muts_ok))
      (moved_same pos (low_at rule Y S2) (low_at rule X S2) B.muts (batch_muts B.muts ft.joined.muts_ok))
      ∙ sym (moved_by pos (low_at rule X S2) R.muts B.muts 0 (length R.sites))

  same_len : Y.len ≡ X.len
  unfolding join clean
  same_len = refl

  x_len : X.len ≡ R.len
  unfolding join
  x_len = refl

  same_sites : Y.sites ≡ X.sites
  unfolding clean join
  same_sites = refl

  -- cleaning for S2 after the batch is the same, whether or not the record was cleaned for S before it
  pub one_step : clean rule S2 (join (clean rule S R) B) ≡ clean rule S2 (join R B)
  one_step = same_clean rule S2 Y X (record {
    len = same_len;
    sites = same_sites;
    samples = ft.distinct;
    once_y = rw y_births y_once;
    once_x = rw x_births x_once;
    stand = λ x l. same_stands x (omega (arith, l, x_len));
    forest = λ x l. same_forest x (omega (arith, l, x_len));
    born = λ x b l k. in_both b (stood x b (omega (arith, l, x_len)) k);
    sample_row = λ b m. row_same b (⊎_elim (λ (n : new b ≡ true). mem_right b rows NB n) (λ (n : In S b). mem_left b rows NB (sample_kept rule R S b n)) (ft.from b m));
    muts = same_muts;
  })
