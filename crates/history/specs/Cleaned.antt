-- A cleaned record, read again: its nodes, its forest at each position, its mutations; and it is good again.
use Rattle.std.specs.Prelude.{◌≡◌, Bool, true, false, ℕ, ◌<◌}
use Rattle.std.proofs.Math.Path.{refl, fun_ext}
use Rattle.std.proofs.Common.{ap, ◌∙◌, ⊎_elim, arith}
use mathlib.Core.List.{List, [], ◌∷◌}
use Rattle.std.proofs.Math.Option.{Option, none, some}
use Rattle.meaning.specs.Words.{mem}
use Rattle.meaning.specs.Rows.{Edge, Mutation, Record, births, node_of, time_of, pos_of}
use Rattle.meaning.specs.Forest.{Par, Ages, Rules, parent_in, drawn}
use Rattle.meaning.specs.Clean.{moved, stands_at, forest_at, low_at, kept, clean}
use Rattle.laws.specs.Bools.{truth, some_inj}
use Rattle.laws.specs.Facts.{In, Any, All, done, also, Cov, Good, Closed, CleanOk}
use Rattle.forest.specs.Lines.{Above, child_to}
use Rattle.forest.specs.Contract.{Reached, Contract, near_in, contract_ranked}
use Rattle.forest.specs.TreeLaws.{Aged, Nodes, drawn_contract}
use Rattle.forest.specs.Lowest.{Rule, low_of}
use Rattle.forest.specs.Profile.{Profile}
use Rattle.history.specs.Lists.{all_to}
use Rattle.history.specs.Nodes.{births_copied, node_copied, time_same, time_none}
use Rattle.history.specs.Encode.{parent_of, edges_any, decode, edges_among}
use Rattle.history.specs.Kept.{kept_distinct, kept_old, standing_kept}

-- ---- what the checks give at a position

module _ (R : Record) (g : Good R) (x : ℕ) where
  pub good_edge : (v q : ℕ) → parent_in R.edges x v ≡ some q → (mem v (births R.nodes) ≡ true) × (mem q (births R.nodes) ≡ true) × (time_of R.nodes v < time_of R.nodes q)
  good_edge v q e = g.edge x v q (parent_of x v R.edges q e)

  pub good_aged : Aged (parent_in R.edges x) (time_of R.nodes)
  good_aged = record { ranked = record { grows = λ {b} {p} e. (good_edge b p e).2 }; bound = λ {b} {p} e. g.young p }

  pub good_nodes : Nodes (parent_in R.edges x) (births R.nodes)
  good_nodes = record { once = g.once; listed = λ {b} {p} e. (good_edge b p e).0 }

-- ---- the cleaned record

module _ (rule : Rules) (pr : Profile rule) (R : Record) (S : List ℕ) (ok : CleanOk R S) where
  abbrev pub T : ℕ → Par
  T x = parent_in R.edges x

  abbrev pub K : ℕ → ℕ → Bool
  K x = rule (births R.nodes) (T x) S

  pub rule_at : (x : ℕ) → Rule (T x) (In S) (K x)
  rule_at x = pr.is_rule (T x) (time_of R.nodes) (good_aged R ok.good x) (births R.nodes) (good_nodes R ok.good x) S

  pub drawn_at : (x : ℕ) → Contract (T x) (K x) (drawn (T x) (K x))
  drawn_at x = drawn_contract (T x) (K x) (time_of R.nodes) (good_aged R ok.good x)

  -- what is reached is in the record
  pub reached_old : (x b : ℕ) → Reached (T x) (In S) b → mem b (births R.nodes) ≡ true
  reached_old x b r = ⊎_elim
      (λ (q : b ≡ r.0). rw q (ok.listed r.0 r.1))
      (λ (c : (c : ℕ) × (T x c ≡ some b) × Above (T x) c r.0). (good_edge R ok.good x c.0 b c.1).1)
      (child_to r.2)

  -- what stands somewhere is kept
  pub stands_kept : (x b : ℕ) → x < R.len → K x b ≡ true → mem b (kept rule R S) ≡ true
  unfolding stands_at
  stands_kept x b l k = standing_kept rule R S b x (reached_old x b ((rule_at x).only k)) l k

  pub kept_in : (b : ℕ) → mem b (kept rule R S) ≡ true → mem b (births R.nodes) ≡ true
  kept_in = kept_old rule R S ok.listed

  pub clean_births : births (clean rule S R).nodes ≡ kept rule R S
  unfolding clean
  clean_births = births_copied R.nodes (kept rule R S) kept_in

  -- a node row is copied whole
  pub clean_row : (b : ℕ) → mem b (kept rule R S) ≡ true → node_of (clean rule S R).nodes b ≡ node_of R.nodes b
  unfolding clean
  clean_row b m = node_copied R.nodes (kept rule R S) kept_in b m

  clean_time : (b : ℕ) → mem b (kept rule R S) ≡ true → time_of (clean rule S R).nodes b ≡ time_of R.nodes b
  clean_time b m = time_same (clean rule S R).nodes R.nodes b (clean_row b m)

  pub drawn_ends : (x b p : ℕ) → x < R.len → drawn (T x) (K x) b ≡ some p → (mem b (kept rule R S) ≡ true) × (mem p (kept rule R S) ≡ true)
  drawn_ends x b p l e = (stands_kept x b l ((drawn_at x).child e), stands_kept x p l (near_in ((drawn_at x).into e).2))

  -- the forest of the cleaned record is the forest drawn together to what stands
  pub clean_parent : (x : ℕ) → x < R.len → parent_in (clean rule S R).edges x ≡ drawn (T x) (K x)
  unfolding clean forest_at stands_at
  clean_parent x l = fun_ext (λ b. decode R.len (time_of R.nodes) (forest_at rule R S) (kept rule R S) x l (λ b p e. drawn_ends x b p l e) b)

  pub clean_edge : (x v q : ℕ) → Any (Cov x v q) (clean rule S R).edges → (x < R.len) × (drawn (T x) (K x) v ≡ some q)
  unfolding clean forest_at stands_at
  clean_edge x v q a = edges_any R.len (time_of R.nodes) (forest_at rule R S) (kept rule R S) x v q a

  low_kept : (x u w : ℕ) → x < R.len → low_at rule R S x u ≡ some w → mem w (kept rule R S) ≡ true
  unfolding low_at stands_at
  low_kept x u w l h = stands_kept x w l (low_of (T x) (time_of R.nodes) (good_aged R ok.good x) (births R.nodes) (good_nodes R ok.good x) S (K x) (rule_at x) Ages w u h).in_set

  -- ---- it is good again

  abbrev MutationOk : Mutation → Type 0
  MutationOk m = (mem m.node (kept rule R S) ≡ true) × (pos_of R.sites m.site < R.len)

  moved_kept : (l : List Mutation) → All (λ (m : Mutation). (mem m.node (births R.nodes) ≡ true) × (pos_of R.sites m.site < R.len)) l →
      All MutationOk (moved (pos_of R.sites) (low_at rule R S) l)
  unfolding moved
  moved_kept [] done = done
  moved_kept (m ∷ l) (also p a) = go (low_at rule R S (pos_of R.sites m.site) m.node) refl (moved_kept l a)
    where
      go : (o : Option ℕ) → low_at rule R S (pos_of R.sites m.site) m.node ≡ o → All MutationOk (moved (pos_of R.sites) (low_at rule R S) l) →
          All MutationOk (moved (pos_of R.sites) (low_at rule R S) (m ∷ l))
      go none e ih = rw (e, moved) ih
      go (some w) e ih = rw (e, moved) (also (low_kept (pos_of R.sites m.site) m.node w p.1 e, p.1) ih)

  clean_muts : All MutationOk (clean rule S R).muts
  unfolding clean
  clean_muts = moved_kept R.muts ok.good.muts_ok

  clean_among : All (λ (e : Edge). (mem e.parent (kept rule R S) ≡ true) × (mem e.child (kept rule R S) ≡ true)) (clean rule S R).edges
  unfolding clean
  clean_among = edges_among R.len (time_of R.nodes) (forest_at rule R S) (kept rule R S)

  -- every birth that a row of a cleaned record names is a node's
  pub clean_closed : Closed (clean rule S R)
  clean_closed = record { edges_in = rw clean_births clean_among; muts_in = rw clean_births (all_to (λ m p. p.0) clean_muts) }

  clean_young : (b : ℕ) → time_of (clean rule S R).nodes b < Ages
  clean_young b = ⊎_elim
      (λ (m : mem b (kept rule R S) ≡ true). omega (arith, clean_time b m, ok.good.young b))
      (λ (m : mem b (kept rule R S) ≡ false). omega (arith, time_none (clean rule S R).nodes b (ap (mem b) clean_births ∙ m)))
      (truth (mem b (kept rule R S)))

  clean_ends : (x v q : ℕ) → Any (Cov x v q) (clean rule S R).edges →
      (mem v (births (clean rule S R).nodes) ≡ true) × (mem q (births (clean rule S R).nodes) ≡ true) × (time_of (clean rule S R).nodes v < time_of (clean rule S R).nodes q)
  clean_ends x v q a =
      let e : _ = clean_edge x v q a in
      let m : _ = drawn_ends x v q e.0 e.1 in
      let l : time_of R.nodes v < time_of R.nodes q = (contract_ranked (drawn_at x) (good_aged R ok.good x).ranked).grows e.1 in
      (ap (mem v) clean_births ∙ m.0, ap (mem q) clean_births ∙ m.1, omega (arith, l, clean_time v m.0, clean_time q m.1))

  clean_sites : All (λ (m : Mutation). (mem m.node (kept rule R S) ≡ true) × (pos_of (clean rule S R).sites m.site < (clean rule S R).len)) (clean rule S R).muts
  unfolding clean
  clean_sites = clean_muts

  -- what the checks 1 to 9 found of a record they find of the cleaned record
  pub clean_good : Good (clean rule S R)
  clean_good = record {
    once = rw clean_births (kept_distinct rule R S ok.good.once ok.distinct);
    young = clean_young;
    edge = clean_ends;
    single = λ x v q r a b. some_inj (clean_edge x v q a).1 (clean_edge x v r b).1;
    muts_ok = rw clean_births clean_sites;
  }
