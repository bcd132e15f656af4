-- A cleaning for S before a cleaning for F, where S has F, changes nothing: the one-step law for a batch with no rows.
use Rattle.std.specs.Prelude.{◌≡◌, false, not, ℕ}
use Rattle.std.proofs.Math.Path.{refl, fun_ext}
use Rattle.std.proofs.Common.{sym, ap, ◌∙◌, arith}
use mathlib.Core.List.{List, [], ◌++◌, map}
use Rattle.std.proofs.Math.Logic.{inr}
use Rattle.meaning.specs.Words.{and, mem, filter, any_below, sort}
use Rattle.meaning.specs.Rows.{Record, births, node_of, time_of, pos_of}
use Rattle.meaning.specs.Forest.{Ages, Rules, parent_in, reached, low, drawn}
use Rattle.meaning.specs.Clean.{before, edges_for, stands_at, forest_at, low_at, others, kept, clean}
use Rattle.meaning.specs.Join.{Batch, keyed, join}
use Rattle.laws.specs.Members.{mem_nil}
use Rattle.laws.specs.Facts.{In, Distinct, nil, done, parents, Good, JoinOk, CleanOk}
use Rattle.forest.specs.Profile.{Profile, join_par}
use Rattle.history.specs.Lists.{append_nil}
use Rattle.history.specs.JoinEdges.{join_parent}
use Rattle.history.specs.Moved.{moved_twice}
use Rattle.history.specs.Same.{record_eq}
use Rattle.history.specs.Cleaned.{clean_good}
use Rattle.history.specs.Fits.{Fits}
use Rattle.history.specs.Step.{one_step, base_muts}

-- ---- cleaning goes by the nodes and the forest, not by the rows of edges

module _ (rule : Rules) (A B : Record) (l : A.len ≡ B.len) (n : A.nodes ≡ B.nodes) (f : parent_in A.edges ≡ parent_in B.edges) (S : List ℕ) where
  low_ext : low_at rule A S ≡ low_at rule B S
  unfolding low_at stands_at
  low_ext = λ i x u. low (births (n i)) (f i x) (reached (f i x) S) (rule (births (n i)) (f i x) S) Ages u

  others_ext : others rule A S ≡ others rule B S
  unfolding others stands_at
  others_ext = λ i. sort (before (time_of (n i))) (filter (λ b. and (not (mem b S)) (any_below (λ x. rule (births (n i)) (f i x) S b) (l i))) (births (n i)))

  nodes_ext : (clean rule S A).nodes ≡ (clean rule S B).nodes
  unfolding clean kept
  nodes_ext = λ i. map (node_of (n i)) (S ++ others_ext i)

  edges_ext : (clean rule S A).edges ≡ (clean rule S B).edges
  unfolding clean kept forest_at stands_at
  edges_ext = λ i. edges_for (l i) (time_of (n i)) (λ x. drawn (f i x) (rule (births (n i)) (f i x) S)) (S ++ others_ext i)

-- ---- the batch with no rows

abbrev pub nothing : Batch
nothing = record { nodes = []; edges = []; muts = [] }

nothing_len : (Z : Record) → (join Z nothing).len ≡ Z.len
unfolding join
nothing_len Z = refl

nothing_nodes : (Z : Record) → (join Z nothing).nodes ≡ Z.nodes
unfolding join
nothing_nodes Z = append_nil Z.nodes

nothing_parent : (Z : Record) → Good Z → parent_in (join Z nothing).edges ≡ parent_in Z.edges
unfolding join join_par
nothing_parent Z g = fun_ext (λ x. join_parent (λ _. false) (keyed (Z.nodes ++ [])) x Z.edges []
    (record { single = g.single x; side = λ v q a. refl })
    (record { single = λ v q r a b. elim a [ ]; side = λ v q a. elim a [ ] }))

join_nothing : (R : Record) → JoinOk R nothing
unfolding births time_of node_of parents
join_nothing R = record {
  once = nil;
  fresh = λ b m _. mem_nil b m;
  young = λ b. omega arith;
  edge = λ x v q a. elim a [ ];
  rows_in = done;
  known = λ q m. absurd (mem_nil q m);
  single = λ x v q r a b. elim a [ ];
  muts_ok = done;
}

module _ (rule : Rules) (pr : Profile rule) (R : Record) (S F : List ℕ) (ok : CleanOk R S) (d_f : Distinct F) (sub : (s : ℕ) → In F s → In S s) where
  fits_nothing : Fits R nothing S F
  unfolding parents
  fits_nothing = record {
    cleaned = ok;
    joined = join_nothing R;
    named = λ q m. absurd (mem_nil q m);
    from = λ s m. inr (sub s m);
    distinct = d_f;
  }

  abbrev C : Record
  C = clean rule S R

  g_c : Good C
  g_c = clean_good rule pr R S ok

  step : clean rule F (join C nothing) ≡ clean rule F (join R nothing)
  step = one_step rule pr R nothing S F fits_nothing

  low_c : low_at rule C F ≡ low_at rule (join C nothing) F
  low_c = sym (low_ext rule (join C nothing) C (nothing_len C) (nothing_nodes C) (nothing_parent C g_c) F)

  low_r : low_at rule R F ≡ low_at rule (join R nothing) F
  low_r = sym (low_ext rule (join R nothing) R (nothing_len R) (nothing_nodes R) (nothing_parent R ok.good) F)

  tidy_nodes : (clean rule F C).nodes ≡ (clean rule F R).nodes
  tidy_nodes =
      sym (nodes_ext rule (join C nothing) C (nothing_len C) (nothing_nodes C) (nothing_parent C g_c) F)
      ∙ ap (λ (Z : Record). Z.nodes) step
      ∙ nodes_ext rule (join R nothing) R (nothing_len R) (nothing_nodes R) (nothing_parent R ok.good) F

  tidy_edges : (clean rule F C).edges ≡ (clean rule F R).edges
  tidy_edges =
      sym (edges_ext rule (join C nothing) C (nothing_len C) (nothing_nodes C) (nothing_parent C g_c) F)
      ∙ ap (λ (Z : Record). Z.edges) step
      ∙ edges_ext rule (join R nothing) R (nothing_len R) (nothing_nodes R) (nothing_parent R ok.good) F

  tidy_muts : (clean rule F C).muts ≡ (clean rule F R).muts
  unfolding clean
  tidy_muts = moved_twice (pos_of R.sites) (low_at rule R S) (low_at rule C F) (low_at rule R F) R.muts
      (rw low_c (rw low_r (base_muts rule pr R nothing S F fits_nothing R.muts ok.good.muts_ok)))

  tidy_len : (clean rule F C).len ≡ (clean rule F R).len
  unfolding clean
  tidy_len = refl

  tidy_sites : (clean rule F C).sites ≡ (clean rule F R).sites
  unfolding clean
  tidy_sites = refl

  -- a cleaning for S before a cleaning for F, where S has F
  pub tidy_law : clean rule F (clean rule S R) ≡ clean rule F R
  tidy_law = record_eq (clean rule F C) (clean rule F R) tidy_len tidy_nodes tidy_edges tidy_sites tidy_muts
