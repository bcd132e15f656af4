-- Laws for the test of room: the lowest table that lacks it is the answer.
use mathlib.Core.Path.{◌≡◌, sym, ap, ◌∙◌}
use mathlib.Core.Bool.{true, false}
use mathlib.Core.List.{List, [], ◌∷◌}
use Prim.Native.Nat.{ℕ, min, ◌<◌, ◌≤◌}
use native.Mathlib.Omega.{arith}
use borrow.Author.Tests.{lt-ltb, le-ltb}
use lib.ListN.{length}
use Rattle.meaning.specs.Rows.{Tables}
use Rattle.meaning.specs.Answer.{answer, done, stored_limits, lacks, room}
use Rattle.meaning.specs.Lent.{fit_then}
use Rattle.meaning.specs.Files.{room_answer}
use Rattle.form.specs.Refusals.{refuse_no, refuse_yes}
use Rattle.stored.specs.Admitted.{Within}
use Rattle.stored.specs.Answers.{Counted, Roomed, Ample, Lowest, at_nodes, at_edges, at_sites, at_muts, at_samples}
use Rattle.stored.specs.declared.Rows.{Rows}

-- how many rows there is room for: the shortest column of each table
abbrev pub shortest : Tables → List ℕ → Rows
shortest out list_out = record {
  nodes = min (length out.nodes.time) (min (length out.nodes.birth) (length out.nodes.population));
  edges = min (length out.edges.left) (min (length out.edges.right) (min (length out.edges.parent) (length out.edges.child)));
  sites = min (length out.sites.position) (length out.sites.ancestral);
  mutations = min (length out.muts.site) (min (length out.muts.node) (length out.muts.derived));
  samples = length list_out;
}

pub roomed : (r : Rows) (out : Tables) (list_out : List ℕ) → r ≡ shortest out list_out → Roomed r out list_out
unfolding room
roomed r out list_out e = record {
  nodes = sym (ap (λ (m : Rows). m.nodes) e);
  edges = sym (ap (λ (m : Rows). m.edges) e);
  sites = sym (ap (λ (m : Rows). m.sites) e);
  muts = sym (ap (λ (m : Rows). m.mutations) e);
  samples = sym (ap (λ (m : Rows). m.samples) e);
}

lacks_no : (most : ℕ) (cols : List (List ℕ)) (need : ℕ) → need ≤ most → need ≤ room cols → lacks most cols need ≡ false
unfolding lacks
lacks_no most cols need h l = rw (le-ltb most need h, le-ltb (room cols) need l)

lacks_yes : (most : ℕ) (cols : List (List ℕ)) (need : ℕ) → need ≤ most → room cols < need → lacks most cols need ≡ true
unfolding lacks
lacks_yes most cols need h l = rw (le-ltb most need h, lt-ltb (room cols) need l)

module _ (n r : Rows) (T out : Tables) (S list_out : List ℕ) (c : Counted n T S) (w : Within stored_limits T S) (q : Roomed r out list_out) where
  nodes_no : n.nodes ≤ r.nodes → lacks stored_limits.nodes (out.nodes.time ∷ out.nodes.birth ∷ out.nodes.population ∷ []) (length T.nodes.time) ≡ false
  nodes_no h = lacks_no stored_limits.nodes (out.nodes.time ∷ out.nodes.birth ∷ out.nodes.population ∷ []) (length T.nodes.time) w.nodes (omega (arith, c.nodes, q.nodes))

  edges_no : n.edges ≤ r.edges → lacks stored_limits.edges (out.edges.left ∷ out.edges.right ∷ out.edges.parent ∷ out.edges.child ∷ []) (length T.edges.left) ≡ false
  edges_no h = lacks_no stored_limits.edges (out.edges.left ∷ out.edges.right ∷ out.edges.parent ∷ out.edges.child ∷ []) (length T.edges.left) w.edges (omega (arith, c.edges, q.edges))

  sites_no : n.sites ≤ r.sites → lacks stored_limits.sites (out.sites.position ∷ out.sites.ancestral ∷ []) (length T.sites.position) ≡ false
  sites_no h = lacks_no stored_limits.sites (out.sites.position ∷ out.sites.ancestral ∷ []) (length T.sites.position) w.sites (omega (arith, c.sites, q.sites))

  muts_no : n.mutations ≤ r.mutations → lacks stored_limits.mutations (out.muts.site ∷ out.muts.node ∷ out.muts.derived ∷ []) (length T.muts.site) ≡ false
  muts_no h = lacks_no stored_limits.mutations (out.muts.site ∷ out.muts.node ∷ out.muts.derived ∷ []) (length T.muts.site) w.muts (omega (arith, c.muts, q.muts))

  nodes_lack : r.nodes < n.nodes → room_answer stored_limits T S out list_out ≡ answer 13 1
  unfolding room_answer fit_then
  nodes_lack h = refuse_yes 13 1 _ (lacks_yes stored_limits.nodes (out.nodes.time ∷ out.nodes.birth ∷ out.nodes.population ∷ []) (length T.nodes.time) w.nodes (omega (arith, c.nodes, q.nodes)))

  edges_lack : n.nodes ≤ r.nodes → r.edges < n.edges → room_answer stored_limits T S out list_out ≡ answer 13 2
  unfolding room_answer fit_then
  edges_lack a h = refuse_no 13 1 _ (nodes_no a) ∙ refuse_yes 13 2 _ (lacks_yes stored_limits.edges (out.edges.left ∷ out.edges.right ∷ out.edges.parent ∷ out.edges.child ∷ []) (length T.edges.left) w.edges (omega (arith, c.edges, q.edges)))

  sites_lack : n.nodes ≤ r.nodes → n.edges ≤ r.edges → r.sites < n.sites → room_answer stored_limits T S out list_out ≡ answer 13 3
  unfolding room_answer fit_then
  sites_lack a b h = refuse_no 13 1 _ (nodes_no a) ∙ refuse_no 13 2 _ (edges_no b) ∙ refuse_yes 13 3 _ (lacks_yes stored_limits.sites (out.sites.position ∷ out.sites.ancestral ∷ []) (length T.sites.position) w.sites (omega (arith, c.sites, q.sites)))

  muts_lack : n.nodes ≤ r.nodes → n.edges ≤ r.edges → n.sites ≤ r.sites → r.mutations < n.mutations → room_answer stored_limits T S out list_out ≡ answer 13 4
  unfolding room_answer fit_then
  muts_lack a b d h = refuse_no 13 1 _ (nodes_no a) ∙ refuse_no 13 2 _ (edges_no b) ∙ refuse_no 13 3 _ (sites_no d) ∙ refuse_yes 13 4 _ (lacks_yes stored_limits.mutations (out.muts.site ∷ out.muts.node ∷ out.muts.derived ∷ []) (length T.muts.site) w.muts (omega (arith, c.muts, q.muts)))

  samples_lack : n.nodes ≤ r.nodes → n.edges ≤ r.edges → n.sites ≤ r.sites → n.mutations ≤ r.mutations → r.samples < n.samples → room_answer stored_limits T S out list_out ≡ answer 13 5
  unfolding room_answer fit_then
  samples_lack a b d e h = refuse_no 13 1 _ (nodes_no a) ∙ refuse_no 13 2 _ (edges_no b) ∙ refuse_no 13 3 _ (sites_no d) ∙ refuse_no 13 4 _ (muts_no e) ∙ refuse_yes 13 5 done (lacks_yes stored_limits.samples (list_out ∷ []) (length S) w.samples (omega (arith, c.samples, q.samples)))

  -- 13 with the lowest table that lacks room
  pub room_lacks : (t : ℕ) → Lowest n r t → room_answer stored_limits T S out list_out ≡ answer 13 t
  room_lacks t (at_nodes h) = nodes_lack h
  room_lacks t (at_edges a h) = edges_lack a h
  room_lacks t (at_sites a b h) = sites_lack a b h
  room_lacks t (at_muts a b d h) = muts_lack a b d h
  room_lacks t (at_samples a b d e h) = samples_lack a b d e h

  pub none_lacks : Ample n r → room_answer stored_limits T S out list_out ≡ done
  unfolding room_answer fit_then
  none_lacks a = refuse_no 13 1 _ (nodes_no a.nodes) ∙ refuse_no 13 2 _ (edges_no a.edges) ∙ refuse_no 13 3 _ (sites_no a.sites) ∙ refuse_no 13 4 _ (muts_no a.muts) ∙ refuse_no 13 5 done (lacks_no stored_limits.samples (list_out ∷ []) (length S) w.samples (omega (arith, a.samples, c.samples, q.samples)))

-- ---- where a table has room, each of its columns has

pub room_one : (n : ℕ) (a : List ℕ) → n ≤ room (a ∷ []) → n ≤ length a
unfolding room
room_one n a h = h

pub room_two : (n : ℕ) (a b : List ℕ) → n ≤ room (a ∷ b ∷ []) → (n ≤ length a) × (n ≤ length b)
unfolding room
room_two n a b h = (omega arith, omega arith)

pub room_three : (n : ℕ) (a b c : List ℕ) → n ≤ room (a ∷ b ∷ c ∷ []) → (n ≤ length a) × (n ≤ length b) × (n ≤ length c)
unfolding room
room_three n a b c h = (omega arith, omega arith, omega arith)

pub room_four : (n : ℕ) (a b c d : List ℕ) → n ≤ room (a ∷ b ∷ c ∷ d ∷ []) → (n ≤ length a) × (n ≤ length b) × (n ≤ length c) × (n ≤ length d)
unfolding room
room_four n a b c d h = (omega arith, omega arith, omega arith, omega arith)
