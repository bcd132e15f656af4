-- What writing asks of tables 1 to 5: their shape, their size, and rows that a file has fields for.
use Rattle.std.specs.Prelude.{◌≡◌, true, false, List, [], ◌∷◌, ℕ, ◌<◌, ◌≤◌, ltb, length}
use Rattle.std.proofs.Math.Path.{refl}
use Rattle.std.proofs.Common.{◌∙◌}
use borrow.Author.Tests.{ltb-false, le-ltb}
use Rattle.meaning.specs.Rows.{Tables}
use Rattle.meaning.specs.Answer.{Answer, Limits, done, refuse, refuse_row, accepted, ragged}
use Rattle.meaning.specs.Check.{shapes, sizes, too_many}
use Rattle.meaning.specs.Files.{too_wide, populated, written, write_answer}
use Rattle.form.specs.Refusals.{refuse_no, passed, row_no, row_passed}

pub record Shaped (T : Tables) : Type 0 where
  pub nodes : ragged (T.nodes.time ∷ T.nodes.birth ∷ T.nodes.population ∷ []) ≡ false
  pub edges : ragged (T.edges.left ∷ T.edges.right ∷ T.edges.parent ∷ T.edges.child ∷ []) ≡ false
  pub sites : ragged (T.sites.position ∷ T.sites.ancestral ∷ []) ≡ false
  pub muts : ragged (T.muts.site ∷ T.muts.node ∷ T.muts.derived ∷ []) ≡ false

pub record Within (m : Limits) (T : Tables) (S : List ℕ) : Type 0 where
  pub nodes : length T.nodes.time ≤ m.nodes
  pub edges : length T.edges.left ≤ m.edges
  pub sites : length T.sites.position ≤ m.sites
  pub muts : length T.muts.site ≤ m.mutations
  pub samples : length S ≤ m.samples

-- the rows that edges and mutations name fit w bytes, and every population is 0
pub record Narrow (w : ℕ) (T : Tables) : Type 0 where
  pub edges : (i : ℕ) → i < length T.edges.left → too_wide w T.edges.parent T.edges.child i ≡ false
  pub muts : (i : ℕ) → i < length T.muts.site → too_wide w T.muts.site T.muts.node i ≡ false
  pub nodes : (i : ℕ) → i < length T.nodes.time → populated T.nodes.population i ≡ false

-- 1 is not answered
pub shapes_pass : (T : Tables) (rest : Answer) → Shaped T → shapes T rest ≡ rest
unfolding shapes
shapes_pass T rest s = refuse_no 1 1 _ s.nodes ∙ refuse_no 1 2 _ s.edges ∙ refuse_no 1 3 _ s.sites ∙ refuse_no 1 4 rest s.muts

-- 2 is not answered
pub sizes_pass : (m : Limits) (T : Tables) (S : List ℕ) (rest : Answer) → Within m T S → sizes m T (too_many 5 m.samples S rest) ≡ rest
unfolding sizes
sizes_pass m T S rest l =
    refuse_no 2 1 _ (le-ltb m.nodes (length T.nodes.time) l.nodes)
    ∙ refuse_no 2 2 _ (le-ltb m.edges (length T.edges.left) l.edges)
    ∙ refuse_no 2 3 _ (le-ltb m.sites (length T.sites.position) l.sites)
    ∙ refuse_no 2 4 _ (le-ltb m.mutations (length T.muts.site) l.muts)
    ∙ refuse_no 2 5 rest (le-ltb m.samples (length S) l.samples)

module _ (w : ℕ) (m : Limits) (L : ℕ) (T : Tables) (S : List ℕ) (room : ℕ) where
  -- tables of that shape and size are tested for rows that fit
  pub write_sized : Shaped T → Within m T S → write_answer w m L T S room ≡ refuse_row 35 (too_wide w T.edges.parent T.edges.child) (length T.edges.left) (refuse_row 36 (too_wide w T.muts.site T.muts.node) (length T.muts.site) (refuse_row 38 (populated T.nodes.population) (length T.nodes.time) (refuse (ltb room (length (written w m L T S))) 13 7 done)))
  unfolding write_answer
  write_sized s l = shapes_pass T _ s ∙ sizes_pass m T S _ l

  -- and refused for want of room only
  pub write_passes : Shaped T → Within m T S → Narrow w T → write_answer w m L T S room ≡ refuse (ltb room (length (written w m L T S))) 13 7 done
  write_passes s l n =
      write_sized s l
      ∙ row_no 35 (length T.edges.left) (too_wide w T.edges.parent T.edges.child) _ n.edges
      ∙ row_no 36 (length T.muts.site) (too_wide w T.muts.site T.muts.node) _ n.muts
      ∙ row_no 38 (length T.nodes.time) (populated T.nodes.population) _ n.nodes

  -- and what writing accepts is of that kind
  pub write_accepted : accepted (write_answer w m L T S room) ≡ true → Shaped T × Within m T S × Narrow w T
  unfolding write_answer shapes sizes
  write_accepted h =
      let room_left : Answer = refuse (ltb room (length (written w m L T S))) 13 7 done in
      let nodes_left : Answer = refuse_row 38 (populated T.nodes.population) (length T.nodes.time) room_left in
      let muts_left : Answer = refuse_row 36 (too_wide w T.muts.site T.muts.node) (length T.muts.site) nodes_left in
      let edges_left : Answer = refuse_row 35 (too_wide w T.edges.parent T.edges.child) (length T.edges.left) muts_left in
      let a : _ = passed _ 1 1 _ refl h in
      let b : _ = passed _ 1 2 _ refl a.1 in
      let c : _ = passed _ 1 3 _ refl b.1 in
      let d : _ = passed _ 1 4 _ refl c.1 in
      let e : _ = passed (ltb m.nodes (length T.nodes.time)) 2 1 _ refl d.1 in
      let f : _ = passed (ltb m.edges (length T.edges.left)) 2 2 _ refl e.1 in
      let g : _ = passed (ltb m.sites (length T.sites.position)) 2 3 _ refl f.1 in
      let i : _ = passed (ltb m.mutations (length T.muts.site)) 2 4 _ refl g.1 in
      let j : _ = passed (ltb m.samples (length S)) 2 5 edges_left refl i.1 in
      let k : _ = row_passed 35 (length T.edges.left) (too_wide w T.edges.parent T.edges.child) muts_left refl j.1 in
      let n : _ = row_passed 36 (length T.muts.site) (too_wide w T.muts.site T.muts.node) nodes_left refl k.1 in
      let p : _ = row_passed 38 (length T.nodes.time) (populated T.nodes.population) room_left refl n.1 in
      (record { nodes = a.0; edges = b.0; sites = c.0; muts = d.0 }, record { nodes = ltb-false _ _ e.0; edges = ltb-false _ _ f.0; sites = ltb-false _ _ g.0; muts = ltb-false _ _ i.0; samples = ltb-false _ _ j.0 }, record { edges = k.0; muts = n.0; nodes = p.0 })
