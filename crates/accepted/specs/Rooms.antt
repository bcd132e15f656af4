-- 13: what an answer 0 tells of the room, and the room that leaves only what comes after.
use Rattle.std.specs.Prelude.{◌≡◌, List, [], ◌∷◌, ℕ, ◌<◌, ◌≤◌, ltb, length}
use Rattle.std.proofs.Common.{◌∙◌, arith}
use borrow.Author.Tests.{ltb-false, le-ltb}
use Rattle.meaning.specs.Rows.{Tables}
use Rattle.meaning.specs.Answer.{Answer, Limits, done, refuse, room, lacks}
use Rattle.meaning.specs.Lent.{fit_then, block_then}
use Rattle.laws.specs.Bools.{or_no}
use Rattle.laws.specs.Facts.{All}
use Rattle.laws.specs.Facts.All.{also}
use Rattle.accepted.specs.Refusals.{Accepted, passed, pass}
use Rattle.accepted.specs.Tests.{no_or}

-- so many rows keep to the limit, and each column lent has a cell for each
pub record Room (most : ℕ) (out : List (List ℕ)) (need : ℕ) : Type 0 where
  pub few : need ≤ most
  pub roomy : All (λ c. need ≤ length c) out

room_of : (c : List ℕ) (l : List (List ℕ)) (need : ℕ) → need ≤ room (c ∷ l) → All (λ c. need ≤ length c) (c ∷ l)
unfolding room
room_of c [] need h = also h All.done
room_of c (d ∷ l) need h = let p : need ≤ length c = omega arith in also p (room_of d l need (omega arith))

of_room : (c : List ℕ) (l : List (List ℕ)) (need : ℕ) → All (λ c. need ≤ length c) (c ∷ l) → need ≤ room (c ∷ l)
unfolding room
of_room c [] need (also p h) = p
of_room c (d ∷ l) need (also p h) = let q : need ≤ room (d ∷ l) = of_room d l need h in omega arith

module _ (most : ℕ) (c : List ℕ) (l : List (List ℕ)) (need n r : ℕ) (rest : Answer) where
  pub passed_room : 0 < n → Accepted (refuse (lacks most (c ∷ l) need) n r rest) → Room most (c ∷ l) need × Accepted rest
  unfolding lacks
  passed_room z h =
      let p : _ = passed (lacks most (c ∷ l) need) n r rest z h in
      let q : _ = or_no (ltb most need) (ltb (room (c ∷ l)) need) p.0 in
      (record { few = ltb-false most need q.0; roomy = room_of c l need (ltb-false (room (c ∷ l)) need q.1) }, p.1)

  pub pass_room : Room most (c ∷ l) need → refuse (lacks most (c ∷ l) need) n r rest ≡ rest
  unfolding lacks
  pass_room h = pass (lacks most (c ∷ l) need) n r rest (no_or (le-ltb most need h.few) (le-ltb (room (c ∷ l)) need (of_room c l need h.roomy)))

-- the rows of a result find room in the tables lent
pub record Fits (m : Limits) (new out : Tables) : Type 0 where
  pub nodes : Room m.nodes (out.nodes.time ∷ out.nodes.birth ∷ out.nodes.population ∷ []) (length new.nodes.time)
  pub edges : Room m.edges (out.edges.left ∷ out.edges.right ∷ out.edges.parent ∷ out.edges.child ∷ []) (length new.edges.left)
  pub sites : Room m.sites (out.sites.position ∷ out.sites.ancestral ∷ []) (length new.sites.position)
  pub muts : Room m.mutations (out.muts.site ∷ out.muts.node ∷ out.muts.derived ∷ []) (length new.muts.site)

module _ (m : Limits) (new out : Tables) (rest : Answer) where
  pub fits_of : Accepted (fit_then m new out rest) → Fits m new out × Accepted rest
  unfolding fit_then
  fits_of h =
      let n : _ = passed_room m.nodes out.nodes.time (out.nodes.birth ∷ out.nodes.population ∷ []) (length new.nodes.time) 13 1 _ (omega arith) h in
      let e : _ = passed_room m.edges out.edges.left (out.edges.right ∷ out.edges.parent ∷ out.edges.child ∷ []) (length new.edges.left) 13 2 _ (omega arith) n.1 in
      let s : _ = passed_room m.sites out.sites.position (out.sites.ancestral ∷ []) (length new.sites.position) 13 3 _ (omega arith) e.1 in
      let u : _ = passed_room m.mutations out.muts.site (out.muts.node ∷ out.muts.derived ∷ []) (length new.muts.site) 13 4 rest (omega arith) s.1 in
      (record { nodes = n.0; edges = e.0; sites = s.0; muts = u.0 }, u.1)

  pub of_fits : Fits m new out → fit_then m new out rest ≡ rest
  unfolding fit_then
  of_fits h =
      pass_room m.nodes out.nodes.time (out.nodes.birth ∷ out.nodes.population ∷ []) (length new.nodes.time) 13 1 _ h.nodes
      ∙ pass_room m.edges out.edges.left (out.edges.right ∷ out.edges.parent ∷ out.edges.child ∷ []) (length new.edges.left) 13 2 _ h.edges
      ∙ pass_room m.sites out.sites.position (out.sites.ancestral ∷ []) (length new.sites.position) 13 3 _ h.sites
      ∙ pass_room m.mutations out.muts.site (out.muts.node ∷ out.muts.derived ∷ []) (length new.muts.site) 13 4 rest h.muts

-- a block that is not short
pub block_long : (cells : ℕ) → Accepted (block_then cells done) → 4 ≤ cells
unfolding block_then
block_long cells h = ltb-false cells 4 (passed (ltb cells 4) 13 7 done (omega arith) h).0

pub block_done : (cells : ℕ) → 4 ≤ cells → block_then cells done ≡ done
unfolding block_then
block_done cells h = pass (ltb cells 4) 13 7 done (le-ltb cells 4 h)
