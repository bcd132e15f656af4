-- A result that fits: what an answer 0 says of the room, and the answers by the rows counted.
use Rattle.std.specs.Prelude.{◌≡◌, Bool, true, false, List, ltb, length}
use Rattle.std.proofs.Math.Path.{refl, sym}
use Rattle.std.proofs.Common.{ap, ◌∙◌, arith, ltb-true, ltb-false, lt-ltb}
use Prim.Native.Nat.{ℕ, min, ◌<◌, ◌≤◌}
use Rattle.meaning.specs.Words.{or}
use Rattle.meaning.specs.Rows.{Tables}
use Rattle.meaning.specs.Answer.{Answer, done, limits, refuse, accepted, put}
use Rattle.meaning.specs.Lent.{put_all, block_then, no_rows_written}
use Rattle.meaning.specs.Clean.{clean_end, clean_fit}
use Rattle.laws.specs.Bools.{or_no, or_left}
use Rattle.accepted.specs.Refusals.{Accepted, passed}
use Rattle.accepted.specs.Endings.{clean_refused, clean_done}
use Rattle.writing.specs.declared.Needs.{Needs}
use Rattle.writing.specs.declared.Lengths.{Lengths}
use Rattle.writing.specs.Room.{needs_of, lent_by}
use Rattle.writing.specs.Block.{room_within, room_within-is}

-- the rows keep to the limits, and each column has a cell for each
pub record RoomFor (n : Needs) (l : Lengths) : Type 0 where
  pub edges_few : n.edges ≤ limits.edges
  pub time : n.nodes ≤ l.time
  pub birth : n.nodes ≤ l.birth
  pub population : n.nodes ≤ l.population
  pub left : n.edges ≤ l.left
  pub right : n.edges ≤ l.right
  pub parent : n.edges ≤ l.parent
  pub child : n.edges ≤ l.child
  pub position : n.sites ≤ l.position
  pub ancestral : n.sites ≤ l.ancestral
  pub site : n.mutations ≤ l.site
  pub node : n.mutations ≤ l.node
  pub derived : n.mutations ≤ l.derived
  pub nodemap : n.rows ≤ l.nodemap

-- one table passed: its room, and what comes after
table : (most room need t : ℕ) (rest : Answer) → Accepted (refuse (or (ltb most need) (ltb room need)) 13 t rest) → ((need ≤ most) × (need ≤ room)) × Accepted rest
table most room need t rest h =
    let p : _ = passed (or (ltb most need) (ltb room need)) 13 t rest (omega arith) h in
    let q : _ = or_no (ltb most need) (ltb room need) p.0 in
    ((ltb-false most need q.0, ltb-false room need q.1), p.1)

pub room_for : (n : Needs) (l : Lengths) (cells : ℕ) → room_within n l cells ≡ done → RoomFor n l
unfolding room_within accepted
room_for n l cells e =
    let h : Accepted (room_within n l cells) = ap accepted e in
    let a : _ = table limits.nodes (min l.time (min l.birth l.population)) n.nodes 1 _ h in
    let b : _ = table limits.edges (min l.left (min l.right (min l.parent l.child))) n.edges 2 _ a.1 in
    let c : _ = table limits.sites (min l.position l.ancestral) n.sites 3 _ b.1 in
    let d : _ = table limits.mutations (min l.site (min l.node l.derived)) n.mutations 4 _ c.1 in
    let f : _ = table limits.nodes l.nodemap n.rows 6 (block_then cells done) d.1 in
    record {
      edges_few = b.0.0;
      time = omega (arith, a.0.1);
      birth = omega (arith, a.0.1);
      population = omega (arith, a.0.1);
      left = omega (arith, b.0.1);
      right = omega (arith, b.0.1);
      parent = omega (arith, b.0.1);
      child = omega (arith, b.0.1);
      position = omega (arith, c.0.1);
      ancestral = omega (arith, c.0.1);
      site = omega (arith, d.0.1);
      node = omega (arith, d.0.1);
      derived = omega (arith, d.0.1);
      nodemap = f.0.1;
    }

-- the rows that a cleaning has counted are those of its result; of the edges, where they keep to their limit, and else these pass it
pub record Counted (new : Tables) (new_map : List ℕ) (n : Needs) : Type 0 where
  pub nodes : length new.nodes.time ≡ n.nodes
  pub edges : n.edges ≤ limits.edges → length new.edges.left ≡ n.edges
  pub over : limits.edges < n.edges → limits.edges < length new.edges.left
  pub sites : length new.sites.position ≡ n.sites
  pub mutations : length new.muts.site ≡ n.mutations
  pub rows : length new_map ≡ n.rows

module _ (new : Tables) (new_map : List ℕ) (n : Needs) (h : Counted new new_map n) where
  -- whether the edges pass limit or room, by the result and by the count
  edges_lack : (room : ℕ) → or (ltb limits.edges (length new.edges.left)) (ltb room (length new.edges.left)) ≡ or (ltb limits.edges n.edges) (ltb room n.edges)
  edges_lack room = go (ltb limits.edges n.edges) refl
    where
      go : (t : Bool) → ltb limits.edges n.edges ≡ t → or (ltb limits.edges (length new.edges.left)) (ltb room (length new.edges.left)) ≡ or (ltb limits.edges n.edges) (ltb room n.edges)
      go true e = or_left (ltb room (length new.edges.left)) (lt-ltb limits.edges (length new.edges.left) (h.over (ltb-true limits.edges n.edges e))) ∙ sym (or_left (ltb room n.edges) e)
      go false e = ap (λ z. or (ltb limits.edges z) (ltb room z)) (h.edges (ltb-false limits.edges n.edges e))

  -- the answer after the check, by the counts
  fit_answer : (out : Tables) (out_map : List ℕ) (cells : ℕ) → clean_fit limits new new_map out out_map cells ≡ room_within n (lent_by out out_map) cells
  unfolding clean_fit room_within
  fit_answer out out_map cells = room_within-is new new_map out out_map cells ∙ same
    where
      l : Lengths
      l = lent_by out out_map

      same : room_within (needs_of new new_map) l cells ≡ room_within n l cells
      same = λ i.
          refuse (or (ltb limits.nodes (h.nodes i)) (ltb (min l.time (min l.birth l.population)) (h.nodes i))) 13 1
          (refuse (edges_lack (min l.left (min l.right (min l.parent l.child))) i) 13 2
          (refuse (or (ltb limits.sites (h.sites i)) (ltb (min l.position l.ancestral) (h.sites i))) 13 3
          (refuse (or (ltb limits.mutations (h.mutations i)) (ltb (min l.site (min l.node l.derived)) (h.mutations i))) 13 4
          (refuse (or (ltb limits.nodes (h.rows i)) (ltb l.nodemap (h.rows i))) 13 6 (block_then cells done)))))

  module _ (out : Tables) (out_map : List ℕ) (cells : ℕ) where
    -- a table without room: nothing is written
    pub stored_refused : (a : Answer) → accepted a ≡ false → a ≡ room_within n (lent_by out out_map) cells → record { answer = a; counts = no_rows_written; cells = out; map = out_map } ≡ clean_end (clean_fit limits new new_map out out_map cells) new new_map out out_map
    stored_refused a z e = sym (ap (λ (b : Answer). clean_end b new new_map out out_map) (fit_answer out out_map cells ∙ sym e) ∙ clean_refused a z new new_map out out_map)

    -- all fits: the result stands at the front
    pub stored_done : room_within n (lent_by out out_map) cells ≡ done → (out' : Tables) (out_map' : List ℕ) → out' ≡ put_all new out → out_map' ≡ put new_map out_map → record { answer = done; counts = record { nodes = n.nodes; edges = n.edges; sites = n.sites; mutations = n.mutations }; cells = out'; map = out_map' } ≡ clean_end (clean_fit limits new new_map out out_map cells) new new_map out out_map
    stored_done e out' out_map' w v =
        let l : n.edges ≤ limits.edges = (room_for n (lent_by out out_map) cells e).edges_few in
        sym (
        ap (λ (a : Answer). clean_end a new new_map out out_map) (fit_answer out out_map cells ∙ e)
        ∙ clean_done new new_map out out_map
        ∙ (λ i. record {
          answer = done;
          counts = record { nodes = h.nodes i; edges = h.edges l i; sites = h.sites i; mutations = h.mutations i };
          cells = sym w i;
          map = sym v i;
        })
        )
