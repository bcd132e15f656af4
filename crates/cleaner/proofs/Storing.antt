-- What the functions that write tables ask, from what the stages before them leave, and what they leave together.
use mathlib.Core.Bool.{false}
use mathlib.Core.Path.{◌≡◌, sym, ap, ◌∙◌}
use mathlib.Core.List.{List, map}
use Prim.Native.Nat.{ℕ, ◌≤◌}
use native.Mathlib.Omega.{arith}
use lib.ListN.{length, take}
use Rattle.meaning.specs.Words.{at}
use Rattle.meaning.specs.Rows.{EdgeColumns, SiteColumns, MutationColumns, Tables}
use Rattle.meaning.specs.Forest.{stands}
use Rattle.meaning.specs.Answer.{Answer, done, accepted, limits, put}
use Rattle.meaning.specs.Lent.{put_all, no_rows_written}
use Rattle.meaning.specs.Clean.{cleaned, node_map}
use Rattle.bridge.specs.Columns.{Apart}
use Rattle.order.specs.Order.{Inside}
use Rattle.order.specs.Ranks.{Ranked}
use Rattle.keys.specs.Keys.{InTurns}
use Rattle.byrows.specs.Rows.{sample_rows}
use Rattle.byrows.specs.Ground.{once}
use Rattle.writing.specs.declared.Needs.{Needs}
use Rattle.writing.specs.declared.Lengths.{Lengths}
use Rattle.writing.specs.Room.{lent_by}
use Rattle.writing.specs.Block.{room_within}
use Rattle.cleaner.specs.Sweeping.{Sweepable}
use Rattle.cleaner.specs.Work.{Work, input_in, Ready}
use Rattle.cleaner.specs.Outcome.{after_check}
use Rattle.cleaner.specs.Fitting.{RoomFor, room_for, stored_refused, stored_done}
use Rattle.cleaner.specs.Finishing.{Fillable, Filled}
use Rattle.cleaner.specs.Lists.{RoomForLists, ListsWritten}
use Rattle.cleaner.specs.Results.{counted, kept_inside, times_is, births_is, populations_is, places_is, sites_is, parents_rows, children_rows, turns, listed_rows}

-- rows of a table are rows of a longer one
pub inside_more : {n m : ℕ} {l : List ℕ} → n ≤ m → Inside n l → Inside m l
inside_more h s = record { row = λ i k. omega (arith, s.row i k) }

module _ {L : ℕ} {T : Tables} {S : List ℕ} {W : Work} (r : Ready L T S W) where
  abbrev k : ℕ
  k = W.store.count

  abbrev m : ℕ
  m = W.moves.count

  edges_fit : length T.edges.left ≤ limits.edges
  edges_fit = r.footing.sound.size.edges

  nodes_fit : length T.nodes.time ≤ limits.nodes
  nodes_fit = r.footing.sound.size.nodes

  -- what filling the lists asks
  pub fill_ready : {E : EdgeColumns} {M : MutationColumns} → RoomForLists k m E M → Sweepable L (input_in T W) × (length T.nodes.time ≤ length W.sample) × (length T.edges.left ≤ length W.by_left) × (length T.edges.left ≤ length W.by_right) × Fillable (length T.nodes.time) k m W.store.stood E M.site M.node
  fill_ready room = (
    r.sweepable,
    omega (arith, r.long.sample, nodes_fit),
    omega (arith, r.long.lefts, edges_fit),
    omega (arith, r.long.rights, edges_fit),
    record {
      stood_long = omega (arith, r.long.stood, nodes_fit);
      left_room = room.left;
      right_room = room.right;
      parent_room = room.parent;
      child_room = room.child;
      rows_room = room.site;
      lows_room = room.node;
    },
  )

  module _ {E E₂ : EdgeColumns} {M : MutationColumns} {R₂ X₂ : List ℕ} (room : RoomForLists k m E M) (f : Filled L (input_in T W) (sample_rows T.nodes.birth S) k m E E₂ M.site R₂ M.node X₂) where
    pub parent_room : k ≤ length E₂.parent
    parent_room = omega (arith, room.parent, f.parent_front.long)

    pub child_room : k ≤ length E₂.child
    child_room = omega (arith, room.child, f.child_front.long)

    pub rows_room : m ≤ length R₂
    rows_room = omega (arith, room.site, f.rows_front.long)

    pub lows_room : m ≤ length X₂
    lows_room = omega (arith, room.node, f.lows_front.long)

    pub left_room : k ≤ length E₂.left
    left_room = omega (arith, room.left, f.left_front.long)

    pub right_room : k ≤ length E₂.right
    right_room = omega (arith, room.right, f.right_front.long)

    -- the lists are in turns, as the key order asks
    pub in_turns : InTurns E₂.left E₂.child k
    in_turns = turns L T S W r room.edges_few E E₂ M.site R₂ M.node X₂ f parent_room child_room

    -- what putting the edges in key order asks
    pub order_ready : {by : List ℕ} (order spare : List ℕ) → Ranked T.nodes.birth by → length order ≡ limits.edges → length spare ≡ limits.edges → (length T.nodes.time ≤ 1024) × Ranked T.nodes.birth by × Apart T.nodes.birth × (k ≤ length E₂.parent) × (k ≤ length E₂.child) × (k ≤ length order) × (k ≤ length spare) × (k ≤ 4294967295) × Inside (length T.nodes.time) (take k E₂.parent) × Inside (length T.nodes.time) (take k E₂.child)
    order_ready order spare a b c = (
      nodes_fit,
      a,
      once limits L T S r.footing,
      parent_room,
      child_room,
      omega (arith, room.edges_few),
      omega (arith, room.edges_few),
      omega (arith, room.edges_few),
      parents_rows L T S W r room.edges_few E E₂ M.site R₂ M.node X₂ f parent_room child_room,
      children_rows L T S W r room.edges_few E E₂ M.site R₂ M.node X₂ f parent_room child_room,
    )

    -- a column as long as the edges' limit has room for their order
    pub order_room : (order : List ℕ) → length order ≡ limits.edges → k ≤ length order
    order_room order e = omega (arith, room.edges_few)

    -- what giving the mutations their sites, places and states asks
    pub mutations_ready : (m ≤ length R₂) × (m ≤ length X₂) × (m ≤ length M.derived) × Inside (length T.muts.derived) (take m R₂)
    mutations_ready = (rows_room, lows_room, room.derived, listed_rows L T S W r room.edges_few E E₂ M.site R₂ M.node X₂ f rows_room)

  -- ---- all tables

  pub nodes_ready : {n : Needs} {l : Lengths} → n.nodes ≡ W.nodes → RoomFor n l → (W.nodes ≤ length W.kept) × (W.nodes ≤ l.time) × (W.nodes ≤ l.birth) × (W.nodes ≤ l.population) × Inside (length T.nodes.time) (take W.nodes W.kept) × (length T.nodes.population ≡ length T.nodes.time)
  nodes_ready e room = (r.kept_long, omega (arith, room.time), omega (arith, room.birth), omega (arith, room.population), kept_inside L T S W r, r.footing.sound.shape.populations)

  pub map_room : length T.nodes.time ≤ length W.places
  map_room = omega (arith, r.long.places, nodes_fit)

  map_written : (old new : List ℕ) → new ≡ put (take (length T.nodes.time) W.places) old → new ≡ put (node_map stands L T S) old
  map_written old new e = e ∙ ap (λ z. put z old) (sym (places_is L T S W r))

  -- the result stands at the fronts of the columns
  all_written : (out out' : Tables) → out'.nodes.time ≡ put (map (at T.nodes.time) (take W.nodes W.kept)) out.nodes.time → out'.nodes.birth ≡ put (map (at T.nodes.birth) (take W.nodes W.kept)) out.nodes.birth → out'.nodes.population ≡ put (map (at T.nodes.population) (take W.nodes W.kept)) out.nodes.population → out'.sites.position ≡ put T.sites.position out.sites.position → out'.sites.ancestral ≡ put T.sites.ancestral out.sites.ancestral → ListsWritten (cleaned stands L T S) out.edges out'.edges out.muts out'.muts → out' ≡ put_all (cleaned stands L T S) out
  unfolding put_all
  all_written out out' a b p c d l = λ i. record {
    nodes = record {
      time = (a ∙ ap (λ z. put z out.nodes.time) (sym (times_is L T S W r))) i;
      birth = (b ∙ ap (λ z. put z out.nodes.birth) (sym (births_is L T S W r))) i;
      population = (p ∙ ap (λ z. put z out.nodes.population) (sym (populations_is L T S W r))) i;
    };
    edges = record { left = l.lefts i; right = l.rights i; parent = l.parents i; child = l.children i };
    sites = record {
      position = (c ∙ ap (λ (z : SiteColumns). put z.position out.sites.position) (sym (sites_is L T S W r))) i;
      ancestral = (d ∙ ap (λ (z : SiteColumns). put z.ancestral out.sites.ancestral) (sym (sites_is L T S W r))) i;
    };
    muts = record { site = l.sites i; node = l.nodes i; derived = l.states i };
  }

module _ {L : ℕ} {T : Tables} {S : List ℕ} {W : Work} (r : Ready L T S W) (out : Tables) (out_map : List ℕ) (cells : ℕ) where
  abbrev counts : Needs
  counts = record { nodes = W.nodes; edges = W.store.count; sites = length T.sites.position; mutations = W.moves.count; rows = length T.nodes.time }

  -- a table without room: nothing is written
  pub refused_after : (a : Answer) → accepted a ≡ false → a ≡ room_within counts (lent_by out out_map) cells → record { answer = a; counts = no_rows_written; cells = out; map = out_map } ≡ after_check L T S out out_map cells
  unfolding after_check
  refused_after a z e = stored_refused (cleaned stands L T S) (node_map stands L T S) counts (counted L T S W r) out out_map cells a z e

  -- all fits, and each table is written
  pub done_after : room_within counts (lent_by out out_map) cells ≡ done → (out' : Tables) (out_map' : List ℕ) → out'.nodes.time ≡ put (map (at T.nodes.time) (take W.nodes W.kept)) out.nodes.time → out'.nodes.birth ≡ put (map (at T.nodes.birth) (take W.nodes W.kept)) out.nodes.birth → out'.nodes.population ≡ put (map (at T.nodes.population) (take W.nodes W.kept)) out.nodes.population → out'.sites.position ≡ put T.sites.position out.sites.position → out'.sites.ancestral ≡ put T.sites.ancestral out.sites.ancestral → ListsWritten (cleaned stands L T S) out.edges out'.edges out.muts out'.muts → out_map' ≡ put (take (length T.nodes.time) W.places) out_map → record { answer = done; counts = record { nodes = W.nodes; edges = W.store.count; sites = length T.sites.position; mutations = W.moves.count }; cells = out'; map = out_map' } ≡ after_check L T S out out_map cells
  unfolding after_check
  done_after e out' out_map' a b p c d l v = stored_done (cleaned stands L T S) (node_map stands L T S) counts (counted L T S W r) out out_map cells e out' out_map' (all_written r out out' a b p c d l) (map_written r out_map out_map' v)

-- a room test that finds nothing lacking leaves room for all
pub room_left : (n : Needs) (l : Lengths) (cells : ℕ) → done ≡ room_within n l cells → RoomFor n l
room_left n l cells e = room_for n l cells (sym e)

-- the room for tables 2 and 4 is part of the room for all
pub lists_room : {n : Needs} {l : Lengths} {E : EdgeColumns} {M : MutationColumns} → RoomFor n l → l.left ≡ length E.left → l.right ≡ length E.right → l.parent ≡ length E.parent → l.child ≡ length E.child → l.site ≡ length M.site → l.node ≡ length M.node → l.derived ≡ length M.derived → RoomForLists n.edges n.mutations E M
lists_room r a b c d e f g = record { edges_few = r.edges_few; left = omega (arith, r.left); right = omega (arith, r.right); parent = omega (arith, r.parent); child = omega (arith, r.child); site = omega (arith, r.site); node = omega (arith, r.node); derived = omega (arith, r.derived) }

-- edges written to columns that hold what is told of others are told of them
pub lists_same : {new : Tables} {E E' : EdgeColumns} {M M' : MutationColumns} → ListsWritten new E E' M M' → {left right parent child : List ℕ} → left ≡ E'.left → right ≡ E'.right → parent ≡ E'.parent → child ≡ E'.child → ListsWritten new E (record { left = left; right = right; parent = parent; child = child }) M M'
lists_same w a b c d = record { lefts = a ∙ w.lefts; rights = b ∙ w.rights; parents = c ∙ w.parents; children = d ∙ w.children; sites = w.sites; nodes = w.nodes; states = w.states }
