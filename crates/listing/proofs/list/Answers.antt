-- `listing::list` meets its contract: the pieces of the listing, one after the other, for which the room suffices. Assumes nothing.
use Rattle.std.proofs.Common.{rules}
use mathlib.Core.Path.{sym, ap, ◌∙◌}
use mathlib.Core.List.{List, [], ◌∷◌, ◌++◌}
use Prim.Native.Nat.{ℕ, ◌+◌, ◌<◌, ◌≤◌}
use lib.ListN.{length}
use Rattle.meaning.specs.Rows.{Tables}
use Rattle.meaning.specs.Columns.{lent_in}
use Rattle.meaning.specs.Printed.{numbers, lines, node_line, edge_line, site_line, mutation_line, map_line}
use Rattle.listing.specs.Written.{room, Below, Narrow}
use Rattle.listing.proofs.Bounds.{from_nodes, from_edges, from_sites, from_mutations, listed_pieces, listed_most}
use Rattle.listing.proofs.Writing.{wrote_then, wrote_as, wrote_front, printed_on, room_first, room_then}
use native.Mathlib.Omega.{arith}
use Rattle.listing.proofs.list.Goals as goal

-- the room is enough for the whole listing
room_whole : (len : ℕ) (T : Tables) (map : List ℕ) (out : ℕ) → len < 4294967296 → Narrow T → Below 4294967296 map → length T.nodes.time < 18446744073709551616 → length map < 18446744073709551616 → room (length T.nodes.time) (length T.edges.left) (length T.sites.position) (length T.muts.site) (length map) ≤ out → 0 + length (numbers 81 (len ∷ []) ++ from_nodes T map) ≤ out
room_whole len T map out h n m a b l = omega (arith, ap length (listed_pieces len T map), listed_most len T map h n m a b, l)

pub line-requires : goal.line-requires
line-requires c = let T : Tables = lent_in c.args.lent in
    let map : List ℕ = c.args.map.now in
    let w : 0 + length (numbers 81 (c.args.len ∷ []) ++ from_nodes T map) ≤ length c.args.out.now = room_whole c.args.len T map (length c.args.out.now) (omega (arith, c.ranges.len)) c.narrow.ensures (λ i. omega (arith, c.type_inv.map i)) (omega arith) (omega arith) c.requires in
    room_first 0 (numbers 81 (c.args.len ∷ [])) (from_nodes T map) c.args.out.now w

pub nodes-requires : goal.nodes-requires
nodes-requires c = let T : Tables = lent_in c.args.lent in
    let map : List ℕ = c.args.map.now in
    let w : 0 + length (numbers 81 (c.args.len ∷ []) ++ from_nodes T map) ≤ length c.args.out.now = room_whole c.args.len T map (length c.args.out.now) (omega (arith, c.ranges.len)) c.narrow.ensures (λ i. omega (arith, c.type_inv.map i)) (omega arith) (omega arith) c.requires in
    let a : c.line.new.self.len + length (from_nodes T map) ≤ length c.line.new.self.out.now = room_then (from_nodes T map) c.line.ensures.wrote w in
    room_first c.line.new.self.len (lines (node_line T.nodes) (length T.nodes.time)) (from_edges T map) c.line.new.self.out.now a

pub edges-requires : goal.edges-requires
edges-requires c = let T : Tables = lent_in c.args.lent in
    let map : List ℕ = c.args.map.now in
    let w : 0 + length (numbers 81 (c.args.len ∷ []) ++ from_nodes T map) ≤ length c.args.out.now = room_whole c.args.len T map (length c.args.out.now) (omega (arith, c.ranges.len)) c.narrow.ensures (λ i. omega (arith, c.type_inv.map i)) (omega arith) (omega arith) c.requires in
    let a : c.line.new.self.len + length (from_nodes T map) ≤ length c.line.new.self.out.now = room_then (from_nodes T map) c.line.ensures.wrote w in
    let b : c.nodes.new.page.len + length (from_edges T map) ≤ length c.nodes.new.page.out.now = room_then (from_edges T map) c.nodes.ensures.wrote a in
    room_first c.nodes.new.page.len (lines (edge_line T.edges) (length T.edges.left)) (from_sites T map) c.nodes.new.page.out.now b

pub sites-requires : goal.sites-requires
sites-requires c = let T : Tables = lent_in c.args.lent in
    let map : List ℕ = c.args.map.now in
    let w : 0 + length (numbers 81 (c.args.len ∷ []) ++ from_nodes T map) ≤ length c.args.out.now = room_whole c.args.len T map (length c.args.out.now) (omega (arith, c.ranges.len)) c.narrow.ensures (λ i. omega (arith, c.type_inv.map i)) (omega arith) (omega arith) c.requires in
    let a : c.line.new.self.len + length (from_nodes T map) ≤ length c.line.new.self.out.now = room_then (from_nodes T map) c.line.ensures.wrote w in
    let b : c.nodes.new.page.len + length (from_edges T map) ≤ length c.nodes.new.page.out.now = room_then (from_edges T map) c.nodes.ensures.wrote a in
    let d : c.edges.new.page.len + length (from_sites T map) ≤ length c.edges.new.page.out.now = room_then (from_sites T map) c.edges.ensures.wrote b in
    room_first c.edges.new.page.len (lines (site_line T.sites) (length T.sites.position)) (from_mutations T map) c.edges.new.page.out.now d

pub mutations-requires : goal.mutations-requires
mutations-requires c = let T : Tables = lent_in c.args.lent in
    let map : List ℕ = c.args.map.now in
    let w : 0 + length (numbers 81 (c.args.len ∷ []) ++ from_nodes T map) ≤ length c.args.out.now = room_whole c.args.len T map (length c.args.out.now) (omega (arith, c.ranges.len)) c.narrow.ensures (λ i. omega (arith, c.type_inv.map i)) (omega arith) (omega arith) c.requires in
    let a : c.line.new.self.len + length (from_nodes T map) ≤ length c.line.new.self.out.now = room_then (from_nodes T map) c.line.ensures.wrote w in
    let b : c.nodes.new.page.len + length (from_edges T map) ≤ length c.nodes.new.page.out.now = room_then (from_edges T map) c.nodes.ensures.wrote a in
    let d : c.edges.new.page.len + length (from_sites T map) ≤ length c.edges.new.page.out.now = room_then (from_sites T map) c.edges.ensures.wrote b in
    let e : c.sites.new.page.len + length (from_mutations T map) ≤ length c.sites.new.page.out.now = room_then (from_mutations T map) c.sites.ensures.wrote d in
    room_first c.sites.new.page.len (lines (mutation_line T.muts) (length T.muts.site)) (lines (map_line map) (length map)) c.sites.new.page.out.now e

pub mapping-requires : goal.mapping-requires
mapping-requires c = let T : Tables = lent_in c.args.lent in
    let map : List ℕ = c.args.map.now in
    let w : 0 + length (numbers 81 (c.args.len ∷ []) ++ from_nodes T map) ≤ length c.args.out.now = room_whole c.args.len T map (length c.args.out.now) (omega (arith, c.ranges.len)) c.narrow.ensures (λ i. omega (arith, c.type_inv.map i)) (omega arith) (omega arith) c.requires in
    let a : c.line.new.self.len + length (from_nodes T map) ≤ length c.line.new.self.out.now = room_then (from_nodes T map) c.line.ensures.wrote w in
    let b : c.nodes.new.page.len + length (from_edges T map) ≤ length c.nodes.new.page.out.now = room_then (from_edges T map) c.nodes.ensures.wrote a in
    let d : c.edges.new.page.len + length (from_sites T map) ≤ length c.edges.new.page.out.now = room_then (from_sites T map) c.edges.ensures.wrote b in
    let e : c.sites.new.page.len + length (from_mutations T map) ≤ length c.sites.new.page.out.now = room_then (from_mutations T map) c.sites.ensures.wrote d in
    room_then (lines (map_line map) (length map)) c.mutations.ensures.wrote e

pub returns : goal.returns
returns c = let n : _ = sym (c.mapping.ensures.same ∙ c.mutations.ensures.same ∙ c.sites.ensures.same ∙ c.edges.ensures.same ∙ c.nodes.ensures.same ∙ c.line.ensures.same) in printed_on (wrote_front (wrote_as (sym (listed_pieces c.args.len (lent_in c.args.lent) c.args.map.now)) (wrote_then c.line.ensures.wrote (wrote_then c.nodes.ensures.wrote (wrote_then c.edges.ensures.wrote (wrote_then c.sites.ensures.wrote (wrote_then c.mutations.ensures.wrote c.mapping.ensures.wrote))))))) (search rules)
