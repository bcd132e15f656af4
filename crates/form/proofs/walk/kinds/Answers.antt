-- `form::walk::kinds` meets its contract: each kind that ends leads on to the next, and a refusal is the answer of the whole. Assumes nothing.
use mathlib.Core.Path.{refl, ◌∙◌}
use mathlib.Core.List.{List, [], ◌∷◌}
use Prim.Native.Nat.{ℕ, ◌≤◌}
use lib.ListN.{length}
use Rattle.std.proofs.Common.{rules}
use Rattle.meaning.specs.Answer.{stored_limits}
use Rattle.meaning.specs.Stored.{SA, ND, ED, Si, MU, kinds, size, total, after, kinds_then}
use Rattle.meaning.specs.Files.{nodes_from, edges_from, sites_from, muts_from}
use Rattle.form.specs.Posts.{KindsScanned}
use Rattle.form.specs.declared.Stretch.{Stretch}
use Rattle.form.proofs.Chaining.{Went, went, stopped, went_within, end_went, end_stopped, kinds_refused}
use Rattle.form.proofs.walk.kinds.Goals as goal

pub returns-in_err-samples : goal.returns-in_err-samples
unfolding kinds_then kinds size total KindsScanned
returns-in_err-samples c = let s : List ℕ = c.args.s.now in
    kinds_refused s c.from_residual.result c.in_err-samples.field-0.0 (search rules) (λ rest. stopped (SA stored_limits) 6 refl s 6 6 refl c.kind.result c.kind.ensures c.in_err-samples.field-0.0 c.in_err-samples.was (kinds_then (ND stored_limits ∷ ED 2 stored_limits ∷ Si stored_limits ∷ MU 2 stored_limits ∷ []) s (nodes_from stored_limits s) rest))

pub kind-requires-2 : goal.kind-requires-2
unfolding size total
kind-requires-2 c = let s : List ℕ = c.args.s.now in
    let w0 : Stretch = c.in_ok-samples.samples in
    let g0 : Went (SA stored_limits) 6 s 6 w0 = went (SA stored_limits) 6 refl s 6 6 refl c.kind.result c.kind.ensures w0 c.in_ok-samples.was in
    let h0 : w0.end ≤ length s = went_within (SA stored_limits) 6 refl s 6 6 refl c.kind.result c.kind.ensures w0 c.in_ok-samples.was c.requires in
    h0

pub returns-in_err-nodes : goal.returns-in_err-nodes
unfolding kinds_then kinds size total KindsScanned
returns-in_err-nodes c = let s : List ℕ = c.args.s.now in
    let w0 : Stretch = c.in_ok-samples.samples in
    let g0 : Went (SA stored_limits) 6 s 6 w0 = went (SA stored_limits) 6 refl s 6 6 refl c.kind.result c.kind.ensures w0 c.in_ok-samples.was in
    kinds_refused s c.from_residual-in_err-nodes.result c.in_err-nodes.field-0.0 (search rules) (λ rest. g0.on (kinds_then (ND stored_limits ∷ ED 2 stored_limits ∷ Si stored_limits ∷ MU 2 stored_limits ∷ []) s (nodes_from stored_limits s) rest) ∙ stopped (ND stored_limits) 10 refl s w0.end (nodes_from stored_limits s) g0.next c.kind-2.result c.kind-2.ensures c.in_err-nodes.field-0.0 c.in_err-nodes.was (kinds_then (ED 2 stored_limits ∷ Si stored_limits ∷ MU 2 stored_limits ∷ []) s (edges_from stored_limits s) rest))

pub kind-requires-3 : goal.kind-requires-3
unfolding size total
kind-requires-3 c = let s : List ℕ = c.args.s.now in
    let w0 : Stretch = c.in_ok-samples.samples in
    let g0 : Went (SA stored_limits) 6 s 6 w0 = went (SA stored_limits) 6 refl s 6 6 refl c.kind.result c.kind.ensures w0 c.in_ok-samples.was in
    let h0 : w0.end ≤ length s = went_within (SA stored_limits) 6 refl s 6 6 refl c.kind.result c.kind.ensures w0 c.in_ok-samples.was c.requires in
    let w1 : Stretch = c.in_ok-nodes.nodes in
    let g1 : Went (ND stored_limits) 10 s (nodes_from stored_limits s) w1 = went (ND stored_limits) 10 refl s w0.end (nodes_from stored_limits s) g0.next c.kind-2.result c.kind-2.ensures w1 c.in_ok-nodes.was in
    let h1 : w1.end ≤ length s = went_within (ND stored_limits) 10 refl s w0.end (nodes_from stored_limits s) g0.next c.kind-2.result c.kind-2.ensures w1 c.in_ok-nodes.was h0 in
    h1

pub returns-in_err-edges : goal.returns-in_err-edges
unfolding kinds_then kinds size total KindsScanned
returns-in_err-edges c = let s : List ℕ = c.args.s.now in
    let w0 : Stretch = c.in_ok-samples.samples in
    let g0 : Went (SA stored_limits) 6 s 6 w0 = went (SA stored_limits) 6 refl s 6 6 refl c.kind.result c.kind.ensures w0 c.in_ok-samples.was in
    let w1 : Stretch = c.in_ok-nodes.nodes in
    let g1 : Went (ND stored_limits) 10 s (nodes_from stored_limits s) w1 = went (ND stored_limits) 10 refl s w0.end (nodes_from stored_limits s) g0.next c.kind-2.result c.kind-2.ensures w1 c.in_ok-nodes.was in
    kinds_refused s c.from_residual-in_err-edges.result c.in_err-edges.field-0.0 (search rules) (λ rest. g0.on (kinds_then (ND stored_limits ∷ ED 2 stored_limits ∷ Si stored_limits ∷ MU 2 stored_limits ∷ []) s (nodes_from stored_limits s) rest) ∙ g1.on (kinds_then (ED 2 stored_limits ∷ Si stored_limits ∷ MU 2 stored_limits ∷ []) s (edges_from stored_limits s) rest) ∙ stopped (ED 2 stored_limits) 14 refl s w1.end (edges_from stored_limits s) g1.next c.kind-3.result c.kind-3.ensures c.in_err-edges.field-0.0 c.in_err-edges.was (kinds_then (Si stored_limits ∷ MU 2 stored_limits ∷ []) s (sites_from 2 stored_limits s) rest))

pub kind-requires-4 : goal.kind-requires-4
unfolding size total
kind-requires-4 c = let s : List ℕ = c.args.s.now in
    let w0 : Stretch = c.in_ok-samples.samples in
    let g0 : Went (SA stored_limits) 6 s 6 w0 = went (SA stored_limits) 6 refl s 6 6 refl c.kind.result c.kind.ensures w0 c.in_ok-samples.was in
    let h0 : w0.end ≤ length s = went_within (SA stored_limits) 6 refl s 6 6 refl c.kind.result c.kind.ensures w0 c.in_ok-samples.was c.requires in
    let w1 : Stretch = c.in_ok-nodes.nodes in
    let g1 : Went (ND stored_limits) 10 s (nodes_from stored_limits s) w1 = went (ND stored_limits) 10 refl s w0.end (nodes_from stored_limits s) g0.next c.kind-2.result c.kind-2.ensures w1 c.in_ok-nodes.was in
    let h1 : w1.end ≤ length s = went_within (ND stored_limits) 10 refl s w0.end (nodes_from stored_limits s) g0.next c.kind-2.result c.kind-2.ensures w1 c.in_ok-nodes.was h0 in
    let w2 : Stretch = c.in_ok-edges.edges in
    let g2 : Went (ED 2 stored_limits) 14 s (edges_from stored_limits s) w2 = went (ED 2 stored_limits) 14 refl s w1.end (edges_from stored_limits s) g1.next c.kind-3.result c.kind-3.ensures w2 c.in_ok-edges.was in
    let h2 : w2.end ≤ length s = went_within (ED 2 stored_limits) 14 refl s w1.end (edges_from stored_limits s) g1.next c.kind-3.result c.kind-3.ensures w2 c.in_ok-edges.was h1 in
    h2

pub returns-in_err-sites : goal.returns-in_err-sites
unfolding kinds_then kinds size total KindsScanned
returns-in_err-sites c = let s : List ℕ = c.args.s.now in
    let w0 : Stretch = c.in_ok-samples.samples in
    let g0 : Went (SA stored_limits) 6 s 6 w0 = went (SA stored_limits) 6 refl s 6 6 refl c.kind.result c.kind.ensures w0 c.in_ok-samples.was in
    let w1 : Stretch = c.in_ok-nodes.nodes in
    let g1 : Went (ND stored_limits) 10 s (nodes_from stored_limits s) w1 = went (ND stored_limits) 10 refl s w0.end (nodes_from stored_limits s) g0.next c.kind-2.result c.kind-2.ensures w1 c.in_ok-nodes.was in
    let w2 : Stretch = c.in_ok-edges.edges in
    let g2 : Went (ED 2 stored_limits) 14 s (edges_from stored_limits s) w2 = went (ED 2 stored_limits) 14 refl s w1.end (edges_from stored_limits s) g1.next c.kind-3.result c.kind-3.ensures w2 c.in_ok-edges.was in
    kinds_refused s c.from_residual-in_err-sites.result c.in_err-sites.field-0.0 (search rules) (λ rest. g0.on (kinds_then (ND stored_limits ∷ ED 2 stored_limits ∷ Si stored_limits ∷ MU 2 stored_limits ∷ []) s (nodes_from stored_limits s) rest) ∙ g1.on (kinds_then (ED 2 stored_limits ∷ Si stored_limits ∷ MU 2 stored_limits ∷ []) s (edges_from stored_limits s) rest) ∙ g2.on (kinds_then (Si stored_limits ∷ MU 2 stored_limits ∷ []) s (sites_from 2 stored_limits s) rest) ∙ stopped (Si stored_limits) 7 refl s w2.end (sites_from 2 stored_limits s) g2.next c.kind-4.result c.kind-4.ensures c.in_err-sites.field-0.0 c.in_err-sites.was (kinds_then (MU 2 stored_limits ∷ []) s (muts_from 2 stored_limits s) rest))

pub kind-requires-5 : goal.kind-requires-5
unfolding size total
kind-requires-5 c = let s : List ℕ = c.args.s.now in
    let w0 : Stretch = c.in_ok-samples.samples in
    let g0 : Went (SA stored_limits) 6 s 6 w0 = went (SA stored_limits) 6 refl s 6 6 refl c.kind.result c.kind.ensures w0 c.in_ok-samples.was in
    let h0 : w0.end ≤ length s = went_within (SA stored_limits) 6 refl s 6 6 refl c.kind.result c.kind.ensures w0 c.in_ok-samples.was c.requires in
    let w1 : Stretch = c.in_ok-nodes.nodes in
    let g1 : Went (ND stored_limits) 10 s (nodes_from stored_limits s) w1 = went (ND stored_limits) 10 refl s w0.end (nodes_from stored_limits s) g0.next c.kind-2.result c.kind-2.ensures w1 c.in_ok-nodes.was in
    let h1 : w1.end ≤ length s = went_within (ND stored_limits) 10 refl s w0.end (nodes_from stored_limits s) g0.next c.kind-2.result c.kind-2.ensures w1 c.in_ok-nodes.was h0 in
    let w2 : Stretch = c.in_ok-edges.edges in
    let g2 : Went (ED 2 stored_limits) 14 s (edges_from stored_limits s) w2 = went (ED 2 stored_limits) 14 refl s w1.end (edges_from stored_limits s) g1.next c.kind-3.result c.kind-3.ensures w2 c.in_ok-edges.was in
    let h2 : w2.end ≤ length s = went_within (ED 2 stored_limits) 14 refl s w1.end (edges_from stored_limits s) g1.next c.kind-3.result c.kind-3.ensures w2 c.in_ok-edges.was h1 in
    let w3 : Stretch = c.in_ok-sites.sites in
    let g3 : Went (Si stored_limits) 7 s (sites_from 2 stored_limits s) w3 = went (Si stored_limits) 7 refl s w2.end (sites_from 2 stored_limits s) g2.next c.kind-4.result c.kind-4.ensures w3 c.in_ok-sites.was in
    let h3 : w3.end ≤ length s = went_within (Si stored_limits) 7 refl s w2.end (sites_from 2 stored_limits s) g2.next c.kind-4.result c.kind-4.ensures w3 c.in_ok-sites.was h2 in
    h3

pub returns-in_err-mutations : goal.returns-in_err-mutations
unfolding kinds_then kinds size total KindsScanned
returns-in_err-mutations c = let s : List ℕ = c.args.s.now in
    let w0 : Stretch = c.in_ok-samples.samples in
    let g0 : Went (SA stored_limits) 6 s 6 w0 = went (SA stored_limits) 6 refl s 6 6 refl c.kind.result c.kind.ensures w0 c.in_ok-samples.was in
    let w1 : Stretch = c.in_ok-nodes.nodes in
    let g1 : Went (ND stored_limits) 10 s (nodes_from stored_limits s) w1 = went (ND stored_limits) 10 refl s w0.end (nodes_from stored_limits s) g0.next c.kind-2.result c.kind-2.ensures w1 c.in_ok-nodes.was in
    let w2 : Stretch = c.in_ok-edges.edges in
    let g2 : Went (ED 2 stored_limits) 14 s (edges_from stored_limits s) w2 = went (ED 2 stored_limits) 14 refl s w1.end (edges_from stored_limits s) g1.next c.kind-3.result c.kind-3.ensures w2 c.in_ok-edges.was in
    let w3 : Stretch = c.in_ok-sites.sites in
    let g3 : Went (Si stored_limits) 7 s (sites_from 2 stored_limits s) w3 = went (Si stored_limits) 7 refl s w2.end (sites_from 2 stored_limits s) g2.next c.kind-4.result c.kind-4.ensures w3 c.in_ok-sites.was in
    kinds_refused s c.from_residual-in_err-mutations.result c.in_err-mutations.field-0.0 (search rules) (λ rest. g0.on (kinds_then (ND stored_limits ∷ ED 2 stored_limits ∷ Si stored_limits ∷ MU 2 stored_limits ∷ []) s (nodes_from stored_limits s) rest) ∙ g1.on (kinds_then (ED 2 stored_limits ∷ Si stored_limits ∷ MU 2 stored_limits ∷ []) s (edges_from stored_limits s) rest) ∙ g2.on (kinds_then (Si stored_limits ∷ MU 2 stored_limits ∷ []) s (sites_from 2 stored_limits s) rest) ∙ g3.on (kinds_then (MU 2 stored_limits ∷ []) s (muts_from 2 stored_limits s) rest) ∙ stopped (MU 2 stored_limits) 7 refl s w3.end (muts_from 2 stored_limits s) g3.next c.kind-5.result c.kind-5.ensures c.in_err-mutations.field-0.0 c.in_err-mutations.was (kinds_then ([]) s (after (MU 2 stored_limits) s (muts_from 2 stored_limits s)) rest))

pub end-requires : goal.end-requires
unfolding size total
end-requires c = let s : List ℕ = c.args.s.now in
    let w0 : Stretch = c.in_ok-samples.samples in
    let g0 : Went (SA stored_limits) 6 s 6 w0 = went (SA stored_limits) 6 refl s 6 6 refl c.kind.result c.kind.ensures w0 c.in_ok-samples.was in
    let h0 : w0.end ≤ length s = went_within (SA stored_limits) 6 refl s 6 6 refl c.kind.result c.kind.ensures w0 c.in_ok-samples.was c.requires in
    let w1 : Stretch = c.in_ok-nodes.nodes in
    let g1 : Went (ND stored_limits) 10 s (nodes_from stored_limits s) w1 = went (ND stored_limits) 10 refl s w0.end (nodes_from stored_limits s) g0.next c.kind-2.result c.kind-2.ensures w1 c.in_ok-nodes.was in
    let h1 : w1.end ≤ length s = went_within (ND stored_limits) 10 refl s w0.end (nodes_from stored_limits s) g0.next c.kind-2.result c.kind-2.ensures w1 c.in_ok-nodes.was h0 in
    let w2 : Stretch = c.in_ok-edges.edges in
    let g2 : Went (ED 2 stored_limits) 14 s (edges_from stored_limits s) w2 = went (ED 2 stored_limits) 14 refl s w1.end (edges_from stored_limits s) g1.next c.kind-3.result c.kind-3.ensures w2 c.in_ok-edges.was in
    let h2 : w2.end ≤ length s = went_within (ED 2 stored_limits) 14 refl s w1.end (edges_from stored_limits s) g1.next c.kind-3.result c.kind-3.ensures w2 c.in_ok-edges.was h1 in
    let w3 : Stretch = c.in_ok-sites.sites in
    let g3 : Went (Si stored_limits) 7 s (sites_from 2 stored_limits s) w3 = went (Si stored_limits) 7 refl s w2.end (sites_from 2 stored_limits s) g2.next c.kind-4.result c.kind-4.ensures w3 c.in_ok-sites.was in
    let h3 : w3.end ≤ length s = went_within (Si stored_limits) 7 refl s w2.end (sites_from 2 stored_limits s) g2.next c.kind-4.result c.kind-4.ensures w3 c.in_ok-sites.was h2 in
    let w4 : Stretch = c.in_ok-mutations.mutations in
    let g4 : Went (MU 2 stored_limits) 7 s (muts_from 2 stored_limits s) w4 = went (MU 2 stored_limits) 7 refl s w3.end (muts_from 2 stored_limits s) g3.next c.kind-5.result c.kind-5.ensures w4 c.in_ok-mutations.was in
    let h4 : w4.end ≤ length s = went_within (MU 2 stored_limits) 7 refl s w3.end (muts_from 2 stored_limits s) g3.next c.kind-5.result c.kind-5.ensures w4 c.in_ok-mutations.was h3 in
    h4

pub returns : goal.returns
unfolding kinds_then kinds size total KindsScanned
returns c = let s : List ℕ = c.args.s.now in
    let w0 : Stretch = c.in_ok-samples.samples in
    let g0 : Went (SA stored_limits) 6 s 6 w0 = went (SA stored_limits) 6 refl s 6 6 refl c.kind.result c.kind.ensures w0 c.in_ok-samples.was in
    let w1 : Stretch = c.in_ok-nodes.nodes in
    let g1 : Went (ND stored_limits) 10 s (nodes_from stored_limits s) w1 = went (ND stored_limits) 10 refl s w0.end (nodes_from stored_limits s) g0.next c.kind-2.result c.kind-2.ensures w1 c.in_ok-nodes.was in
    let w2 : Stretch = c.in_ok-edges.edges in
    let g2 : Went (ED 2 stored_limits) 14 s (edges_from stored_limits s) w2 = went (ED 2 stored_limits) 14 refl s w1.end (edges_from stored_limits s) g1.next c.kind-3.result c.kind-3.ensures w2 c.in_ok-edges.was in
    let w3 : Stretch = c.in_ok-sites.sites in
    let g3 : Went (Si stored_limits) 7 s (sites_from 2 stored_limits s) w3 = went (Si stored_limits) 7 refl s w2.end (sites_from 2 stored_limits s) g2.next c.kind-4.result c.kind-4.ensures w3 c.in_ok-sites.was in
    let w4 : Stretch = c.in_ok-mutations.mutations in
    let g4 : Went (MU 2 stored_limits) 7 s (muts_from 2 stored_limits s) w4 = went (MU 2 stored_limits) 7 refl s w3.end (muts_from 2 stored_limits s) g3.next c.kind-5.result c.kind-5.ensures w4 c.in_ok-mutations.was in
    (record { samples = g0.stretched; nodes = g1.stretched; edges = g2.stretched; sites = g3.stretched; mutations = g4.stretched }, λ rest. g0.on (kinds_then (ND stored_limits ∷ ED 2 stored_limits ∷ Si stored_limits ∷ MU 2 stored_limits ∷ []) s (nodes_from stored_limits s) rest) ∙ g1.on (kinds_then (ED 2 stored_limits ∷ Si stored_limits ∷ MU 2 stored_limits ∷ []) s (edges_from stored_limits s) rest) ∙ g2.on (kinds_then (Si stored_limits ∷ MU 2 stored_limits ∷ []) s (sites_from 2 stored_limits s) rest) ∙ g3.on (kinds_then (MU 2 stored_limits ∷ []) s (muts_from 2 stored_limits s) rest) ∙ g4.on (kinds_then ([]) s (after (MU 2 stored_limits) s (muts_from 2 stored_limits s)) rest) ∙ end_went s w4.end (after (MU 2 stored_limits) s (muts_from 2 stored_limits s)) g4.next c.end.result c.end.ensures c.in_ok-end.field-0 c.in_ok-end.was rest)

pub returns-in_err-end : goal.returns-in_err-end
unfolding kinds_then kinds size total KindsScanned
returns-in_err-end c = let s : List ℕ = c.args.s.now in
    let w0 : Stretch = c.in_ok-samples.samples in
    let g0 : Went (SA stored_limits) 6 s 6 w0 = went (SA stored_limits) 6 refl s 6 6 refl c.kind.result c.kind.ensures w0 c.in_ok-samples.was in
    let w1 : Stretch = c.in_ok-nodes.nodes in
    let g1 : Went (ND stored_limits) 10 s (nodes_from stored_limits s) w1 = went (ND stored_limits) 10 refl s w0.end (nodes_from stored_limits s) g0.next c.kind-2.result c.kind-2.ensures w1 c.in_ok-nodes.was in
    let w2 : Stretch = c.in_ok-edges.edges in
    let g2 : Went (ED 2 stored_limits) 14 s (edges_from stored_limits s) w2 = went (ED 2 stored_limits) 14 refl s w1.end (edges_from stored_limits s) g1.next c.kind-3.result c.kind-3.ensures w2 c.in_ok-edges.was in
    let w3 : Stretch = c.in_ok-sites.sites in
    let g3 : Went (Si stored_limits) 7 s (sites_from 2 stored_limits s) w3 = went (Si stored_limits) 7 refl s w2.end (sites_from 2 stored_limits s) g2.next c.kind-4.result c.kind-4.ensures w3 c.in_ok-sites.was in
    let w4 : Stretch = c.in_ok-mutations.mutations in
    let g4 : Went (MU 2 stored_limits) 7 s (muts_from 2 stored_limits s) w4 = went (MU 2 stored_limits) 7 refl s w3.end (muts_from 2 stored_limits s) g3.next c.kind-5.result c.kind-5.ensures w4 c.in_ok-mutations.was in
    kinds_refused s c.from_residual-in_err-end.result c.in_err-end.field-0.0 (search rules) (λ rest. g0.on (kinds_then (ND stored_limits ∷ ED 2 stored_limits ∷ Si stored_limits ∷ MU 2 stored_limits ∷ []) s (nodes_from stored_limits s) rest) ∙ g1.on (kinds_then (ED 2 stored_limits ∷ Si stored_limits ∷ MU 2 stored_limits ∷ []) s (edges_from stored_limits s) rest) ∙ g2.on (kinds_then (Si stored_limits ∷ MU 2 stored_limits ∷ []) s (sites_from 2 stored_limits s) rest) ∙ g3.on (kinds_then (MU 2 stored_limits ∷ []) s (muts_from 2 stored_limits s) rest) ∙ g4.on (kinds_then ([]) s (after (MU 2 stored_limits) s (muts_from 2 stored_limits s)) rest) ∙ end_stopped s w4.end (after (MU 2 stored_limits) s (muts_from 2 stored_limits s)) g4.next c.end.result c.end.ensures c.in_err-end.field-0.0 c.in_err-end.was rest)
