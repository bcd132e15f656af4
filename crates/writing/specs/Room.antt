-- 13 by numbers alone: the rows of a result, and the lengths of the columns lent for it.
use Rattle.std.specs.Prelude.{◌≡◌, refl, List, [], ◌∷◌, ℕ, zero, suc, min, ltb, length}
use Rattle.meaning.specs.Words.{or}
use Rattle.meaning.specs.Rows.{Tables}
use Rattle.meaning.specs.Answer.{Answer, answer, done, limits, refuse, room, lacks}
use Rattle.meaning.specs.Lent.{fit_then}
use Rattle.writing.specs.declared.Needs.{Needs}
use Rattle.writing.specs.declared.Lengths.{Lengths}

-- 13 with the lowest table that passes its limit or its room
unfoldable pub room_answer : Needs → Lengths → Answer
unfolding refuse
room_answer n l =
    refuse (or (ltb limits.nodes n.nodes) (ltb (min l.time (min l.birth l.population)) n.nodes)) 13 1
    (refuse (or (ltb limits.edges n.edges) (ltb (min l.left (min l.right (min l.parent l.child))) n.edges)) 13 2
    (refuse (or (ltb limits.sites n.sites) (ltb (min l.position l.ancestral) n.sites)) 13 3
    (refuse (or (ltb limits.mutations n.mutations) (ltb (min l.site (min l.node l.derived)) n.mutations)) 13 4
    (refuse (or (ltb limits.nodes n.rows) (ltb l.nodemap n.rows)) 13 6 done))))

-- the rows of a result
abbrev pub needs_of : Tables → List ℕ → Needs
needs_of new new_map = record { nodes = length new.nodes.time; edges = length new.edges.left; sites = length new.sites.position; mutations = length new.muts.site; rows = length new_map }

abbrev pub lent_by : Tables → List ℕ → Lengths
lent_by out out_map = record {
  time = length out.nodes.time;
  birth = length out.nodes.birth;
  population = length out.nodes.population;
  left = length out.edges.left;
  right = length out.edges.right;
  parent = length out.edges.parent;
  child = length out.edges.child;
  position = length out.sites.position;
  ancestral = length out.sites.ancestral;
  site = length out.muts.site;
  node = length out.muts.node;
  derived = length out.muts.derived;
  nodemap = length out_map;
}

-- so the answer of a call after its check
pub room_answer-is : (new : Tables) (new_map : List ℕ) (out : Tables) (out_map : List ℕ) → fit_then limits new out (refuse (lacks limits.nodes (out_map ∷ []) (length new_map)) 13 6 done) ≡ room_answer (needs_of new new_map) (lent_by out out_map)
unfolding fit_then lacks room room_answer
room_answer-is new new_map out out_map = refl
