-- What the check finds of tables that it does not refuse, rule by rule.
use Rattle.std.specs.Prelude.{◌≡◌, false, List, ℕ, ◌<◌, ◌≤◌, length}
use Rattle.meaning.specs.Words.{at}
use Rattle.meaning.specs.Rows.{NodeColumns, EdgeColumns, Tables, edges_of}
use Rattle.meaning.specs.Answer.{Limits}
use Rattle.meaning.specs.Check.{repeated, edge_broken, edge_unordered, edge_shared, site_broken, mutation_broken, mutation_above, sample_unknown, length_broken}
use Rattle.meaning.specs.Answer.{Checked}
use Rattle.std.specs.Prelude.{Ok}
use Rattle.order.specs.Ranks.{Ranked}
use Rattle.meaning.specs.Even.{EvenEdges}
use Rattle.rules.specs.ByChild.{ByChild}

-- 1: the columns of each table are equally long; no later rule looks at the populations
pub record Shaped (T : Tables) : Type 0 where
  pub birth_long : length T.nodes.birth ≡ length T.nodes.time
  pub edges : EvenEdges T.edges
  pub ancestral_long : length T.sites.ancestral ≡ length T.sites.position
  pub node_long : length T.muts.node ≡ length T.muts.site
  pub derived_long : length T.muts.derived ≡ length T.muts.site

-- 2: no table has too many rows
pub record Sized (m : Limits) (T : Tables) : Type 0 where
  pub nodes : length T.nodes.time ≤ m.nodes
  pub edges : length T.edges.left ≤ m.edges
  pub sites : length T.sites.position ≤ m.sites
  pub mutations : length T.muts.site ≤ m.mutations

-- 4 to 7: no row of the nodes and edges is broken
pub record TreeSound (L : ℕ) (N : NodeColumns) (E : EdgeColumns) : Type 0 where
  pub once : (i : ℕ) → i < length N.birth → repeated N.birth i ≡ false
  pub whole : (i : ℕ) → i < length E.left → edge_broken L N.time E i ≡ false
  pub ordered : (i : ℕ) → i < length E.left → edge_unordered N E i ≡ false
  pub apart : (i : ℕ) → i < length E.left → edge_shared E i ≡ false

-- 8 to 10: no row of the sites and mutations is broken
pub record SitesSound (L : ℕ) (T : Tables) : Type 0 where
  pub placed : (i : ℕ) → i < length T.sites.position → site_broken L T.sites.position i ≡ false
  pub whole : (i : ℕ) → i < length T.muts.site → mutation_broken (length T.sites.position) (length T.nodes.time) T.muts i ≡ false
  pub lowest_first : (i : ℕ) → i < length T.muts.site → mutation_above (edges_of (at T.nodes.birth) T.edges) T.sites.position (at T.nodes.birth) T.muts i ≡ false

-- 1 to 10
pub record TablesSound (m : Limits) (L : ℕ) (T : Tables) : Type 0 where
  pub shaped : Shaped T
  pub sized : Sized m T
  pub long : length_broken L ≡ false
  pub tree : TreeSound L T.nodes T.edges
  pub sites : SitesSound L T

-- 11 and 12: no sample is broken
pub record SamplesSound (birth S : List ℕ) : Type 0 where
  pub known : (i : ℕ) → i < length S → sample_unknown birth S i ≡ false
  pub once : (i : ℕ) → i < length S → repeated S i ≡ false

-- what rules 7 and 4 leave where the answer r is no refusal: the edges by child, and the nodes by birth
pub record Ordered (r : Checked) (birth : List ℕ) (E : EdgeColumns) (by_child by_birth : List ℕ) : Type 0 where
  pub order : r ≡ Ok tt → ByChild E by_child
  pub births : r ≡ Ok tt → Ranked birth by_birth
