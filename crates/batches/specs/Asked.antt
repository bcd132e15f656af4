-- What the search for rule 26 asks of base and batch: what 1 to 5, 8 and 20 to 25 find.
use Rattle.std.specs.Prelude.{◌≡◌, true, false, List, [], ℕ, ◌+◌, ◌<◌, ◌≤◌, length}
use Rattle.std.proofs.Common.{arith}
use Rattle.meaning.specs.Words.{at, mem}
use Rattle.meaning.specs.Rows.{EdgeColumns, Tables, age_table}
use Rattle.meaning.specs.Answer.{limits}
use Rattle.meaning.specs.Check.{edge_shared}
use Rattle.meaning.specs.Join.{BatchTables}
use Rattle.bridge.specs.Columns.{Apart}
use Rattle.meaning.specs.Even.{EvenEdges, EvenMutations}
use Rattle.ancestry.specs.Column.{Rising}
use Rattle.ancestry.specs.Index.{Whole}
use Rattle.overtaking.specs.Overtaken.{Rightwards}
use Rattle.batches.specs.Joint.{Joint}

-- base and batch with the columns that rule 26 reads
abbrev pub read_base : List ℕ → List ℕ → EdgeColumns → List ℕ → Tables
read_base time birth E position = record { nodes = age_table time birth; edges = E; sites = record { position = position; ancestral = [] }; muts = record { site = []; node = []; derived = [] } }

abbrev pub read_batch : List ℕ → List ℕ → EdgeColumns → List ℕ → List ℕ → BatchTables
read_batch time birth E site node = record { nodes = age_table time birth; edges = E; muts = record { site = site; node = node; derived = [] } }

pub record Above (len : ℕ) (basetime basebirth : List ℕ) (D : EdgeColumns) (position time birth : List ℕ) (E : EdgeColumns) (site node : List ℕ) : Type 0 where
  pub joint : Joint len (read_base basetime basebirth D position) (read_batch time birth E site node)
  pub edges : length D.left + length E.left ≤ limits.edges
  pub sites : length position ≤ limits.sites
  pub mutations : length site ≤ limits.mutations
  pub apart : (i : ℕ) → i < length E.left → edge_shared E i ≡ false
  pub rightwards : Rightwards position
  pub node_long : length node ≡ length site
  pub site_row : (i : ℕ) → i < length site → at site i < length position
  pub node_in : (i : ℕ) → i < length site → mem (at node i) birth ≡ true

-- what it asks by rows: those of rule 10, but the mutations are in any order of their sites
pub record Unlined (len : ℕ) (time : List ℕ) (E : EdgeColumns) (position site node : List ℕ) : Type 0 where
  pub few : length time ≤ limits.nodes
  pub edges : length E.left ≤ limits.edges
  pub sites : length position ≤ limits.sites
  pub mutations : length site ≤ limits.mutations
  pub rising : Rising time E
  pub whole : Whole E len
  pub apart : (i : ℕ) → i < length E.left → edge_shared E i ≡ false
  pub rightwards : Rightwards position
  pub node_long : length node ≡ length site
  pub site_row : (i : ℕ) → i < length site → at site i < length position
  pub node_row : (i : ℕ) → i < length site → at node i < length time

-- what 20 finds of the columns that 22 to 26 look at, the batch's populations not among them
pub record BatchEven (B : BatchTables) : Type 0 where
  pub births : length B.nodes.birth ≡ length B.nodes.time
  pub edges : EvenEdges B.edges
  pub mutated : EvenMutations B.muts

-- what 22 to 26 ask of a base that 1 to 10 have passed and a batch that 20 and 21 have
pub record BatchAsked (T : Tables) (B : BatchTables) : Type 0 where
  pub base_long : length T.nodes.birth ≡ length T.nodes.time
  pub base_once : Apart T.nodes.birth
  pub rising : Rising T.nodes.time T.edges
  pub shaped : BatchEven B
  pub few : length T.nodes.time + length B.nodes.time ≤ limits.nodes
  pub edges : length T.edges.left + length B.edges.left ≤ limits.edges
  pub sites : length T.sites.position ≤ limits.sites
  pub rightwards : Rightwards T.sites.position
  pub mutations : length B.muts.site ≤ limits.mutations

-- so their births together are no more than there may be
pub batch_asked_few : {T : Tables} {B : BatchTables} → BatchAsked T B → length T.nodes.birth + length B.nodes.birth ≤ limits.nodes
batch_asked_few k = omega (arith, k.few, k.base_long, k.shaped.births)
