-- 01, "A listing, whole": the bytes that the program prints for a stored file.
use Rattle.std.specs.Prelude.{true, false, List, ℕ, ◌≤◌, ltb, length, take}
use Rattle.meaning.specs.Words.{zeros}
use Rattle.meaning.specs.Rows.{Tables}
use Rattle.meaning.specs.Forest.{stands}
use Rattle.meaning.specs.Answer.{Answer, limits, stored_limits, accepted}
use Rattle.meaning.specs.Lent.{Counts}
use Rattle.meaning.specs.Clean.{Outcome, cleaning}
use Rattle.meaning.specs.Files.{Reading, reading}
use Rattle.meaning.specs.Printed.{listed, refused_line, too_long}

-- "with room for every table's limit": lent columns of zeros
unfoldable pub blank : Tables
unfolding zeros
blank = record {
  nodes = record { time = zeros stored_limits.nodes; birth = zeros stored_limits.nodes; population = zeros stored_limits.nodes };
  edges = record { left = zeros stored_limits.edges; right = zeros stored_limits.edges; parent = zeros stored_limits.edges; child = zeros stored_limits.edges };
  sites = record { position = zeros stored_limits.sites; ancestral = zeros stored_limits.sites };
  muts = record { site = zeros stored_limits.mutations; node = zeros stored_limits.mutations; derived = zeros stored_limits.mutations };
}

-- so many rows of each table
unfoldable pub front : Counts → Tables → Tables
front n T = record {
  nodes = record { time = take n.nodes T.nodes.time; birth = take n.nodes T.nodes.birth; population = take n.nodes T.nodes.population };
  edges = record { left = take n.edges T.edges.left; right = take n.edges T.edges.right; parent = take n.edges T.edges.parent; child = take n.edges T.edges.child };
  sites = record { position = take n.sites T.sites.position; ancestral = take n.sites T.sites.ancestral };
  muts = record { site = take n.mutations T.muts.site; node = take n.mutations T.muts.node; derived = take n.mutations T.muts.derived };
}

-- the tables have so many rows at least, in each column
pub record Long (n : Counts) (T : Tables) : Type 0 where
  pub time : n.nodes ≤ length T.nodes.time
  pub birth : n.nodes ≤ length T.nodes.birth
  pub population : n.nodes ≤ length T.nodes.population
  pub left : n.edges ≤ length T.edges.left
  pub right : n.edges ≤ length T.edges.right
  pub parent : n.edges ≤ length T.edges.parent
  pub child : n.edges ≤ length T.edges.child
  pub position : n.sites ≤ length T.sites.position
  pub ancestral : n.sites ≤ length T.sites.ancestral
  pub site : n.mutations ≤ length T.muts.site
  pub node : n.mutations ≤ length T.muts.node
  pub derived : n.mutations ≤ length T.muts.derived

-- "on a refusal, `refused`, number, row as one line", and else these bytes
unfoldable pub printed_by : Answer → List ℕ → List ℕ
unfolding accepted refused_line
printed_by a new = elim (accepted a) [ true ↦ new | false ↦ refused_line a.number a.row ]

-- what a cleaning prints: L, the rows written, and the node map's row for each of so many input nodes
unfoldable pub outcome_shown : ℕ → ℕ → Outcome → List ℕ
unfolding printed_by listed front
outcome_shown L rows o = printed_by o.answer (listed L (front o.counts o.cells) (take rows o.map))

-- the tables are cleaned and listed
unfoldable pub clean_shown : ℕ → Tables → List ℕ → List ℕ
unfolding outcome_shown cleaning stands blank zeros
clean_shown L T S = outcome_shown L (length T.nodes.birth) (cleaning stands limits L T S blank (zeros stored_limits.nodes) 4)

-- what a reading prints: the rows read, cleaned and listed
unfoldable pub reading_shown : Reading → List ℕ
unfolding printed_by clean_shown front
reading_shown r = printed_by r.answer (clean_shown r.len (front r.rows r.cells) (take r.listed r.samples))

-- "The program reads the stored form .., cleans with room for every table's limit, and prints."
unfoldable pub shown : List ℕ → List ℕ
unfolding reading_shown reading blank zeros
shown s = reading_shown (reading 2 stored_limits s blank (zeros stored_limits.samples))

-- "at most 65,536 bytes"; "With more bytes it prints `too long`"
unfoldable pub answered : List ℕ → List ℕ
unfolding shown too_long
answered s = elim (ltb 65536 (length s)) [ true ↦ too_long | false ↦ shown s ]
