-- The two bytes of a row at a site: whether it is missing there, and the state that it carries.
use Rattle.std.specs.Prelude.{Bool, true, false, ◌≡◌, List, ℕ, ◌<◌, length}
use Rattle.meaning.specs.Words.{at}
use Rattle.meaning.specs.Rows.{Tables}
use Rattle.missing.specs.Marks.{marks_of, states_of}
use Rattle.alleles.specs.Reading.{carried_by}
use Rattle.missing.specs.Alone.{missing_row}

-- the marks and the last states of all rows at site row i
abbrev pub marks_at : Tables → ℕ → List ℕ
marks_at T i = marks_of T.muts i (length T.nodes.time)

abbrev pub states_at : Tables → ℕ → List ℕ
states_at T i = states_of T.muts i (at T.sites.ancestral i) (length T.nodes.time)

-- row u is missing at site row i
unfoldable pub missing_cell : Tables → ℕ → ℕ → Bool
unfolding missing_row marks_of
missing_cell T i u = missing_row T.edges (at T.sites.position i) (marks_at T i) u

-- the state that row u carries at site row i
unfoldable pub carried_cell : Tables → ℕ → ℕ → ℕ
unfolding carried_by marks_of states_of
carried_cell T i u = carried_by T.edges (at T.sites.position i) (marks_at T i) (states_at T i) (at T.sites.ancestral i) u

-- the byte of the state: 0 where the row is missing
unfoldable pub state_cell : Tables → ℕ → ℕ → ℕ
unfolding missing_cell carried_cell
state_cell T i u = elim (missing_cell T i u) [ true ↦ 0 | false ↦ carried_cell T i u ]

-- the byte for missing: 1 where the row is missing
unfoldable pub flag_cell : Tables → ℕ → ℕ → ℕ
unfolding missing_cell
flag_cell T i u = elim (missing_cell T i u) [ true ↦ 1 | false ↦ 0 ]

-- the first k cells of two columns have the bytes of the rows listed
pub record ColumnAt (T : Tables) (i k : ℕ) (rows states flags : List ℕ) : Type 0 where
  pub state : (j : ℕ) → j < k → at states j ≡ state_cell T i (at rows j)
  pub flag : (j : ℕ) → j < k → at flags j ≡ flag_cell T i (at rows j)
