-- 01, "A listing, whole": its input as lent columns and as a stored file, and what is printed.
use Rattle.std.specs.Prelude.{List, [], ◌∷◌, ℕ}
use Rattle.meaning.specs.Rows.{NodeColumns, EdgeColumns, SiteColumns, MutationColumns, Tables}

abbrev pub nodes : NodeColumns
nodes = record {
  time = 0 ∷ 0 ∷ 1 ∷ 2 ∷ 3 ∷ [];
  birth = 501 ∷ 502 ∷ 401 ∷ 301 ∷ 201 ∷ [];
  population = 0 ∷ 0 ∷ 0 ∷ 0 ∷ 0 ∷ [];
}

abbrev pub edges : EdgeColumns
edges = record {
  left = 0 ∷ 4 ∷ 0 ∷ 0 ∷ 6 ∷ 0 ∷ [];
  right = 10 ∷ 6 ∷ 10 ∷ 4 ∷ 10 ∷ 10 ∷ [];
  parent = 2 ∷ 2 ∷ 3 ∷ 3 ∷ 3 ∷ 4 ∷ [];
  child = 0 ∷ 1 ∷ 2 ∷ 1 ∷ 1 ∷ 3 ∷ [];
}

abbrev pub sites : SiteColumns
sites = record { position = 5 ∷ 8 ∷ []; ancestral = 65 ∷ 67 ∷ [] }

abbrev pub muts : MutationColumns
muts = record { site = 0 ∷ 1 ∷ 1 ∷ []; node = 3 ∷ 4 ∷ 2 ∷ []; derived = 84 ∷ 84 ∷ 71 ∷ [] }

abbrev pub listing : Tables
listing = record { nodes = nodes; edges = edges; sites = sites; muts = muts }

-- the listing with one table changed
abbrev pub with_nodes : NodeColumns → Tables
with_nodes N = record { nodes = N; edges = edges; sites = sites; muts = muts }

abbrev pub with_edges : EdgeColumns → Tables
with_edges E = record { nodes = nodes; edges = E; sites = sites; muts = muts }

abbrev pub with_muts : MutationColumns → Tables
with_muts M = record { nodes = nodes; edges = edges; sites = sites; muts = M }

-- the stored file of these tables with the samples 501 and 502, a record to a line
abbrev pub file : List ℕ
file =
    83 ∷ 81 ∷ 10 ∷ 0 ∷ 0 ∷ 0 ∷
    83 ∷ 65 ∷ 245 ∷ 1 ∷ 0 ∷ 0 ∷
    83 ∷ 65 ∷ 246 ∷ 1 ∷ 0 ∷ 0 ∷
    78 ∷ 68 ∷ 0 ∷ 0 ∷ 0 ∷ 0 ∷ 245 ∷ 1 ∷ 0 ∷ 0 ∷
    78 ∷ 68 ∷ 0 ∷ 0 ∷ 0 ∷ 0 ∷ 246 ∷ 1 ∷ 0 ∷ 0 ∷
    78 ∷ 68 ∷ 1 ∷ 0 ∷ 0 ∷ 0 ∷ 145 ∷ 1 ∷ 0 ∷ 0 ∷
    78 ∷ 68 ∷ 2 ∷ 0 ∷ 0 ∷ 0 ∷ 45 ∷ 1 ∷ 0 ∷ 0 ∷
    78 ∷ 68 ∷ 3 ∷ 0 ∷ 0 ∷ 0 ∷ 201 ∷ 0 ∷ 0 ∷ 0 ∷
    69 ∷ 68 ∷ 0 ∷ 0 ∷ 0 ∷ 0 ∷ 10 ∷ 0 ∷ 0 ∷ 0 ∷ 2 ∷ 0 ∷ 0 ∷ 0 ∷
    69 ∷ 68 ∷ 4 ∷ 0 ∷ 0 ∷ 0 ∷ 6 ∷ 0 ∷ 0 ∷ 0 ∷ 2 ∷ 0 ∷ 1 ∷ 0 ∷
    69 ∷ 68 ∷ 0 ∷ 0 ∷ 0 ∷ 0 ∷ 10 ∷ 0 ∷ 0 ∷ 0 ∷ 3 ∷ 0 ∷ 2 ∷ 0 ∷
    69 ∷ 68 ∷ 0 ∷ 0 ∷ 0 ∷ 0 ∷ 4 ∷ 0 ∷ 0 ∷ 0 ∷ 3 ∷ 0 ∷ 1 ∷ 0 ∷
    69 ∷ 68 ∷ 6 ∷ 0 ∷ 0 ∷ 0 ∷ 10 ∷ 0 ∷ 0 ∷ 0 ∷ 3 ∷ 0 ∷ 1 ∷ 0 ∷
    69 ∷ 68 ∷ 0 ∷ 0 ∷ 0 ∷ 0 ∷ 10 ∷ 0 ∷ 0 ∷ 0 ∷ 4 ∷ 0 ∷ 3 ∷ 0 ∷
    83 ∷ 73 ∷ 5 ∷ 0 ∷ 0 ∷ 0 ∷ 65 ∷
    83 ∷ 73 ∷ 8 ∷ 0 ∷ 0 ∷ 0 ∷ 67 ∷
    77 ∷ 85 ∷ 0 ∷ 0 ∷ 3 ∷ 0 ∷ 84 ∷
    77 ∷ 85 ∷ 1 ∷ 0 ∷ 4 ∷ 0 ∷ 84 ∷
    77 ∷ 85 ∷ 1 ∷ 0 ∷ 2 ∷ 0 ∷ 71 ∷
    69 ∷ 78 ∷
    []

-- the listing as printed, byte by byte, a line to a line
abbrev pub printed : List ℕ
printed =
    81 ∷ 32 ∷ 49 ∷ 48 ∷ 10 ∷
    78 ∷ 32 ∷ 48 ∷ 32 ∷ 48 ∷ 32 ∷ 53 ∷ 48 ∷ 49 ∷ 32 ∷ 48 ∷ 10 ∷
    78 ∷ 32 ∷ 49 ∷ 32 ∷ 48 ∷ 32 ∷ 53 ∷ 48 ∷ 50 ∷ 32 ∷ 48 ∷ 10 ∷
    78 ∷ 32 ∷ 50 ∷ 32 ∷ 49 ∷ 32 ∷ 52 ∷ 48 ∷ 49 ∷ 32 ∷ 48 ∷ 10 ∷
    78 ∷ 32 ∷ 51 ∷ 32 ∷ 50 ∷ 32 ∷ 51 ∷ 48 ∷ 49 ∷ 32 ∷ 48 ∷ 10 ∷
    69 ∷ 32 ∷ 52 ∷ 32 ∷ 54 ∷ 32 ∷ 50 ∷ 32 ∷ 48 ∷ 10 ∷
    69 ∷ 32 ∷ 52 ∷ 32 ∷ 54 ∷ 32 ∷ 50 ∷ 32 ∷ 49 ∷ 10 ∷
    69 ∷ 32 ∷ 48 ∷ 32 ∷ 52 ∷ 32 ∷ 51 ∷ 32 ∷ 48 ∷ 10 ∷
    69 ∷ 32 ∷ 54 ∷ 32 ∷ 49 ∷ 48 ∷ 32 ∷ 51 ∷ 32 ∷ 48 ∷ 10 ∷
    69 ∷ 32 ∷ 48 ∷ 32 ∷ 52 ∷ 32 ∷ 51 ∷ 32 ∷ 49 ∷ 10 ∷
    69 ∷ 32 ∷ 54 ∷ 32 ∷ 49 ∷ 48 ∷ 32 ∷ 51 ∷ 32 ∷ 49 ∷ 10 ∷
    83 ∷ 32 ∷ 53 ∷ 32 ∷ 54 ∷ 53 ∷ 10 ∷
    83 ∷ 32 ∷ 56 ∷ 32 ∷ 54 ∷ 55 ∷ 10 ∷
    77 ∷ 32 ∷ 48 ∷ 32 ∷ 50 ∷ 32 ∷ 56 ∷ 52 ∷ 10 ∷
    77 ∷ 32 ∷ 49 ∷ 32 ∷ 51 ∷ 32 ∷ 56 ∷ 52 ∷ 10 ∷
    77 ∷ 32 ∷ 49 ∷ 32 ∷ 48 ∷ 32 ∷ 55 ∷ 49 ∷ 10 ∷
    88 ∷ 32 ∷ 48 ∷ 32 ∷ 48 ∷ 10 ∷
    88 ∷ 32 ∷ 49 ∷ 32 ∷ 49 ∷ 10 ∷
    88 ∷ 32 ∷ 50 ∷ 32 ∷ 50 ∷ 10 ∷
    88 ∷ 32 ∷ 51 ∷ 32 ∷ 51 ∷ 10 ∷
    88 ∷ 32 ∷ 52 ∷ 32 ∷ 45 ∷ 10 ∷
    []
