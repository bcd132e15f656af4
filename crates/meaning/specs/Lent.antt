-- Tables 1 to 4 as lent for a result: whether it fits, how many rows are written, what the cells hold afterwards.
use Rattle.std.specs.Prelude.{Bool, true, false, List, [], ◌∷◌, ℕ, ltb, length, Result, Ok, Err}
use Rattle.meaning.specs.Rows.{Tables}
use Rattle.meaning.specs.Answer.{Answer, Limits, done, refuse, accepted, lacks, put, left_by, refusal_of}
use Rattle.meaning.specs.declared.Counts as told
use Rattle.meaning.specs.declared.Refusal.{Refusal}

-- "the rows written in each table"
pub record Counts : Type 0 where
  pub nodes : ℕ
  pub edges : ℕ
  pub sites : ℕ
  pub mutations : ℕ

-- 13 for tables 1 to 4: "lowest such table"
unfoldable pub fit_then : Limits → Tables → Tables → Answer → Answer
unfolding refuse lacks
fit_then m new out rest =
    refuse (lacks m.nodes (out.nodes.time ∷ out.nodes.birth ∷ out.nodes.population ∷ []) (length new.nodes.time)) 13 1
    (refuse (lacks m.edges (out.edges.left ∷ out.edges.right ∷ out.edges.parent ∷ out.edges.child ∷ []) (length new.edges.left)) 13 2
    (refuse (lacks m.sites (out.sites.position ∷ out.sites.ancestral ∷ []) (length new.sites.position)) 13 3
    (refuse (lacks m.mutations (out.muts.site ∷ out.muts.node ∷ out.muts.derived ∷ []) (length new.muts.site)) 13 4 rest)))

-- "(a shorter block: 13, row 7)", last of all: a call from C lends a block of so many cells for the rows written. A call that lends none is as one with four
unfoldable pub block_then : ℕ → Answer → Answer
unfolding refuse
block_then cells rest = refuse (ltb cells 4) 13 7 rest

abbrev pub no_rows_written : Counts
no_rows_written = record { nodes = 0; edges = 0; sites = 0; mutations = 0 }

-- the rows of each table
abbrev pub rows_in : Tables → Counts
rows_in T = record { nodes = length T.nodes.time; edges = length T.edges.left; sites = length T.sites.position; mutations = length T.muts.site }

-- "after a refusal all but number and row are 0"
unfoldable pub counts_by : Answer → Tables → Counts
unfolding accepted
counts_by a new = elim (accepted a) [
  | true ↦ rows_in new
  | false ↦ no_rows_written
]

-- the rows of each table at the front of its columns, "and cells past it keep their values"
unfoldable pub put_all : Tables → Tables → Tables
unfolding put
put_all new out = record {
  nodes = record {
    time = put new.nodes.time out.nodes.time;
    birth = put new.nodes.birth out.nodes.birth;
    population = put new.nodes.population out.nodes.population;
  };
  edges = record {
    left = put new.edges.left out.edges.left;
    right = put new.edges.right out.edges.right;
    parent = put new.edges.parent out.edges.parent;
    child = put new.edges.child out.edges.child;
  };
  sites = record { position = put new.sites.position out.sites.position; ancestral = put new.sites.ancestral out.sites.ancestral };
  muts = record {
    site = put new.muts.site out.muts.site;
    node = put new.muts.node out.muts.node;
    derived = put new.muts.derived out.muts.derived;
  };
}

-- each column as the answer leaves it
unfoldable pub cells_by : Answer → Tables → Tables → Tables
unfolding left_by
cells_by a new out = record {
  nodes = record {
    time = left_by a new.nodes.time out.nodes.time;
    birth = left_by a new.nodes.birth out.nodes.birth;
    population = left_by a new.nodes.population out.nodes.population;
  };
  edges = record {
    left = left_by a new.edges.left out.edges.left;
    right = left_by a new.edges.right out.edges.right;
    parent = left_by a new.edges.parent out.edges.parent;
    child = left_by a new.edges.child out.edges.child;
  };
  sites = record {
    position = left_by a new.sites.position out.sites.position;
    ancestral = left_by a new.sites.ancestral out.sites.ancestral;
  };
  muts = record {
    site = left_by a new.muts.site out.muts.site;
    node = left_by a new.muts.node out.muts.node;
    derived = left_by a new.muts.derived out.muts.derived;
  };
}

-- ---- the code's answer of a call that writes tables 1 to 4

abbrev pub Tabled : Type 0
Tabled = Result told.Counts Refusal

abbrev pub answer_of : Tabled → Answer
answer_of (Ok c) = done
answer_of (Err r) = refusal_of r

abbrev pub counts_of : Tabled → Counts
counts_of (Ok c) = record { nodes = c.nodes; edges = c.edges; sites = c.sites; mutations = c.mutations }
counts_of (Err r) = no_rows_written
