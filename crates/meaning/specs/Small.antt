-- Small cases that the listing does not have: each tells a definition from a near one.
use Rattle.std.specs.Prelude.{◌≡◌, refl, List, [], ◌∷◌, ℕ}
use Rattle.meaning.specs.Rows.{NodeColumns, EdgeColumns, SiteColumns, MutationColumns, Tables}
use Rattle.meaning.specs.Forest.{stands}
use Rattle.meaning.specs.Answer.{Answer, answer, done, limits, given, absent}
use Rattle.meaning.specs.Check.{check}
use Rattle.meaning.specs.Clean.{cleaned}
use Rattle.meaning.specs.Allele.{allele}
use Rattle.meaning.specs.Join.{BatchTables, joined, join_answer}
use Rattle.meaning.specs.Listing.{nodes, edges, sites, listing, with_edges, with_muts}

-- ---- cleaning

-- one parent and one child over (0,4) and (4,10)
abbrev pub touching : Tables
touching = record {
  nodes = record { time = 0 ∷ 1 ∷ []; birth = 7 ∷ 8 ∷ []; population = 0 ∷ 0 ∷ [] };
  edges = record { left = 0 ∷ 4 ∷ []; right = 4 ∷ 10 ∷ []; parent = 1 ∷ 1 ∷ []; child = 0 ∷ 0 ∷ [] };
  sites = record { position = []; ancestral = [] };
  muts = record { site = []; node = []; derived = [] };
}

-- two mutations on 501 at site 1, a third on 201 above it that comes first
abbrev pub twice_hit : Tables
twice_hit = with_muts (record { site = 1 ∷ 1 ∷ 1 ∷ []; node = 4 ∷ 0 ∷ 0 ∷ []; derived = 90 ∷ 91 ∷ 92 ∷ [] })

pub record Cleaning : Type 0 where
  -- "Edges (0,4) and (4,10) of one parent and child become one."
  pub touching_are_one : (cleaned stands 10 touching (7 ∷ 8 ∷ [])).edges ≡ record { left = 0 ∷ []; right = 10 ∷ []; parent = 1 ∷ []; child = 0 ∷ [] }
  -- "the answer is the state of its last such row"
  pub last_state : allele limits 10 twice_hit 1 501 ≡ given 92
  -- mutations that meet on one node keep their order, and none is merged
  pub all_stay : (cleaned stands 10 twice_hit (501 ∷ [])).muts ≡ record { site = 1 ∷ 1 ∷ 1 ∷ []; node = 0 ∷ 0 ∷ 0 ∷ []; derived = 90 ∷ 91 ∷ 92 ∷ [] }

pub cleaning : Cleaning
unfolding cleaned stands allele
cleaning = record { touching_are_one = refl; last_state = refl; all_stay = refl }

-- ---- missing

-- 7 is the child of 8 over (0,4) only, and 9 is nobody's parent or child; 9 has a mutation at the second site
abbrev pub scattered : Tables
scattered = record {
  nodes = record { time = 0 ∷ 1 ∷ 2 ∷ []; birth = 7 ∷ 8 ∷ 9 ∷ []; population = 0 ∷ 0 ∷ 0 ∷ [] };
  edges = record { left = 0 ∷ []; right = 4 ∷ []; parent = 1 ∷ []; child = 0 ∷ [] };
  sites = record { position = 2 ∷ 6 ∷ []; ancestral = 65 ∷ 67 ∷ [] };
  muts = record { site = 1 ∷ []; node = 2 ∷ []; derived = 71 ∷ [] };
}

pub record Missing : Type 0 where
  -- a parent at the position, or a child there, and the fish has the ancestral state
  pub with_parent : allele limits 10 scattered 0 7 ≡ given 65
  pub founder : allele limits 10 scattered 0 8 ≡ given 65
  -- where both are elsewhere it is missing
  pub parent_elsewhere : allele limits 10 scattered 1 7 ≡ absent
  pub child_elsewhere : allele limits 10 scattered 1 8 ≡ absent
  -- a mutation of its own at the site gives it a state, one at another site does not
  pub with_mutation : allele limits 10 scattered 1 9 ≡ given 71
  pub mutation_elsewhere : allele limits 10 scattered 0 9 ≡ absent

pub missing : Missing
unfolding allele
missing = record { with_parent = refl; founder = refl; parent_elsewhere = refl; child_elsewhere = refl; with_mutation = refl; mutation_elsewhere = refl }

-- ---- the order of the refusals

pub record Orders : Type 0 where
  -- 5 at row 2 comes before 6 at row 1
  pub five_before_six : check limits 10 (with_edges (record { left = 4 ∷ 0 ∷ 9 ∷ []; right = 6 ∷ 10 ∷ 9 ∷ []; parent = 2 ∷ 2 ∷ 2 ∷ []; child = 1 ∷ 0 ∷ 0 ∷ [] })) [] ≡ answer 5 2
  -- a repeated edge is 6, not 7
  pub repeat_is_six : check limits 10 (with_edges (record { left = 0 ∷ 0 ∷ []; right = 10 ∷ 10 ∷ []; parent = 2 ∷ 2 ∷ []; child = 0 ∷ 0 ∷ [] })) [] ≡ answer 6 1
  -- touching is not sharing, and sharing is the later row's
  pub shared : check limits 10 (with_edges (record { left = 0 ∷ 4 ∷ 0 ∷ 3 ∷ []; right = 4 ∷ 10 ∷ 10 ∷ 5 ∷ []; parent = 2 ∷ 2 ∷ 3 ∷ 4 ∷ []; child = 0 ∷ 0 ∷ 2 ∷ 0 ∷ [] })) [] ≡ answer 7 3
  -- all of 11 before 12
  pub unknown_first : check limits 10 listing (501 ∷ 501 ∷ 999 ∷ []) ≡ answer 11 2

pub orders : Orders
unfolding check
orders = record { five_before_six = refl; repeat_is_six = refl; shared = refl; unknown_first = refl }

-- ---- joining

-- two births, 602 of 401 and 301, 601 of 401 alone; the rows in no order
abbrev pub spawn : BatchTables
spawn = record {
  nodes = record { time = 0 ∷ 0 ∷ []; birth = 602 ∷ 601 ∷ []; population = 9 ∷ 2 ∷ [] };
  edges = record { left = 5 ∷ 0 ∷ 0 ∷ []; right = 10 ∷ 10 ∷ 5 ∷ []; parent = 401 ∷ 401 ∷ 301 ∷ []; child = 602 ∷ 601 ∷ 602 ∷ [] };
  muts = record { site = 1 ∷ 0 ∷ []; node = 601 ∷ 602 ∷ []; derived = 66 ∷ 68 ∷ [] };
}

pub record Joining : Type 0 where
  pub rows : joined 10 listing spawn ≡ record {
    nodes = record { time = 0 ∷ 0 ∷ 1 ∷ 2 ∷ 3 ∷ 0 ∷ 0 ∷ []; birth = 501 ∷ 502 ∷ 401 ∷ 301 ∷ 201 ∷ 602 ∷ 601 ∷ []; population = 0 ∷ 0 ∷ 0 ∷ 0 ∷ 0 ∷ 9 ∷ 2 ∷ [] };
    edges = record {
      left = 0 ∷ 4 ∷ 0 ∷ 5 ∷ 0 ∷ 0 ∷ 6 ∷ 0 ∷ 0 ∷ [];
      right = 10 ∷ 6 ∷ 10 ∷ 10 ∷ 10 ∷ 4 ∷ 10 ∷ 5 ∷ 10 ∷ [];
      parent = 2 ∷ 2 ∷ 2 ∷ 2 ∷ 3 ∷ 3 ∷ 3 ∷ 3 ∷ 4 ∷ [];
      child = 0 ∷ 1 ∷ 6 ∷ 5 ∷ 2 ∷ 1 ∷ 1 ∷ 5 ∷ 3 ∷ [];
    };
    sites = sites;
    muts = record { site = 0 ∷ 0 ∷ 1 ∷ 1 ∷ 1 ∷ []; node = 3 ∷ 5 ∷ 4 ∷ 2 ∷ 6 ∷ []; derived = 84 ∷ 68 ∷ 84 ∷ 71 ∷ 66 ∷ [] };
  }
  -- the result passes the check
  pub sound : check limits 10 (joined 10 listing spawn) (601 ∷ 602 ∷ []) ≡ done

pub joining : Joining
unfolding joined check
joining = record { rows = refl; sound = refl }
