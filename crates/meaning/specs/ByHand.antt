-- 01, "Checks by hand": P1 to P10, one table, proved by computing the definitions.
use Rattle.std.specs.Prelude.{◌≡◌, refl, List, [], ◌∷◌, ℕ}
use Rattle.meaning.specs.Rows.{Tables}
use Rattle.meaning.specs.Forest.{stands}
use Rattle.meaning.specs.Answer.{Answer, answer, done, limits, stored_limits, given}
use Rattle.meaning.specs.Check.{check}
use Rattle.meaning.specs.Clean.{cleaning}
use Rattle.meaning.specs.Allele.{allele}
use Rattle.meaning.specs.Files.{written}
use Rattle.meaning.specs.Shown.{shown}
use Rattle.meaning.specs.Listing.{nodes, edges, sites, muts, listing, file, printed, with_nodes, with_edges, with_muts}

-- what is lent to P1, P2 and P3: in each column seven cells that hold 7
abbrev pub cells : List ℕ
cells = 7 ∷ 7 ∷ 7 ∷ 7 ∷ 7 ∷ 7 ∷ 7 ∷ []

abbrev pub lent : Tables
lent = record {
  nodes = record { time = cells; birth = cells; population = cells };
  edges = record { left = cells; right = cells; parent = cells; child = cells };
  sites = record { position = cells; ancestral = cells };
  muts = record { site = cells; node = cells; derived = cells };
}

pub record ByHand : Type 0 where
  -- the listing: all that the call gives and leaves
  pub P1 : cleaning stands limits 10 listing (501 ∷ 502 ∷ []) lent cells 4 ≡ record {
    answer = done;
    counts = record { nodes = 4; edges = 6; sites = 2; mutations = 3 };
    cells = record {
      nodes = record { time = 0 ∷ 0 ∷ 1 ∷ 2 ∷ 7 ∷ 7 ∷ 7 ∷ []; birth = 501 ∷ 502 ∷ 401 ∷ 301 ∷ 7 ∷ 7 ∷ 7 ∷ []; population = 0 ∷ 0 ∷ 0 ∷ 0 ∷ 7 ∷ 7 ∷ 7 ∷ [] };
      edges = record {
        left = 4 ∷ 4 ∷ 0 ∷ 6 ∷ 0 ∷ 6 ∷ 7 ∷ [];
        right = 6 ∷ 6 ∷ 4 ∷ 10 ∷ 4 ∷ 10 ∷ 7 ∷ [];
        parent = 2 ∷ 2 ∷ 3 ∷ 3 ∷ 3 ∷ 3 ∷ 7 ∷ [];
        child = 0 ∷ 1 ∷ 0 ∷ 0 ∷ 1 ∷ 1 ∷ 7 ∷ [];
      };
      sites = record { position = 5 ∷ 8 ∷ 7 ∷ 7 ∷ 7 ∷ 7 ∷ 7 ∷ []; ancestral = 65 ∷ 67 ∷ 7 ∷ 7 ∷ 7 ∷ 7 ∷ 7 ∷ [] };
      muts = record { site = 0 ∷ 1 ∷ 1 ∷ 7 ∷ 7 ∷ 7 ∷ 7 ∷ []; node = 2 ∷ 3 ∷ 0 ∷ 7 ∷ 7 ∷ 7 ∷ 7 ∷ []; derived = 84 ∷ 84 ∷ 71 ∷ 7 ∷ 7 ∷ 7 ∷ 7 ∷ [] };
    };
    map = 0 ∷ 1 ∷ 2 ∷ 3 ∷ 4294967295 ∷ 7 ∷ 7 ∷ [];
  }
  -- its stored file, and what the program prints for that file
  pub p1_file : written 2 stored_limits 10 listing (501 ∷ 502 ∷ []) ≡ file
  pub p1_printed : shown file ≡ printed
  -- same, samples 501, 401: one edge (0,10,1,0)
  pub P2 : cleaning stands limits 10 listing (501 ∷ 401 ∷ []) lent cells 4 ≡ record {
    answer = done;
    counts = record { nodes = 2; edges = 1; sites = 2; mutations = 3 };
    cells = record {
      nodes = record { time = 0 ∷ 1 ∷ 7 ∷ 7 ∷ 7 ∷ 7 ∷ 7 ∷ []; birth = 501 ∷ 401 ∷ 7 ∷ 7 ∷ 7 ∷ 7 ∷ 7 ∷ []; population = 0 ∷ 0 ∷ 7 ∷ 7 ∷ 7 ∷ 7 ∷ 7 ∷ [] };
      edges = record {
        left = 0 ∷ 7 ∷ 7 ∷ 7 ∷ 7 ∷ 7 ∷ 7 ∷ [];
        right = 10 ∷ 7 ∷ 7 ∷ 7 ∷ 7 ∷ 7 ∷ 7 ∷ [];
        parent = 1 ∷ 7 ∷ 7 ∷ 7 ∷ 7 ∷ 7 ∷ 7 ∷ [];
        child = 0 ∷ 7 ∷ 7 ∷ 7 ∷ 7 ∷ 7 ∷ 7 ∷ [];
      };
      sites = record { position = 5 ∷ 8 ∷ 7 ∷ 7 ∷ 7 ∷ 7 ∷ 7 ∷ []; ancestral = 65 ∷ 67 ∷ 7 ∷ 7 ∷ 7 ∷ 7 ∷ 7 ∷ [] };
      muts = record { site = 0 ∷ 1 ∷ 1 ∷ 7 ∷ 7 ∷ 7 ∷ 7 ∷ []; node = 1 ∷ 1 ∷ 1 ∷ 7 ∷ 7 ∷ 7 ∷ 7 ∷ []; derived = 84 ∷ 84 ∷ 71 ∷ 7 ∷ 7 ∷ 7 ∷ 7 ∷ [] };
    };
    map = 0 ∷ 4294967295 ∷ 1 ∷ 4294967295 ∷ 4294967295 ∷ 7 ∷ 7 ∷ [];
  }
  -- samples empty: no nodes, edges, mutations; two sites
  pub P3 : cleaning stands limits 10 listing [] lent cells 4 ≡ record {
    answer = done;
    counts = record { nodes = 0; edges = 0; sites = 2; mutations = 0 };
    cells = record {
      nodes = lent.nodes;
      edges = lent.edges;
      sites = record { position = 5 ∷ 8 ∷ 7 ∷ 7 ∷ 7 ∷ 7 ∷ 7 ∷ []; ancestral = 65 ∷ 67 ∷ 7 ∷ 7 ∷ 7 ∷ 7 ∷ 7 ∷ [] };
      muts = lent.muts;
    };
    map = 4294967295 ∷ 4294967295 ∷ 4294967295 ∷ 4294967295 ∷ 4294967295 ∷ 7 ∷ 7 ∷ [];
  }
  -- 501 twice: 12, row 1
  pub P4 : check limits 10 listing (501 ∷ 501 ∷ []) ≡ answer 12 1
  -- sample 999: 11, row 0
  pub P5 : check limits 10 listing (999 ∷ []) ≡ answer 11 0
  -- last edge right 11: 5, row 5
  pub P6 : check limits 10 (with_edges (record { left = edges.left; right = 10 ∷ 6 ∷ 10 ∷ 4 ∷ 10 ∷ 11 ∷ []; parent = edges.parent; child = edges.child })) (501 ∷ 502 ∷ []) ≡ answer 5 5
  -- node 4 given time 2: 5, row 5
  pub P7 : check limits 10 (with_nodes (record { time = 0 ∷ 0 ∷ 1 ∷ 2 ∷ 2 ∷ []; birth = nodes.birth; population = nodes.population })) (501 ∷ 502 ∷ []) ≡ answer 5 5
  -- L 0 with a repeated birth: 3
  pub P8 : check limits 0 (with_nodes (record { time = nodes.time; birth = 501 ∷ 501 ∷ 401 ∷ 301 ∷ 201 ∷ []; population = nodes.population })) (501 ∷ 502 ∷ []) ≡ answer 3 0
  -- the last two mutations exchanged: 10, row 2
  pub P9 : check limits 10 (with_muts (record { site = muts.site; node = 3 ∷ 2 ∷ 4 ∷ []; derived = 84 ∷ 71 ∷ 84 ∷ [] })) (501 ∷ 502 ∷ []) ≡ answer 10 2
  -- allele of 501 at site 1 is 71, of 502 is 84
  pub p10_501 : allele limits 10 listing 1 501 ≡ given 71
  pub p10_502 : allele limits 10 listing 1 502 ≡ given 84

pub by_hand : ByHand
unfolding cleaning stands check allele written shown
by_hand = record {
  P1 = refl;
  p1_file = refl;
  p1_printed = refl;
  P2 = refl;
  P3 = refl;
  P4 = refl;
  P5 = refl;
  P6 = refl;
  P7 = refl;
  P8 = refl;
  P9 = refl;
  p10_501 = refl;
  p10_502 = refl;
}
