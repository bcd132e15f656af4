-- Demand 3 is not empty, and its premise is needed: two proved cases on 01's listing; and cleaning can isolate a fish.
use Rattle.std.specs.Prelude.{◌≡◌, ℕ, replicate}
use Rattle.std.proofs.Math.Path.{refl}
use mathlib.Core.List.{List, [], ◌∷◌}
use Rattle.meaning.specs.Rows.{Tables}
use Rattle.meaning.specs.Forest.{stands}
use Rattle.meaning.specs.Answer.{limits, done, given, absent}
use Rattle.meaning.specs.Clean.{cleaned, clean_answer}
use Rattle.meaning.specs.Allele.{allele}
use Rattle.meaning.specs.Join.{BatchTables}
use Rattle.meaning.specs.Listing.{listing}
use Rattle.demands.specs.Histories.{Lent, LentJoin, Call, joins, cleans}

-- room for 16 rows in every table
abbrev cells : List ℕ
cells = replicate 16 7

abbrev pub room : Tables
room = record {
  nodes = record { time = cells; birth = cells; population = cells };
  edges = record { left = cells; right = cells; parent = cells; child = cells };
  sites = record { position = cells; ancestral = cells };
  muts = record { site = cells; node = cells; derived = cells };
}

abbrev pub lent : Lent
lent = record { out = room; map = cells; cells = 4 }

abbrev pub lent_join : LentJoin
lent_join = record { out = room; cells = 4 }

-- 601 is born of 401 alone, 602 of 401 and 301
abbrev pub spawn : BatchTables
spawn = record {
  nodes = record { time = 0 ∷ 0 ∷ []; birth = 601 ∷ 602 ∷ []; population = 2 ∷ 9 ∷ [] };
  edges = record { left = 0 ∷ 0 ∷ 5 ∷ []; right = 10 ∷ 5 ∷ 10 ∷ []; parent = 401 ∷ 401 ∷ 301 ∷ []; child = 601 ∷ 602 ∷ 602 ∷ [] };
  muts = record { site = 0 ∷ []; node = 601 ∷ []; derived = 66 ∷ [] };
}

-- 401 and 301 are named by the batch, 501 by the last list
abbrev pub listed : List ℕ
listed = 501 ∷ 401 ∷ 301 ∷ []

-- clean for these, join the batch, and clean at the end for 601, 602 and 501
abbrev pub story : List Call
story = cleans listed lent ∷ joins spawn lent_join lent_join ∷ []

abbrev pub last : List ℕ
last = 601 ∷ 602 ∷ 501 ∷ []

-- "Clean the listing's input with 501, 502, then its output with 401, 501: the edge is (4,6); from the raw input it is (0,10)."
pub record PremiseNeeded : Type 0 where
  pub after_first_cleaning : (cleaned stands 10 (cleaned stands 10 listing (501 ∷ 502 ∷ [])) (401 ∷ 501 ∷ [])).edges ≡ record { left = 4 ∷ []; right = 6 ∷ []; parent = 0 ∷ []; child = 1 ∷ [] }
  pub from_raw_input : (cleaned stands 10 listing (401 ∷ 501 ∷ [])).edges ≡ record { left = 0 ∷ []; right = 10 ∷ []; parent = 0 ∷ []; child = 1 ∷ [] }

pub premise_needed : PremiseNeeded
unfolding cleaned stands
premise_needed = record { after_first_cleaning = refl; from_raw_input = refl }

-- "Cleaning can isolate a fish": 7 hangs below 8 alone, which does not stand for the samples 7, so that the cleaned tables give 7 no parent
abbrev pub lone : Tables
lone = record {
  nodes = record { time = 0 ∷ 1 ∷ []; birth = 7 ∷ 8 ∷ []; population = 0 ∷ 0 ∷ [] };
  edges = record { left = 0 ∷ []; right = 10 ∷ []; parent = 1 ∷ []; child = 0 ∷ [] };
  sites = record { position = 3 ∷ []; ancestral = 65 ∷ [] };
  muts = record { site = []; node = []; derived = [] };
}

-- so what the cleaned tables leave open the input may still tell: `allele-kept` does not hold the other way round
pub record Isolated : Type 0 where
  pub not_refused : clean_answer stands limits 10 lone (7 ∷ []) room cells 4 ≡ done
  pub input_gives : allele limits 10 lone 0 7 ≡ given 65
  pub cleaned_gives_none : allele limits 10 (cleaned stands 10 lone (7 ∷ [])) 0 7 ≡ absent

pub isolated : Isolated
unfolding clean_answer cleaned stands allele
isolated = record { not_refused = refl; input_gives = refl; cleaned_gives_none = refl }
