-- Small files by hand, computed from the definitions: each refusal with its offset, a file that is read and written back, and a population that is refused.
use Rattle.std.specs.Prelude.{◌≡◌, refl, List, [], ◌∷◌, ◌++◌, ℕ}
use Rattle.meaning.specs.Rows.{Tables}
use Rattle.meaning.specs.Answer.{Limits, answer, done, stored_limits}
use Rattle.meaning.specs.Stored.{form, form_then}
use Rattle.meaning.specs.Files.{found, samples_in, tables_in, written, write_answer}

-- SQ with L 10, a sample 501, a node (258, 501), and the end
abbrev sq : List ℕ
sq = 83 ∷ 81 ∷ 10 ∷ 0 ∷ 0 ∷ 0 ∷ []

abbrev sa : List ℕ
sa = 83 ∷ 65 ∷ 245 ∷ 1 ∷ 0 ∷ 0 ∷ []

abbrev nd : List ℕ
nd = 78 ∷ 68 ∷ 2 ∷ 1 ∷ 0 ∷ 0 ∷ 245 ∷ 1 ∷ 0 ∷ 0 ∷ []

abbrev en : List ℕ
en = 69 ∷ 78 ∷ []

-- no sample is allowed
abbrev none : Limits
none = record { nodes = 0; edges = 0; sites = 0; mutations = 0; samples = 0 }

abbrev tables : Tables
tables = record {
  nodes = record { time = 258 ∷ []; birth = 501 ∷ []; population = 0 ∷ [] };
  edges = record { left = []; right = []; parent = []; child = [] };
  sites = record { position = []; ancestral = [] };
  muts = record { site = []; node = []; derived = [] };
}

-- the same with the population 7
abbrev stocked : Tables
stocked = record {
  nodes = record { time = 258 ∷ []; birth = 501 ∷ []; population = 7 ∷ [] };
  edges = tables.edges;
  sites = tables.sites;
  muts = tables.muts;
}

pub record ByHand : Type 0 where
  pub empty : form_then (form 2 stored_limits) [] done ≡ answer 32 0
  pub lone_byte : form_then (form 2 stored_limits) (83 ∷ []) done ≡ answer 32 0
  pub no_first : form_then (form 2 stored_limits) en done ≡ answer 31 0
  pub first_cut : form_then (form 2 stored_limits) (83 ∷ 81 ∷ 10 ∷ 0 ∷ 0 ∷ []) done ≡ answer 32 0
  pub no_end : form_then (form 2 stored_limits) (sq ++ sa) done ≡ answer 32 12
  pub lone_last : form_then (form 2 stored_limits) (sq ++ (sa ++ (83 ∷ []))) done ≡ answer 32 12
  pub cut : form_then (form 2 stored_limits) (sq ++ (sa ++ (83 ∷ 65 ∷ 1 ∷ []))) done ≡ answer 32 12
  pub out_of_order : form_then (form 2 stored_limits) (sq ++ (nd ++ (sa ++ en))) done ≡ answer 31 16
  pub follows : form_then (form 2 stored_limits) (sq ++ (sa ++ (nd ++ (en ++ (10 ∷ []))))) done ≡ answer 33 24
  -- one row more than the limit, "even where its fields are cut"
  pub over : form_then (form 2 none) (sq ++ (83 ∷ 65 ∷ [])) done ≡ answer 34 6
  pub accepted : form_then (form 2 stored_limits) (sq ++ (sa ++ (nd ++ en))) done ≡ done
  pub samples : samples_in (found 2 stored_limits (sq ++ (sa ++ (nd ++ en)))) ≡ 501 ∷ []
  pub rows : tables_in (found 2 stored_limits (sq ++ (sa ++ (nd ++ en)))) ≡ tables
  pub back : written 2 stored_limits 10 tables (501 ∷ []) ≡ sq ++ (sa ++ (nd ++ en))
  -- a population is refused, also where there is no room
  pub populated : write_answer 2 stored_limits 10 stocked (501 ∷ []) 24 ≡ answer 38 0
  pub roomless : write_answer 2 stored_limits 10 stocked (501 ∷ []) 0 ≡ answer 38 0
  pub unpopulated : write_answer 2 stored_limits 10 tables (501 ∷ []) 24 ≡ done

pub by_hand : ByHand
unfolding form_then form found samples_in tables_in written write_answer
by_hand = record {
  empty = refl;
  lone_byte = refl;
  no_first = refl;
  first_cut = refl;
  no_end = refl;
  lone_last = refl;
  cut = refl;
  out_of_order = refl;
  follows = refl;
  over = refl;
  accepted = refl;
  samples = refl;
  rows = refl;
  back = refl;
  populated = refl;
  roomless = refl;
  unpopulated = refl;
}
