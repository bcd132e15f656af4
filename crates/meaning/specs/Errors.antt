-- 01, "Errors that look right": each of the five told from the right definition on a small case.
use Rattle.std.specs.Prelude.{◌≡◌, refl, Bool, true, false, not, List, [], ◌∷◌, map, ℕ, eqb, leb, replicate}
use Rattle.std.proofs.Math.Option.{Option, none, some}
use Rattle.meaning.specs.Words.{and, or, mem, count, filter, index_of, any_below, lex, sort}
use Rattle.meaning.specs.Rows.{Tables, Node, Edge, Record, births, record_of, time_of}
use Rattle.meaning.specs.Forest.{Rules, parent_in, reached, feeds, stands, drawn}
use Rattle.meaning.specs.Answer.{answer, limits, put}
use Rattle.meaning.specs.Clean.{stands_at, forest_at, others, clean, cleaned, node_map, cleaning}
use Rattle.meaning.specs.Listing.{listing}

abbrev pub samples : List ℕ
samples = 501 ∷ 502 ∷ []

-- ---- "Keeping 301 as parent of 401 over [4,6) because it stands elsewhere."

unfoldable pub stands_somewhere : Record → List ℕ → ℕ → Bool
unfolding any_below stands_at stands
stands_somewhere R S b = any_below (λ x. stands_at stands R S x b) R.len

pub record Elsewhere : Type 0 where
  pub wrong : drawn (parent_in (record_of 10 listing).edges 4) (stands_somewhere (record_of 10 listing) samples) 401 ≡ some 301
  pub right : forest_at stands (record_of 10 listing) samples 4 401 ≡ none

pub elsewhere : Elsewhere
unfolding stands_somewhere forest_at stands drawn parent_in record_of
elsewhere = record { wrong = refl; right = refl }

-- ---- "Moving a mutation by the node map: the last one above would go to row 2."

pub record ByMap : Type 0 where
  -- the last mutation is on input row 2
  pub wrong : node_map stands 10 listing samples ≡ 0 ∷ 1 ∷ 2 ∷ 3 ∷ 4294967295 ∷ []
  pub right : (cleaned stands 10 listing samples).muts.node ≡ 2 ∷ 3 ∷ 0 ∷ []

pub by_map : ByMap
unfolding node_map cleaned stands
by_map = record { wrong = refl; right = refl }

-- ---- "Dropping a sample that has a single child."

unfoldable pub dropping : Rules
unfolding reached mem count feeds
dropping N P S u =
    or
    (and (mem u S) (not (eqb (count (feeds P (reached P S) u) N) 1)))
    (leb 2 (count (feeds P (reached P S) u) N))

pub record SingleChild : Type 0 where
  pub wrong : (cleaned dropping 10 listing (501 ∷ 401 ∷ [])).edges.left ≡ []
  pub right : (cleaned stands 10 listing (501 ∷ 401 ∷ [])).edges.left ≡ 0 ∷ []

pub single_child : SingleChild
unfolding cleaned dropping stands
single_child = record { wrong = refl; right = refl }

-- ---- "Ordering ties by row: a cleaning renumbers rows, so demand 3 breaks."

-- 9 and 5 are of one time; 9 is the earlier row
abbrev pub tied : Record
tied = record {
  len = 10;
  nodes = map
      (λ (b : ℕ). record { time = elim (leb b 4) [ true ↦ 0 | false ↦ 1 ]; birth = b; population = 0 })
      (1 ∷ 2 ∷ 3 ∷ 4 ∷ 9 ∷ 5 ∷ []);
  edges = edge 9 1 ∷ edge 9 2 ∷ edge 5 3 ∷ edge 5 4 ∷ [];
  sites = [];
  muts = [];
}
  where
    edge : ℕ → ℕ → Edge
    edge p c = record { left = 0; right = 10; parent = p; child = c }

abbrev pub four : List ℕ
four = 1 ∷ 2 ∷ 3 ∷ 4 ∷ []

-- 5 may be listed too: it is named by nothing later
abbrev pub five : List ℕ
five = 1 ∷ 2 ∷ 3 ∷ 4 ∷ 5 ∷ []

unfoldable pub by_row : Record → List ℕ → List ℕ
unfolding sort lex filter mem any_below stands_at stands time_of births index_of
by_row R S =
    sort
    (λ a b.
    lex
    (time_of R.nodes a ∷ index_of a (births R.nodes) ∷ [])
    (time_of R.nodes b ∷ index_of b (births R.nodes) ∷ []))
    (filter (λ b. and (not (mem b S)) (any_below (λ x. stands_at stands R S x b) R.len)) (births R.nodes))

pub record Ties : Type 0 where
  -- cleaned at the end only, and cleaned before
  pub wrong_once : by_row tied four ≡ 9 ∷ 5 ∷ []
  pub wrong_twice : by_row (clean stands five tied) four ≡ 5 ∷ 9 ∷ []
  pub right_once : others stands tied four ≡ 5 ∷ 9 ∷ []
  pub right_twice : others stands (clean stands five tied) four ≡ 5 ∷ 9 ∷ []

pub ties : Ties
unfolding by_row others clean stands
ties = record { wrong_once = refl; wrong_twice = refl; right_once = refl; right_twice = refl }

-- ---- "Writing rows and then finding no room."

-- room for the listing's result, but one cell too few in the map
abbrev pub lent : ℕ → List ℕ
lent n = replicate n 7

abbrev pub out : Tables
out = record {
  nodes = record { time = lent 4; birth = lent 4; population = lent 4 };
  edges = record { left = lent 6; right = lent 6; parent = lent 6; child = lent 6 };
  sites = record { position = lent 2; ancestral = lent 2 };
  muts = record { site = lent 3; node = lent 3; derived = lent 3 };
}

pub record NoRoom : Type 0 where
  pub wrong : put (cleaned stands 10 listing samples).nodes.time out.nodes.time ≡ 0 ∷ 0 ∷ 1 ∷ 2 ∷ []
  pub refused : (cleaning stands limits 10 listing samples out (lent 4) 4).answer ≡ answer 13 6
  pub right : (cleaning stands limits 10 listing samples out (lent 4) 4).cells ≡ out
  pub map_too : (cleaning stands limits 10 listing samples out (lent 4) 4).map ≡ lent 4

pub no_room : NoRoom
unfolding put cleaned cleaning stands
no_room = record { wrong = refl; refused = refl; right = refl; map_too = refl }
