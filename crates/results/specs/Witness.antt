-- The premises can be met: 01's listing is cleaned and joined with no refusal, and the theorems then say what they say of it.
use Rattle.std.specs.Prelude.{◌≡◌, refl, List, [], ◌∷◌, true, ℕ, ◌<◌, replicate}
use Rattle.std.proofs.Common.{⊎_elim, arith}
use Rattle.meaning.specs.Words.{mem}
use Rattle.meaning.specs.Rows.{Tables}
use Rattle.meaning.specs.Forest.{Ages, stands}
use Rattle.meaning.specs.Answer.{done, limits, accepted}
use Rattle.meaning.specs.Check.{check}
use Rattle.meaning.specs.Clean.{cleaned, clean_answer}
use Rattle.meaning.specs.Join.{joined, join_answer}
use Rattle.meaning.specs.Listing.{listing}
use Rattle.meaning.specs.Small.{spawn}
use Rattle.laws.specs.Members.{mem_cases, mem_nil}
use Rattle.laws.specs.Facts.{In, Distinct, nil, cons, All, also}
use Rattle.forest.specs.Profile.{stands_profile}
use Rattle.accepted.specs.Refusals.{Accepted}
use Rattle.accepted.specs.Records.{Young}
use Rattle.results.specs.Pairwise.{all_get}
use Rattle.results.specs.Cleaning.{cleaned_passes}
use Rattle.results.specs.Joining.{joined_passes}

-- room for the join's rows
abbrev lent : ℕ → List ℕ
lent n = replicate n 7

abbrev pub room : Tables
room = record {
  nodes = record { time = lent 7; birth = lent 7; population = lent 7 };
  edges = record { left = lent 9; right = lent 9; parent = lent 9; child = lent 9 };
  sites = record { position = lent 2; ancestral = lent 2 };
  muts = record { site = lent 5; node = lent 5; derived = lent 5 };
}

pub listing_cleans : Accepted (clean_answer stands limits 10 listing (501 ∷ 502 ∷ []) room (replicate 5 7) 4)
unfolding accepted clean_answer stands
listing_cleans = refl

pub listing_joins : Accepted (join_answer limits 10 listing spawn room 4)
unfolding accepted join_answer
listing_joins = refl

pub listing_young : Young listing.nodes
listing_young = all_get {Q = λ t. t < Ages} 0 listing.nodes.time (also (omega arith) (also (omega arith) (also (omega arith) (also (omega arith) (also (omega arith) All.done)))))

abbrev pub two : List ℕ
two = 301 ∷ 502 ∷ []

two_once : Distinct two
two_once = cons {a = 301} {l = 502 ∷ []} (unfold mem in refl) (cons {a = 502} {l = []} (unfold mem in refl) nil)

-- what holds of each of the two holds of all of them
each_of_two : (l : List ℕ) → mem 301 l ≡ true → mem 502 l ≡ true → (b : ℕ) → In two b → mem b l ≡ true
each_of_two l p q b h = ⊎_elim
    (λ (e : b ≡ 301). rw e p)
    (λ (k : mem b (502 ∷ []) ≡ true). ⊎_elim (λ (e : b ≡ 502). rw e q) (λ (n : mem b [] ≡ true). absurd (mem_nil b n)) (mem_cases b 502 [] k))
    (mem_cases b 301 (502 ∷ []) h)

-- the cleaned listing passes the check for two of its nodes, one of them no sample of the cleaning
pub cleaned_listing : check limits 10 (cleaned stands 10 listing (501 ∷ 502 ∷ [])) two ≡ done
cleaned_listing = cleaned_passes stands stands_profile limits 10 listing (501 ∷ 502 ∷ []) room (replicate 5 7) 4 listing_cleans listing_young two (omega arith) two_once
    (each_of_two (cleaned stands 10 listing (501 ∷ 502 ∷ [])).nodes.birth (unfold mem cleaned stands in refl) (unfold mem cleaned stands in refl))

-- and so does the listing with a batch of two births
pub joined_listing : check limits 10 (joined 10 listing spawn) two ≡ done
joined_listing = joined_passes limits 10 listing spawn room 4 listing_joins two (omega arith) two_once (each_of_two (joined 10 listing spawn).nodes.birth (unfold mem joined in refl) (unfold mem joined in refl))
