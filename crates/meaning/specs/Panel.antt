-- M-100, "Alleles for a whole panel": the single calls of a list of sites and a list of fish, fish by fish, in two lent blocks of bytes.
use Rattle.std.specs.Prelude.{◌≡◌, refl, Bool, true, false, List, [], ◌∷◌, map, ℕ, ◌+◌, ◌*◌, ltb, length, Result, Ok, Err}
use Rattle.meaning.specs.Words.{each}
use Rattle.meaning.specs.Rows.{Tables}
use Rattle.meaning.specs.Answer.{Answer, Limits, Stated, answer, limits, done, refuse, accepted, room, left_by, refusal_of}
use Rattle.meaning.specs.Check.{check_then}
use Rattle.meaning.specs.Allele.{allele}
use Rattle.meaning.specs.Called.{packed}
use Rattle.meaning.specs.Listing.{listing}
use Rattle.meaning.specs.declared.Refusal.{Refusal}

-- "fish by fish, with the answers of the single calls": the cell of fish i and site j is i times the number of sites plus j
unfoldable pub singles : Limits → ℕ → Tables → List ℕ → List ℕ → List Stated
unfolding each allele
singles m L T sites fish = each (λ b. map (λ i. allele m L T i b) sites) fish

-- "If a single call would be refused, the whole answers as the first such in block order", and else what comes after
unfoldable pub first_refused : List Stated → Answer → Answer
unfolding accepted
first_refused [] rest = rest
first_refused (s ∷ l) rest = elim (accepted s.answer) [ true ↦ first_refused l rest | false ↦ s.answer ]

-- the bytes of the states, 0 where a fish is missing
abbrev pub state_bytes : List Stated → List ℕ
state_bytes l = map (λ (s : Stated). s.state) l

-- M-103: "a second lent block of 0 and 1 for missing"
unfoldable pub flag : Bool → ℕ
flag true = 1
flag false = 0

abbrev pub flag_bytes : List Stated → List ℕ
flag_bytes l = map (λ (s : Stated). flag s.missing) l

-- "Refusals: the table check 1 to 10, then 41 and 42 as met, then 13 with row 7", "also if the second block is short"
unfoldable pub panel_answer : Limits → ℕ → Tables → List ℕ → List ℕ → List ℕ → List ℕ → Answer
unfolding check_then first_refused singles refuse room
panel_answer m L T sites fish states flags =
    check_then m L T
    (first_refused (singles m L T sites fish)
    (refuse (ltb (room (states ∷ flags ∷ [])) (length (singles m L T sites fish))) 13 7 done))

-- all that the call gives and leaves: its answer, the bytes written in each block, and the blocks afterwards
pub record PanelOutcome : Type 0 where
  pub answer : Answer
  pub bytes : ℕ
  pub states : List ℕ
  pub flags : List ℕ

-- the code's answer, and the blocks as they are afterwards
abbrev pub Panel : Type 0
Panel = Result ℕ Refusal

abbrev pub panel_of : Panel → List ℕ → List ℕ → PanelOutcome
panel_of (Ok n) states flags = record { answer = done; bytes = n; states = states; flags = flags }
panel_of (Err r) states flags = record { answer = refusal_of r; bytes = 0; states = states; flags = flags }

-- "no byte is written" after a refusal
unfoldable pub bytes_by : Answer → List Stated → ℕ
unfolding accepted
bytes_by a cells = elim (accepted a) [ true ↦ length cells | false ↦ 0 ]

-- what an answer gives and leaves, where these are the cells
unfoldable pub panel_end : Answer → List Stated → List ℕ → List ℕ → PanelOutcome
unfolding bytes_by left_by flag
panel_end a cells states flags = record { answer = a; bytes = bytes_by a cells; states = left_by a (state_bytes cells) states; flags = left_by a (flag_bytes cells) flags }

-- the call
unfoldable pub panel : Limits → ℕ → Tables → List ℕ → List ℕ → List ℕ → List ℕ → PanelOutcome
unfolding panel_end panel_answer singles
panel m L T sites fish states flags = panel_end (panel_answer m L T sites fish states flags) (singles m L T sites fish) states flags

-- ---- as it is called from C: the answer as one number

pub record PanelCall : Type 0 where
  pub code : ℕ
  pub states : List ℕ
  pub flags : List ℕ

unfoldable pub panel_call : Limits → ℕ → Tables → List ℕ → List ℕ → List ℕ → List ℕ → PanelCall
unfolding panel packed
panel_call m L T sites fish states flags =
    let o : PanelOutcome = panel m L T sites fish states flags in
    record { code = packed o.answer; states = o.states; flags = o.flags }

-- ---- 01's listing, read so

-- three fish at both sites, one of them twice; cells past the block keep their values
pub listing_panel : panel limits 10 listing (1 ∷ 0 ∷ []) (502 ∷ 501 ∷ 502 ∷ []) (9 ∷ 9 ∷ 9 ∷ 9 ∷ 9 ∷ 9 ∷ 9 ∷ []) (9 ∷ 9 ∷ 9 ∷ 9 ∷ 9 ∷ 9 ∷ []) ≡ record {
  answer = done;
  bytes = 6;
  states = 84 ∷ 84 ∷ 71 ∷ 84 ∷ 84 ∷ 84 ∷ 9 ∷ [];
  flags = 0 ∷ 0 ∷ 0 ∷ 0 ∷ 0 ∷ 0 ∷ [];
}
unfolding panel
listing_panel = refl

-- an unknown fish in an earlier cell goes before a missing site in a later one
pub fish_first : panel limits 10 listing (0 ∷ 2 ∷ []) (7 ∷ 502 ∷ []) (9 ∷ []) (9 ∷ []) ≡ record { answer = answer 42 0; bytes = 0; states = 9 ∷ []; flags = 9 ∷ [] }
unfolding panel
fish_first = refl

-- and the other way round
pub site_first : panel limits 10 listing (0 ∷ 2 ∷ []) (502 ∷ 7 ∷ []) (9 ∷ []) (9 ∷ []) ≡ record { answer = answer 41 0; bytes = 0; states = 9 ∷ []; flags = 9 ∷ [] }
unfolding panel
site_first = refl

-- no fish: no single call, so nothing is looked up
pub no_fish : panel limits 10 listing (2 ∷ []) [] (9 ∷ []) [] ≡ record { answer = done; bytes = 0; states = 9 ∷ []; flags = [] }
unfolding panel
no_fish = refl

-- the second block is short
pub short_flags : panel limits 10 listing (1 ∷ 0 ∷ []) (502 ∷ []) (9 ∷ 9 ∷ []) (9 ∷ []) ≡ record { answer = answer 13 7; bytes = 0; states = 9 ∷ 9 ∷ []; flags = 9 ∷ [] }
unfolding panel
short_flags = refl
