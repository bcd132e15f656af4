-- Answers: a number and a row, the limits, the room, and what lent cells hold afterwards.
use Rattle.std.specs.Prelude.{Bool, true, false, not, List, [], ◌∷◌, ◌++◌, ℕ, min, eqb, ltb, length, drop, Option, Some, None, Result, Ok, Err}
use Rattle.meaning.specs.Words.{or, any, lowest}
use Rattle.meaning.specs.declared.Refusal.{Refusal}
use Rattle.meaning.specs.declared.Refusal.TheVariants.{Ragged, TooMany, Length, BirthRepeated, EdgeBroken, EdgeOrder, EdgeShared, SiteBroken, MutationBroken, MutationAbove, SampleUnknown, SampleRepeated, NoRoom, BatchRagged, BatchTooMany, BatchBirth, BatchEdge, BatchShared, BatchMutation, BatchAbove, MarkWrong, BytesEnd, BytesFollow, RowsOver, EdgeWide, MutationWide, Populated, NoSite, NoBirth}
use Rattle.meaning.specs.declared.Told.{Told}

-- "An answer holds the number, the row": 0 and 0 where all is done
pub record Answer : Type 0 where
  pub number : ℕ
  pub row : ℕ

abbrev pub answer : ℕ → ℕ → Answer
answer n r = record { number = n; row = r }

abbrev pub done : Answer
done = answer 0 0

-- ---- "Most rows"

pub record Limits : Type 0 where
  pub nodes : ℕ
  pub edges : ℕ
  pub sites : ℕ
  pub mutations : ℕ
  pub samples : ℕ

abbrev pub limits : Limits
limits = record { nodes = 1024; edges = 4096; sites = 512; mutations = 1024; samples = 256 }

-- what a stored file may hold, and the room of the listing program: 01's own numbers, with a name of their own
abbrev pub stored_limits : Limits
stored_limits = record { nodes = 1024; edges = 4096; sites = 512; mutations = 1024; samples = 256 }

-- "The chromosome length L is 1 to 1,073,741,824."
abbrev pub longest : ℕ
longest = 1073741824

-- ---- "in this order; then the lowest row"

-- the answer n with row r where the test holds, and else what comes after
unfoldable pub refuse : Bool → ℕ → ℕ → Answer → Answer
refuse t n r rest = elim t [ true ↦ answer n r | false ↦ rest ]

-- the answer n with the lowest of m rows that is broken, and else what comes after
unfoldable pub refuse_row : ℕ → (ℕ → Bool) → ℕ → Answer → Answer
unfolding refuse lowest
refuse_row n broken m rest = refuse (ltb (lowest broken m) m) n (lowest broken m) rest

-- the answer is 0
unfoldable pub accepted : Answer → Bool
accepted a = eqb a.number 0

-- "columns of one input table differ in length"
unfoldable pub ragged : List (List ℕ) → Bool
unfolding any
ragged [] = false
ragged (c ∷ l) = any (λ d. not (eqb (length d) (length c))) l

-- ---- lent output

-- "Room is the shortest column of an output table."
unfoldable pub room : List (List ℕ) → ℕ
room [] = 0
room (c ∷ []) = length c
room (c ∷ d ∷ l) = min (length c) (room (d ∷ l))

-- 13: "the exact result doesn't fit the lent output, or passes its table's limit"
unfoldable pub lacks : ℕ → List (List ℕ) → ℕ → Bool
unfolding room
lacks most out need = or (ltb most need) (ltb (room out) need)

-- "the result stands at the front of each output, and cells past it keep their values"
unfoldable pub put : {A : Type 0} → List A → List A → List A
put new old = new ++ drop (length new) old

-- "after a refusal .. all lent cells keep their values"
unfoldable pub left_by : Answer → List ℕ → List ℕ → List ℕ
unfolding accepted put
left_by a new old = elim (accepted a) [ true ↦ put new old | false ↦ old ]

-- ---- the numbers and rows of the code's answers

abbrev pub refusal_of : Refusal → Answer
refusal_of (Ragged t) = answer 1 t
refusal_of (TooMany t) = answer 2 t
refusal_of Length = answer 3 0
refusal_of (BirthRepeated r) = answer 4 r
refusal_of (EdgeBroken r) = answer 5 r
refusal_of (EdgeOrder r) = answer 6 r
refusal_of (EdgeShared r) = answer 7 r
refusal_of (SiteBroken r) = answer 8 r
refusal_of (MutationBroken r) = answer 9 r
refusal_of (MutationAbove r) = answer 10 r
refusal_of (SampleUnknown r) = answer 11 r
refusal_of (SampleRepeated r) = answer 12 r
refusal_of (NoRoom t) = answer 13 t
refusal_of (BatchRagged t) = answer 20 t
refusal_of (BatchTooMany t) = answer 21 t
refusal_of (BatchBirth r) = answer 22 r
refusal_of (BatchEdge r) = answer 23 r
refusal_of (BatchShared r) = answer 24 r
refusal_of (BatchMutation r) = answer 25 r
refusal_of (BatchAbove r) = answer 26 r
refusal_of (MarkWrong o) = answer 31 o
refusal_of (BytesEnd o) = answer 32 o
refusal_of (BytesFollow o) = answer 33 o
refusal_of (RowsOver o) = answer 34 o
refusal_of (EdgeWide r) = answer 35 r
refusal_of (MutationWide r) = answer 36 r
refusal_of (Populated r) = answer 38 r
refusal_of NoSite = answer 41 0
refusal_of NoBirth = answer 42 0

-- number and row as the code tells them
abbrev pub told_of : Told → Answer
told_of t = answer t.number t.row

-- the check's answer: nothing, or a refusal
abbrev pub Checked : Type 0
Checked = Result (Unit {0}) Refusal

abbrev pub checked_of : Checked → Answer
checked_of (Ok _) = done
checked_of (Err r) = refusal_of r

-- an allele's answer: a state, or, by a kind of its own, that the fish is missing there; "after a refusal all but number and row are 0"
pub record Stated : Type 0 where
  pub answer : Answer
  pub missing : Bool
  pub state : ℕ

-- a state is given
abbrev pub given : ℕ → Stated
given s = record { answer = done; missing = false; state = s }

-- the fish is missing: "the state byte is then 0"
abbrev pub absent : Stated
absent = record { answer = done; missing = true; state = 0 }

-- a refusal
abbrev pub unread : Answer → Stated
unread a = record { answer = a; missing = false; state = 0 }

-- the allele call's answer: a state, none where the fish is missing there, or a refusal
abbrev pub Allele : Type 0
Allele = Result (Option ℕ) Refusal

abbrev pub allele_of : Allele → Stated
allele_of (Ok (Some s)) = given s
allele_of (Ok None) = absent
allele_of (Err r) = unread (refusal_of r)
