-- The letter's third demand, said: one starting record, one run of batches, one last sample list, and cleanings in between or none.
use Rattle.std.specs.Prelude.{◌≡◌, true, List, [], ◌∷◌, ◌⊎◌, ℕ}
use Rattle.meaning.specs.Words.{mem}
use Rattle.meaning.specs.Rows.{Tables}
use Rattle.meaning.specs.Forest.{Rules}
use Rattle.meaning.specs.Answer.{Limits, done}
use Rattle.meaning.specs.Clean.{cleaned, clean_answer}
use Rattle.meaning.specs.Join.{BatchTables, joined, join_answer}

-- what is lent for a cleaning: tables 1 to 4, the node map, and from C a block of so many cells (a call that lends none is as one with four)
pub record Lent : Type 0 where
  pub out : Tables
  pub map : List ℕ
  pub cells : ℕ

-- and for a join, which has no map
pub record LentJoin : Type 0 where
  pub out : Tables
  pub cells : ℕ

-- a batch is joined, in both histories, each with output lent to it; or the one history is cleaned for a list of samples
pub data Call : Type 0 where
  joins : BatchTables → LentJoin → LentJoin → Call
  cleans : List ℕ → Lent → Call

-- the batch has the birth number b in one of its columns that name fish
pub data Names (B : BatchTables) (b : ℕ) : Type 0 where
  as_parent : mem b B.edges.parent ≡ true → Names B b
  as_child : mem b B.edges.child ≡ true → Names B b
  as_mutated : mem b B.muts.node ≡ true → Names B b

-- "that a later batch or a later sample list names"
abbrev pub NamedLater : List Call → List ℕ → ℕ → Type 0
NamedLater [] last b = mem b last ≡ true
NamedLater (joins B o p ∷ l) last b = Names B b ⊎ NamedLater l last b
NamedLater (cleans S o ∷ l) last b = (mem b S ≡ true) ⊎ NamedLater l last b

module _ (rule : Rules) (m : Limits) (L : ℕ) where
  -- "Clean after any batches you like": the tables before the last cleaning
  abbrev pub tidied : List Call → Tables → Tables
  tidied [] T = T
  tidied (joins B o p ∷ l) T = tidied l (joined L T B)
  tidied (cleans S o ∷ l) T = tidied l (cleaned rule L T S)

  -- "or only at the end"
  abbrev pub untouched : List Call → Tables → Tables
  untouched [] P = P
  untouched (joins B o p ∷ l) P = untouched l (joined L P B)
  untouched (cleans S o ∷ l) P = untouched l P

  -- "if no call is refused, and if each cleaning lists every fish then in the record that a later batch or a later sample list names";
  -- T and P are the tables of the two histories so far, and o and p what is lent to their last cleanings
  abbrev pub NotRefused : List Call → List ℕ → Lent → Lent → Tables → Tables → Type 0
  NotRefused [] last o p T P =
      (clean_answer rule m L T last o.out o.map o.cells ≡ done)
      × (clean_answer rule m L P last p.out p.map p.cells ≡ done)
  NotRefused (joins B q r ∷ l) last o p T P =
      (join_answer m L T B q.out q.cells ≡ done)
      × (join_answer m L P B r.out r.cells ≡ done)
      × NotRefused l last o p (joined L T B) (joined L P B)
  NotRefused (cleans S q ∷ l) last o p T P =
      (clean_answer rule m L T S q.out q.map q.cells ≡ done)
      × ((b : ℕ) → mem b T.nodes.birth ≡ true → NamedLater l last b → mem b S ≡ true)
      × NotRefused l last o p (cleaned rule L T S) P
