-- The refusals of the single calls, 41 and 42, in block order: which of them is the first, told from the two lists.
use Rattle.std.specs.Prelude.{◌≡◌, Bool, ℕ, zero, suc, ◌<◌, ◌≤◌, leb, length}
use Rattle.std.proofs.Math.Path.{refl, ap}
use Rattle.std.proofs.Common.{sym, ◌∙◌, arith, leb-true, leb-false}
use Rattle.std.proofs.Math.Bool.{true, false}
use mathlib.Core.List.{List, [], ◌∷◌, ◌++◌, map}
use Rattle.meaning.specs.Words.{at, mem, each}
use Rattle.meaning.specs.Rows.{Tables}
use Rattle.meaning.specs.Answer.{Answer, Stated, answer, done, accepted, refusal_of}
use Rattle.meaning.specs.Allele.{stated}
use Rattle.meaning.specs.Panel.{first_refused}
use Rattle.meaning.specs.declared.Refusal.{Refusal}
use Rattle.meaning.specs.declared.Refusal.TheVariants.{NoSite, NoBirth}
use Rattle.meaning.specs.Answer.{Checked}
use Rattle.std.specs.Prelude.{Ok, Err}
use Rattle.alleles.specs.Call.{read_allele, no_site, no_birth, reads}

-- what the single calls answer, in block order, of tables that the check does not refuse
unfoldable pub readings : ℕ → Tables → List ℕ → List ℕ → List Stated
unfolding each read_allele
readings L T sites fish = each (λ b. map (λ i. read_allele L T i b) sites) fish

-- every site is there and every fish is known
pub record AllThere (most : ℕ) (birth sites fish : List ℕ) : Type 0 where
  pub sites_there : (j : ℕ) → j < length sites → at sites j < most
  pub fish_known : (a : ℕ) → a < length fish → mem (at fish a) birth ≡ true

-- the first refusal in block order, for all tables with so many sites and these births
pub record FirstIs (most : ℕ) (birth sites fish : List ℕ) (x : Refusal) : Type 0 where
  pub refused : (L : ℕ) (T : Tables) → length T.sites.position ≡ most → T.nodes.birth ≡ birth → (rest : Answer) → first_refused (readings L T sites fish) rest ≡ refusal_of x

-- what is told of two lists that are not empty
abbrev pub ListsTold : ℕ → List ℕ → List ℕ → List ℕ → Checked → Type 0
ListsTold most birth sites fish (Ok _) = AllThere most birth sites fish
ListsTold most birth sites fish (Err x) = FirstIs most birth sites fish x

-- ---- the first refusal of a list of answers

module _ (s : Stated) (l : List Stated) (rest : Answer) where
  goes_on : accepted s.answer ≡ true → first_refused (s ∷ l) rest ≡ first_refused l rest
  unfolding first_refused
  goes_on e = ap (λ (t : Bool). elim t [ true ↦ first_refused l rest | false ↦ s.answer ]) e

  stops : accepted s.answer ≡ false → first_refused (s ∷ l) rest ≡ s.answer
  unfolding first_refused
  stops e = ap (λ (t : Bool). elim t [ true ↦ first_refused l rest | false ↦ s.answer ]) e

first_app : (l m : List Stated) (rest : Answer) → first_refused (l ++ m) rest ≡ first_refused l (first_refused m rest)
unfolding first_refused
first_app [] m rest = refl
first_app (s ∷ l) m rest = go (accepted s.answer) refl (first_app l m rest)
  where
    go : (t : Bool) → accepted s.answer ≡ t → first_refused (l ++ m) rest ≡ first_refused l (first_refused m rest) → first_refused (s ∷ (l ++ m)) rest ≡ first_refused (s ∷ l) (first_refused m rest)
    go true e ih = goes_on s (l ++ m) rest e ∙ ih ∙ sym (goes_on s l (first_refused m rest) e)
    go false e ih = stops s (l ++ m) rest e ∙ sym (stops s l (first_refused m rest) e)

-- ---- one single call

module _ (L : ℕ) (T : Tables) where
  abbrev most : ℕ
  most = length T.sites.position

  abbrev birth : List ℕ
  birth = T.nodes.birth

  abbrev single : ℕ → ℕ → Stated
  single i b = read_allele L T i b

  -- no such site: 41, whatever the fish
  single_no_site : (i b : ℕ) (l : List Stated) (rest : Answer) → most ≤ i → first_refused (single i b ∷ l) rest ≡ answer 41 0
  unfolding accepted
  single_no_site i b l rest h =
      let e : (single i b).answer ≡ answer 41 0 = ap (λ (s : Stated). s.answer) (no_site L T i b h) in
      stops (single i b) l rest (ap accepted e) ∙ e

  single_no_birth : (i b : ℕ) (l : List Stated) (rest : Answer) → i < most → mem b birth ≡ false → first_refused (single i b ∷ l) rest ≡ answer 42 0
  unfolding accepted
  single_no_birth i b l rest h m =
      let e : (single i b).answer ≡ answer 42 0 = ap (λ (s : Stated). s.answer) (no_birth L T i b h m) in
      stops (single i b) l rest (ap accepted e) ∙ e

  single_there : (i b : ℕ) (l : List Stated) (rest : Answer) → i < most → mem b birth ≡ true → first_refused (single i b ∷ l) rest ≡ first_refused l rest
  unfolding accepted stated
  single_there i b l rest h m =
      let e : (single i b).answer ≡ done = ap (λ (s : Stated). s.answer) (reads L T i b h m) in
      goes_on (single i b) l rest (ap accepted e)

  -- ---- the calls of one fish

  module _ (b : ℕ) where
    abbrev row : List ℕ → List Stated
    row sites = map (λ i. single i b) sites

    -- a known fish, all sites there
    row_there : (sites : List ℕ) (rest : Answer) → mem b birth ≡ true → ((j : ℕ) → j < length sites → at sites j < most) → first_refused (row sites) rest ≡ rest
    unfolding first_refused
    row_there [] rest m h = refl
    row_there (i ∷ l) rest m h = single_there i b (row l) rest (h 0 (omega arith)) m ∙ row_there l rest m (λ j k. h (suc j) (omega arith))

    -- a known fish, some site missing
    row_no_site : (sites : List ℕ) (rest : Answer) (j : ℕ) → mem b birth ≡ true → j < length sites → most ≤ at sites j → first_refused (row sites) rest ≡ answer 41 0
    row_no_site [] rest j m k h = absurd (omega arith)
    row_no_site (i ∷ l) rest zero m k h = single_no_site i b (row l) rest h
    row_no_site (i ∷ l) rest (suc j) m k h = go (leb most i) refl (row_no_site l rest j m (omega arith) h)
      where
        go : (t : Bool) → leb most i ≡ t → first_refused (row l) rest ≡ answer 41 0 → first_refused (row (i ∷ l)) rest ≡ answer 41 0
        go true e ih = single_no_site i b (row l) rest (leb-true most i e)
        go false e ih = single_there i b (row l) rest (leb-false most i e) m ∙ ih

  -- ---- the calls of all fish

  abbrev all : List ℕ → List ℕ → List Stated
  all sites fish = readings L T sites fish

  fish_then : (sites : List ℕ) (b : ℕ) (fish : List ℕ) (rest : Answer) → first_refused (all sites (b ∷ fish)) rest ≡ first_refused (row b sites) (first_refused (all sites fish) rest)
  unfolding readings each
  fish_then sites b fish rest = first_app (row b sites) (all sites fish) rest

  first_no_site : (i : ℕ) (sites : List ℕ) (b : ℕ) (fish : List ℕ) (rest : Answer) → most ≤ i → first_refused (all (i ∷ sites) (b ∷ fish)) rest ≡ answer 41 0
  first_no_site i sites b fish rest h = fish_then (i ∷ sites) b fish rest ∙ single_no_site i b (row b sites) (first_refused (all (i ∷ sites) fish) rest) h

  first_no_birth : (i : ℕ) (sites : List ℕ) (b : ℕ) (fish : List ℕ) (rest : Answer) → i < most → mem b birth ≡ false → first_refused (all (i ∷ sites) (b ∷ fish)) rest ≡ answer 42 0
  first_no_birth i sites b fish rest h m = fish_then (i ∷ sites) b fish rest ∙ single_no_birth i b (row b sites) (first_refused (all (i ∷ sites) fish) rest) h m

  later_no_site : (sites : List ℕ) (b : ℕ) (fish : List ℕ) (rest : Answer) (j : ℕ) → mem b birth ≡ true → j < length sites → most ≤ at sites j → first_refused (all sites (b ∷ fish)) rest ≡ answer 41 0
  later_no_site sites b fish rest j m k h = fish_then sites b fish rest ∙ row_no_site b sites (first_refused (all sites fish) rest) j m k h

  -- all sites there, some fish unknown
  pub later_no_birth : (i : ℕ) (sites fish : List ℕ) (rest : Answer) (a : ℕ) → ((j : ℕ) → j < length (i ∷ sites) → at (i ∷ sites) j < most) → a < length fish → mem (at fish a) birth ≡ false → first_refused (all (i ∷ sites) fish) rest ≡ answer 42 0
  later_no_birth i sites [] rest a h k m = absurd (omega arith)
  later_no_birth i sites (b ∷ fish) rest zero h k m = first_no_birth i sites b fish rest (h 0 (omega arith)) m
  later_no_birth i sites (b ∷ fish) rest (suc a) h k m = go (mem b birth) refl (later_no_birth i sites fish rest a h (omega arith) m)
    where
      go : (t : Bool) → mem b birth ≡ t → first_refused (all (i ∷ sites) fish) rest ≡ answer 42 0 → first_refused (all (i ∷ sites) (b ∷ fish)) rest ≡ answer 42 0
      go true e ih = fish_then (i ∷ sites) b fish rest ∙ row_there b (i ∷ sites) (first_refused (all (i ∷ sites) fish) rest) e h ∙ ih
      go false e ih = first_no_birth i sites b fish rest (h 0 (omega arith)) e

  -- all there: no refusal
  pub all_there : (sites fish : List ℕ) (rest : Answer) → ((j : ℕ) → j < length sites → at sites j < most) → ((a : ℕ) → a < length fish → mem (at fish a) birth ≡ true) → first_refused (all sites fish) rest ≡ rest
  unfolding readings each first_refused
  all_there sites [] rest h k = refl
  all_there sites (b ∷ fish) rest h k =
      fish_then sites b fish rest
      ∙ row_there b sites (first_refused (all sites fish) rest) (k 0 (omega arith)) h
      ∙ all_there sites fish rest h (λ a l. k (suc a) (omega arith))

-- ---- the same of lists that are not empty, by their cells

module _ (most : ℕ) (birth : List ℕ) where
  pub at_first_site : (sites fish : List ℕ) → 0 < length sites → 0 < length fish → most ≤ at sites 0 → FirstIs most birth sites fish NoSite
  at_first_site [] fish p q h = absurd (omega arith)
  at_first_site (i ∷ sites) [] p q h = absurd (omega arith)
  at_first_site (i ∷ sites) (b ∷ fish) p q h = record { refused = λ L T m e rest. first_no_site L T i sites b fish rest (omega arith) }

  pub at_first_fish : (sites fish : List ℕ) → 0 < length sites → 0 < length fish → at sites 0 < most → mem (at fish 0) birth ≡ false → FirstIs most birth sites fish NoBirth
  at_first_fish [] fish p q h k = absurd (omega arith)
  at_first_fish (i ∷ sites) [] p q h k = absurd (omega arith)
  at_first_fish (i ∷ sites) (b ∷ fish) p q h k = record { refused = λ L T m e rest. first_no_birth L T i sites b fish rest (omega arith) (ap (mem b) e ∙ k) }

  pub at_later_site : (sites fish : List ℕ) (j : ℕ) → 0 < length fish → mem (at fish 0) birth ≡ true → j < length sites → most ≤ at sites j → FirstIs most birth sites fish NoSite
  at_later_site sites [] j p m k h = absurd (omega arith)
  at_later_site sites (b ∷ fish) j p m k h = record { refused = λ L T n e rest. later_no_site L T sites b fish rest j (ap (mem b) e ∙ m) k (omega arith) }

  pub at_later_fish : (sites fish : List ℕ) (a : ℕ) → 0 < length sites → ((j : ℕ) → j < length sites → at sites j < most) → a < length fish → mem (at fish a) birth ≡ false → FirstIs most birth sites fish NoBirth
  at_later_fish [] fish a p h k m = absurd (omega arith)
  at_later_fish (i ∷ sites) fish a p h k m = record { refused = λ L T n e rest. later_no_birth L T i sites fish rest a (λ j l. omega (arith, h j l)) k (ap (mem (at fish a)) e ∙ m) }
