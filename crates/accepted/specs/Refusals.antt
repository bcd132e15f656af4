-- One refusal of a chain: an answer 0 tells that the test failed and the rest answered 0, and a failed test leaves the rest.
use Rattle.std.specs.Prelude.{◌≡◌, refl, Bool, true, false, not, List, [], ◌∷◌, ℕ, ◌<◌, ◌≤◌, eqb, ltb, length}
use Rattle.std.proofs.Common.{ap, arith, eqb-true, eq-eqb, ltb-false, le-ltb}
use Rattle.meaning.specs.Words.{any, lowest}
use Rattle.meaning.specs.Answer.{Answer, answer, done, refuse, refuse_row, accepted, ragged}
use Rattle.laws.specs.Bools.{clash, not_no}
use Rattle.laws.specs.Counting.{none_passes, lowest_none}
use Rattle.laws.specs.Facts.{All}
use Rattle.laws.specs.Facts.All.{also}

-- the answer is 0
abbrev pub Accepted : Answer → Type 0
Accepted a = accepted a ≡ true

pub of_done : (a : Answer) → a ≡ done → Accepted a
unfolding accepted
of_done a e = rw e

-- a refusal's number is not 0
pub refused : (n r : ℕ) → 0 < n → Accepted (answer n r) → ⊥
unfolding accepted
refused n r l h = omega (arith, eqb-true n 0 h)

-- ---- one test

pub passed : (t : Bool) (n r : ℕ) (rest : Answer) → 0 < n → Accepted (refuse t n r rest) → (t ≡ false) × Accepted rest
unfolding refuse
passed true n r rest l h = absurd (refused n r l h)
passed false n r rest l h = (refl, h)

pub pass : (t : Bool) (n r : ℕ) (rest : Answer) → t ≡ false → refuse t n r rest ≡ rest
unfolding refuse
pass t n r rest e = rw (e, refuse)

-- ---- one test of each row

pub passed_rows : (n : ℕ) (broken : ℕ → Bool) (m : ℕ) (rest : Answer) → 0 < n → Accepted (refuse_row n broken m rest) → ((j : ℕ) → j < m → broken j ≡ false) × Accepted rest
unfolding refuse_row
passed_rows n broken m rest l h =
    let p : _ = passed (ltb (lowest broken m) m) n (lowest broken m) rest l h in
    (λ j k. none_passes broken m j (ltb-false (lowest broken m) m p.0) k, p.1)

pub pass_rows : (n : ℕ) (broken : ℕ → Bool) (m : ℕ) (rest : Answer) → ((j : ℕ) → j < m → broken j ≡ false) → refuse_row n broken m rest ≡ rest
unfolding refuse_row
pass_rows n broken m rest h = pass (ltb (lowest broken m) m) n (lowest broken m) rest (le-ltb (lowest broken m) m (omega (arith, lowest_none broken m h)))

-- ---- columns of one length

-- what holds of every member tells what it implies of every member
pub each_of : {A : Type 0} {P Q : A → Type 0} → ((a : A) → P a → Q a) → {l : List A} → All P l → All Q l
each_of f All.done = All.done
each_of f (also {a = a} p h) = also (f a p) (each_of f h)

pub first_of-is : {A : Type 0} {Q : A → Type 0} {a : A} {l : List A} → All Q (a ∷ l) → Q a
first_of-is (also p h) = p

pub rest_of : {A : Type 0} {Q : A → Type 0} {a : A} {l : List A} → All Q (a ∷ l) → All Q l
rest_of (also p h) = h

pub any_no : {A : Type 0} (f : A → Bool) (l : List A) → any f l ≡ false → All (λ a. f a ≡ false) l
unfolding any
any_no f [] h = All.done
any_no f (a ∷ l) h = go (f a) refl (λ k. any_no f l k)
  where
    go : (t : Bool) → f a ≡ t → (any f l ≡ false → All (λ a. f a ≡ false) l) → All (λ a. f a ≡ false) (a ∷ l)
    go true e ih = absurd (clash refl (rw (e, any) at h))
    go false e ih = also e (ih (rw (e, any) at h))

pub no_any : {A : Type 0} (f : A → Bool) (l : List A) → All (λ a. f a ≡ false) l → any f l ≡ false
unfolding any
no_any f [] All.done = refl
no_any f (a ∷ l) (also e h) = rw (e, any) (no_any f l h)

-- each column of a table is as long as its first
abbrev pub Even : List ℕ → List (List ℕ) → Type 0
Even c l = All (λ d. length d ≡ length c) l

even_of : (c : List ℕ) (l : List (List ℕ)) → ragged (c ∷ l) ≡ false → Even c l
unfolding ragged
even_of c l h = each_of (λ d e. eqb-true (length d) (length c) (not_no (eqb (length d) (length c)) e)) (any_no (λ d. not (eqb (length d) (length c))) l h)

of_even : (c : List ℕ) (l : List (List ℕ)) → Even c l → ragged (c ∷ l) ≡ false
unfolding ragged
of_even c l h = no_any (λ d. not (eqb (length d) (length c))) l (each_of (λ d e. ap not (eq-eqb (length d) (length c) e)) h)

-- ---- the refusals of a table: columns that differ, too many rows, too little room

pub passed_even : (c : List ℕ) (l : List (List ℕ)) (n r : ℕ) (rest : Answer) → 0 < n → Accepted (refuse (ragged (c ∷ l)) n r rest) → Even c l × Accepted rest
passed_even c l n r rest z h = let p : _ = passed (ragged (c ∷ l)) n r rest z h in (even_of c l p.0, p.1)

pub pass_even : (c : List ℕ) (l : List (List ℕ)) (n r : ℕ) (rest : Answer) → Even c l → refuse (ragged (c ∷ l)) n r rest ≡ rest
pass_even c l n r rest h = pass (ragged (c ∷ l)) n r rest (of_even c l h)

pub passed_few : (most rows n r : ℕ) (rest : Answer) → 0 < n → Accepted (refuse (ltb most rows) n r rest) → (rows ≤ most) × Accepted rest
passed_few most rows n r rest z h = let p : _ = passed (ltb most rows) n r rest z h in (ltb-false most rows p.0, p.1)

pub pass_few : (most rows n r : ℕ) (rest : Answer) → rows ≤ most → refuse (ltb most rows) n r rest ≡ rest
pass_few most rows n r rest h = pass (ltb most rows) n r rest (le-ltb most rows h)
