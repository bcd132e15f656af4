-- Refusals in their order: what is passed, and what an accepted answer has passed.
use Rattle.std.specs.Prelude.{◌≡◌, refl, Bool, true, false, not, List, [], ◌∷◌, ℕ, ◌<◌, eqb, ltb, length}
use Rattle.std.proofs.Common.{arith, le-ltb, ltb-false, eqb-true, eq-eqb}
use Rattle.meaning.specs.Words.{any, lowest}
use Rattle.meaning.specs.Answer.{Answer, refuse, refuse_row, accepted, ragged}
use Rattle.laws.specs.Bools.{clash}
use Rattle.laws.specs.Counting.{lowest_none, none_passes}

pub refuse_no : {t : Bool} (n r : ℕ) (rest : Answer) → t ≡ false → refuse t n r rest ≡ rest
unfolding refuse
refuse_no n r rest e = rw (e, refuse)

pub refuse_yes : {t : Bool} (n r : ℕ) (rest : Answer) → t ≡ true → refuse t n r rest ≡ record { number = n; row = r }
unfolding refuse
refuse_yes n r rest e = rw (e, refuse)

-- what is accepted was not refused
pub passed : (t : Bool) (n r : ℕ) (rest : Answer) → eqb n 0 ≡ false → accepted (refuse t n r rest) ≡ true → (t ≡ false) × (accepted rest ≡ true)
unfolding refuse accepted
passed true n r rest z h = absurd (clash h z)
passed false n r rest z h = (refl, h)

-- no row is broken
pub row_no : (n m : ℕ) (broken : ℕ → Bool) (rest : Answer) → ((j : ℕ) → j < m → broken j ≡ false) → refuse_row n broken m rest ≡ rest
unfolding refuse_row
row_no n m broken rest h = refuse_no n (lowest broken m) rest (le-ltb (lowest broken m) m (omega (arith, lowest_none broken m h)))

pub row_passed : (n m : ℕ) (broken : ℕ → Bool) (rest : Answer) → eqb n 0 ≡ false → accepted (refuse_row n broken m rest) ≡ true → ((j : ℕ) → j < m → broken j ≡ false) × (accepted rest ≡ true)
unfolding refuse_row
row_passed n m broken rest z h =
    let p : _ = passed (ltb (lowest broken m) m) n (lowest broken m) rest z h in
    ((λ j l. none_passes broken m j (ltb-false (lowest broken m) m p.0) l), p.1)

-- ---- columns of one length

-- every column has n cells
pub data Even (n : ℕ) : List (List ℕ) → Type 0 where
  nil : Even n []
  cons : {c : List ℕ} {cs : List (List ℕ)} → length c ≡ n → Even n cs → Even n (c ∷ cs)

-- the first column, and those after it
pub even_head : {n : ℕ} {c : List ℕ} {cs : List (List ℕ)} → Even n (c ∷ cs) → (length c ≡ n) × Even n cs
even_head (cons e f) = (e, f)

even_any : {n : ℕ} {cs : List (List ℕ)} → Even n cs → any (λ d. not (eqb (length d) n)) cs ≡ false
unfolding any
even_any nil = refl
even_any {n} (cons {c = c} e f) = rw (eq-eqb (length c) n e, any) (even_any f)

any_even : (n : ℕ) (cs : List (List ℕ)) → any (λ d. not (eqb (length d) n)) cs ≡ false → Even n cs
unfolding any
any_even n [] h = nil
any_even n (c ∷ cs) h = go (eqb (length c) n) refl (any_even n cs)
  where
    go : (t : Bool) → eqb (length c) n ≡ t → (any (λ d. not (eqb (length d) n)) cs ≡ false → Even n cs) → Even n (c ∷ cs)
    go true e ih = cons (eqb-true (length c) n e) (ih (rw (e, any) at h))
    go false e ih = absurd (clash refl (rw (e, any) at h))

pub even_shape : (c : List ℕ) (cs : List (List ℕ)) → Even (length c) cs → ragged (c ∷ cs) ≡ false
unfolding ragged
even_shape c cs e = even_any e

pub shape_even : (c : List ℕ) (cs : List (List ℕ)) → ragged (c ∷ cs) ≡ false → Even (length c) cs
unfolding ragged
shape_even c cs h = any_even (length c) cs h
