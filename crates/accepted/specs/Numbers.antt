-- No two of the code's answers have one number and row, so a promise by number and row is met by one answer only.
use Rattle.std.specs.Prelude.{◌≡◌, refl, true, false, ℕ, eqb, Some, None, Ok, Err}
use Rattle.std.proofs.Common.{sym, ap, ◌∙◌}
use Rattle.meaning.specs.Answer.{Answer, Checked, Allele, Stated, accepted, refusal_of, checked_of, allele_of}
use Rattle.meaning.specs.declared.Refusal.{Refusal}
use Rattle.meaning.specs.declared.Refusal.TheVariants.{Ragged, TooMany, Length, BirthRepeated, EdgeBroken, EdgeOrder, EdgeShared, SiteBroken, MutationBroken, MutationAbove, SampleUnknown, SampleRepeated, NoRoom, BatchRagged, BatchTooMany, BatchBirth, BatchEdge, BatchShared, BatchMutation, BatchAbove, MarkWrong, BytesEnd, BytesFollow, RowsOver, EdgeWide, MutationWide, Populated, NoSite, NoBirth}

-- x where the number is k, and else what comes after
abbrev by : {A : Type 0} → ℕ → ℕ → A → A → A
by n k x rest = elim (eqb n k) [ true ↦ x | false ↦ rest ]

-- the refusal with a number and a row
abbrev named : Answer → Refusal
named a =
    by a.number 1 (Ragged a.row)
    (by a.number 2 (TooMany a.row)
    (by a.number 3 Length
    (by a.number 4 (BirthRepeated a.row)
    (by a.number 5 (EdgeBroken a.row)
    (by a.number 6 (EdgeOrder a.row)
    (by a.number 7 (EdgeShared a.row)
    (by a.number 8 (SiteBroken a.row)
    (by a.number 9 (MutationBroken a.row)
    (by a.number 10 (MutationAbove a.row)
    (by a.number 11 (SampleUnknown a.row)
    (by a.number 12 (SampleRepeated a.row)
    (by a.number 13 (NoRoom a.row)
    (by a.number 20 (BatchRagged a.row)
    (by a.number 21 (BatchTooMany a.row)
    (by a.number 22 (BatchBirth a.row)
    (by a.number 23 (BatchEdge a.row)
    (by a.number 24 (BatchShared a.row)
    (by a.number 25 (BatchMutation a.row)
    (by a.number 26 (BatchAbove a.row)
    (by a.number 31 (MarkWrong a.row)
    (by a.number 32 (BytesEnd a.row)
    (by a.number 33 (BytesFollow a.row)
    (by a.number 34 (RowsOver a.row)
    (by a.number 35 (EdgeWide a.row)
    (by a.number 36 (MutationWide a.row)
    (by a.number 38 (Populated a.row)
    (by a.number 41 NoSite NoBirth)))))))))))))))))))))))))))

-- a refusal is not 0, and is the one that its number and row name
named_is : (r : Refusal) → (accepted (refusal_of r) ≡ false) × (named (refusal_of r) ≡ r)
unfolding accepted
named_is (Ragged t) = (refl, refl)
named_is (TooMany t) = (refl, refl)
named_is Length = (refl, refl)
named_is (BirthRepeated r) = (refl, refl)
named_is (EdgeBroken r) = (refl, refl)
named_is (EdgeOrder r) = (refl, refl)
named_is (EdgeShared r) = (refl, refl)
named_is (SiteBroken r) = (refl, refl)
named_is (MutationBroken r) = (refl, refl)
named_is (MutationAbove r) = (refl, refl)
named_is (SampleUnknown r) = (refl, refl)
named_is (SampleRepeated r) = (refl, refl)
named_is (NoRoom t) = (refl, refl)
named_is (BatchRagged t) = (refl, refl)
named_is (BatchTooMany t) = (refl, refl)
named_is (BatchBirth r) = (refl, refl)
named_is (BatchEdge r) = (refl, refl)
named_is (BatchShared r) = (refl, refl)
named_is (BatchMutation r) = (refl, refl)
named_is (BatchAbove r) = (refl, refl)
named_is (MarkWrong o) = (refl, refl)
named_is (BytesEnd o) = (refl, refl)
named_is (BytesFollow o) = (refl, refl)
named_is (RowsOver o) = (refl, refl)
named_is (EdgeWide r) = (refl, refl)
named_is (MutationWide r) = (refl, refl)
named_is (Populated r) = (refl, refl)
named_is NoSite = (refl, refl)
named_is NoBirth = (refl, refl)

pub refusal_refuses : (r : Refusal) → accepted (refusal_of r) ≡ false
refusal_refuses r = (named_is r).0

pub refusal_one : (r s : Refusal) → refusal_of r ≡ refusal_of s → r ≡ s
refusal_one r s e = sym (named_is r).1 ∙ ap named e ∙ (named_is s).1

-- ---- the check's answer

abbrev checked_named : Answer → Checked
checked_named a = elim (accepted a) [ true ↦ Ok tt | false ↦ Err (named a) ]

checked_is : (c : Checked) → checked_named (checked_of c) ≡ c
unfolding accepted
checked_is (Ok _) = refl
checked_is (Err r) = rw (refusal_refuses r, checked_named) (ap (λ (q : Refusal). Err q) (named_is r).1)

pub checked_one : (c d : Checked) → checked_of c ≡ checked_of d → c ≡ d
checked_one c d e = sym (checked_is c) ∙ ap checked_named e ∙ checked_is d

-- ---- the allele call's answer

abbrev allele_named : Stated → Allele
allele_named a = elim (accepted a.answer) [ true ↦ elim a.missing [ true ↦ Ok None | false ↦ Ok (Some a.state) ] | false ↦ Err (named a.answer) ]

allele_is : (c : Allele) → allele_named (allele_of c) ≡ c
unfolding accepted
allele_is (Ok (Some s)) = refl
allele_is (Ok None) = refl
allele_is (Err r) = rw (refusal_refuses r, allele_named) (ap (λ (q : Refusal). Err q) (named_is r).1)

pub allele_one : (c d : Allele) → allele_of c ≡ allele_of d → c ≡ d
allele_one c d e = sym (allele_is c) ∙ ap allele_named e ∙ allele_is d
