-- Demand 3 is not empty: the story of specs/Shown satisfies every premise.
use Rattle.std.specs.Prelude.{◌≡◌, true, ℕ}
use Rattle.std.proofs.Math.Path.{refl}
use mathlib.Core.List.{[], ◌∷◌}
use Rattle.std.proofs.Common.{inl, inr}
use Rattle.std.proofs.Math.Logic.{⊎_elim}
use Rattle.meaning.specs.Words.{mem}
use Rattle.meaning.specs.Forest.{stands}
use Rattle.meaning.specs.Answer.{limits}
use Rattle.meaning.specs.Clean.{cleaned, clean_answer}
use Rattle.meaning.specs.Join.{joined, join_answer}
use Rattle.meaning.specs.Listing.{listing}
use Rattle.laws.specs.Bools.{clash}
use Rattle.laws.specs.Members.{mem_cases, mem_nil}
use Rattle.demands.specs.Histories.{joins, as_parent, as_child, as_mutated, NamedLater, NotRefused}
use Rattle.demands.specs.Shown.{lent, lent_join, spawn, listed, story, last}

-- no number of the list but these is a fish of the listing
only : (b : ℕ) → mem b listing.nodes.birth ≡ true → NamedLater (joins spawn lent_join lent_join ∷ []) last b → mem b listed ≡ true
only b m (inl (as_parent h)) = ⊎_elim
    (λ (e : b ≡ 401). rw e (unfold mem in refl))
    (λ (h : mem b (401 ∷ 301 ∷ []) ≡ true). ⊎_elim
    (λ (e : b ≡ 401). rw e (unfold mem in refl))
    (λ (h : mem b (301 ∷ []) ≡ true). ⊎_elim (λ (e : b ≡ 301). rw e (unfold mem in refl)) (λ (h : mem b [] ≡ true). absurd (mem_nil b h)) (mem_cases b 301 [] h))
    (mem_cases b 401 (301 ∷ []) h))
    (mem_cases b 401 (401 ∷ 301 ∷ []) h)
only b m (inl (as_child h)) = ⊎_elim
    (λ (e : b ≡ 601). absurd (clash m (rw e (unfold mem in refl))))
    (λ (h : mem b (602 ∷ 602 ∷ []) ≡ true). ⊎_elim
    (λ (e : b ≡ 602). absurd (clash m (rw e (unfold mem in refl))))
    (λ (h : mem b (602 ∷ []) ≡ true). ⊎_elim (λ (e : b ≡ 602). absurd (clash m (rw e (unfold mem in refl)))) (λ (h : mem b [] ≡ true). absurd (mem_nil b h)) (mem_cases b 602 [] h))
    (mem_cases b 602 (602 ∷ []) h))
    (mem_cases b 601 (602 ∷ 602 ∷ []) h)
only b m (inl (as_mutated h)) = ⊎_elim (λ (e : b ≡ 601). absurd (clash m (rw e (unfold mem in refl)))) (λ (h : mem b [] ≡ true). absurd (mem_nil b h)) (mem_cases b 601 [] h)
only b m (inr h) = ⊎_elim
    (λ (e : b ≡ 601). absurd (clash m (rw e (unfold mem in refl))))
    (λ (h : mem b (602 ∷ 501 ∷ []) ≡ true). ⊎_elim
    (λ (e : b ≡ 602). absurd (clash m (rw e (unfold mem in refl))))
    (λ (h : mem b (501 ∷ []) ≡ true). ⊎_elim (λ (e : b ≡ 501). rw e (unfold mem in refl)) (λ (h : mem b [] ≡ true). absurd (mem_nil b h)) (mem_cases b 501 [] h))
    (mem_cases b 602 (501 ∷ []) h))
    (mem_cases b 601 (602 ∷ 501 ∷ []) h)

-- the story satisfies every premise of demand 3
pub not_empty : NotRefused stands limits 10 story last lent lent listing listing
not_empty = (
  unfold clean_answer stands in refl,
  only,
  (unfold join_answer cleaned stands in refl, unfold join_answer in refl, (unfold clean_answer joined cleaned stands in refl, unfold clean_answer joined stands in refl)),
)
