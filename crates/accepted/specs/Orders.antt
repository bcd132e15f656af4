-- Orders by neighbouring rows: what holds of each row and the next holds of every two rows; keys compare transitively.
use Rattle.std.specs.Prelude.{◌≡◌, refl, Bool, true, false, List, [], ◌∷◌, ◌⊎◌, ℕ, zero, suc, ◌<◌, eqb, ltb}
use Rattle.std.proofs.Common.{ap, ◌∙◌, inl, inr, ⊎_elim, arith, ltb-true, eqb-true, lt-ltb, le-ltb, eq-eqb}
use Rattle.meaning.specs.Words.{lex}
use Rattle.laws.specs.Bools.{clash, eq?}

-- two numbers are one, or one of them is the lower
pub either_way : (a b : ℕ) → (a ≡ b) ⊎ ((a < b) ⊎ (b < a))
either_way zero zero = inl refl
either_way zero (suc b) = inr (inl (omega arith))
either_way (suc a) zero = inr (inr (omega arith))
either_way (suc a) (suc b) = ⊎_elim (λ (q : a ≡ b). inl (ap suc q)) (λ (s : (a < b) ⊎ (b < a)). ⊎_elim (λ (q : a < b). inr (inl (omega arith))) (λ (q : b < a). inr (inr (omega arith))) s) (either_way a b)

-- n rows of which each has R to the next, for an R that carries on
pub chain : (R : ℕ → ℕ → Type 0) → ((a b c : ℕ) → R a b → R b c → R a c) → (n : ℕ) → ((i : ℕ) → suc i < n → R i (suc i)) → (i j : ℕ) → j < i → i < n → R j i
chain R tr n h zero j l k = absurd (omega arith)
chain R tr n h (suc i) j l k = ⊎_elim (λ (q : j ≡ i). rw q (h i k)) (λ (q : j ≡ i → ⊥). tr j i (suc i) (chain R tr n h i j (omega arith) (omega arith)) (h i k)) (eq? j i)

-- ---- lists of numbers, the first that differs decides

pub lex_less : (a b : ℕ) (l m : List ℕ) → a < b → lex (a ∷ l) (b ∷ m) ≡ true
unfolding lex
lex_less a b l m h = rw (lt-ltb a b h, lex)

pub lex_same : (a b : ℕ) (l m : List ℕ) → a ≡ b → lex l m ≡ true → lex (a ∷ l) (b ∷ m) ≡ true
unfolding lex
lex_same a b l m e h = rw (le-ltb a b (omega arith), eq-eqb a b e, lex) h

pub lex_cases : (a b : ℕ) (l m : List ℕ) → lex (a ∷ l) (b ∷ m) ≡ true → (a < b) ⊎ ((a ≡ b) × (lex l m ≡ true))
unfolding lex
lex_cases a b l m h = less (ltb a b) refl
  where
    same : ltb a b ≡ false → (t : Bool) → eqb a b ≡ t → (a < b) ⊎ ((a ≡ b) × (lex l m ≡ true))
    same n true e = inr (eqb-true a b e, rw (n, e, lex) at h)
    same n false e = absurd (clash (rw (n, e, lex) at h) refl)

    less : (t : Bool) → ltb a b ≡ t → (a < b) ⊎ ((a ≡ b) × (lex l m ≡ true))
    less true e = inl (ltb-true a b e)
    less false e = same e (eqb a b) refl

-- nothing is below the empty list, and the empty list below nothing
lex_none : (l : List ℕ) → lex [] l ≡ true → ⊥
unfolding lex
lex_none l h = clash h refl

lex_over : (l : List ℕ) → lex l [] ≡ true → ⊥
unfolding lex
lex_over [] h = clash h refl
lex_over (a ∷ l) h = clash h refl

pub lex_trans : (l m k : List ℕ) → lex l m ≡ true → lex m k ≡ true → lex l k ≡ true
lex_trans [] m k p q = absurd (lex_none m p)
lex_trans (a ∷ l) [] k p q = absurd (lex_none k q)
lex_trans (a ∷ l) (b ∷ m) [] p q = absurd (lex_over (b ∷ m) q)
lex_trans (a ∷ l) (b ∷ m) (c ∷ k) p q = ⊎_elim
    (λ (u : a < b). ⊎_elim (λ (v : b < c). lex_less a c l k (omega arith)) (λ (v : (b ≡ c) × (lex m k ≡ true)). lex_less a c l k (omega arith)) (lex_cases b c m k q))
    (λ (u : (a ≡ b) × (lex l m ≡ true)). ⊎_elim (λ (v : b < c). lex_less a c l k (omega arith)) (λ (v : (b ≡ c) × (lex m k ≡ true)). lex_same a c l k (u.0 ∙ v.0) (lex_trans l m k u.1 v.1)) (lex_cases b c m k q))
    (lex_cases a b l m p)
