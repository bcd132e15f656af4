-- The population 0: each row read has it, and a file is written only of rows that have it.
use Rattle.std.specs.Prelude.{◌≡◌, refl, false, not, List, [], ◌∷◌, ℕ, suc, ◌<◌, eqb, length}
use Rattle.std.proofs.Common.{sym, ap, ap₂, arith, eqb-true}
use Rattle.std.proofs.lemmas.List.{length-replicate, get_or-replicate}
use Rattle.meaning.specs.Words.{zeros}
use Rattle.meaning.specs.Files.{populated}
use Rattle.laws.specs.Bools.{not_no}

pub zeros_long : (n : ℕ) → length (zeros n) ≡ n
unfolding zeros
zeros_long n = length-replicate n 0

pub zeros_settled : (n i : ℕ) → i < n → populated (zeros n) i ≡ false
unfolding populated zeros
zeros_settled n i h = ap (λ (v : ℕ). not (eqb v 0)) (get_or-replicate n i 0 0 h)

-- a column with no row for 38 is the one that is read back
pub settled_zeros : (c : List ℕ) → ((i : ℕ) → i < length c → populated c i ≡ false) → zeros (length c) ≡ c
unfolding populated zeros
settled_zeros [] h = refl
settled_zeros (a ∷ c) h = ap₂ (λ (v : ℕ) (l : List ℕ). v ∷ l) (sym (eqb-true a 0 (not_no (eqb a 0) (h 0 (omega arith))))) (settled_zeros c (λ i l. h (suc i) (omega arith)))
