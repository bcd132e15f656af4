-- The premise of the one-step law: neither call is refused, and the sample list of the first has all that is named later.
use Rattle.std.specs.Prelude.{◌≡◌, true, List, [], ◌∷◌, ◌⊎◌, ℕ}
use Rattle.std.proofs.Common.{sym}
use Rattle.meaning.specs.Words.{mem}
use Rattle.meaning.specs.Rows.{Edge, Record, births}
use Rattle.meaning.specs.Join.{Batch}
use Rattle.laws.specs.Members.{mem_here, mem_there}
use Rattle.laws.specs.Facts.{In, Distinct, Any, now, later, Cov, parents, JoinOk, CleanOk}

-- neither call is refused, and S lists every fish of the record that the batch or S2 name: demand 3's premise
pub record Fits (R : Record) (B : Batch) (S S2 : List ℕ) : Type 0 where
  pub cleaned : CleanOk R S
  pub joined : JoinOk R B
  pub named : (q : ℕ) → mem q (parents B.edges) ≡ true → (mem q (births B.nodes) ≡ true) ⊎ In S q
  pub from : (s : ℕ) → In S2 s → (mem s (births B.nodes) ≡ true) ⊎ In S s
  pub distinct : Distinct S2

-- a parent that an edge of the batch gives is one that the batch names
pub parents_have : (x v q : ℕ) (l : List Edge) → Any (Cov x v q) l → mem q (parents l) ≡ true
unfolding parents
parents_have x v q [] x'' = elim x'' [ ]
parents_have x v q (e ∷ l) (now c) = mem_here q e.parent (parents l) (sym c.to_parent)
parents_have x v q (e ∷ l) (later a) = mem_there q e.parent (parents l) (parents_have x v q l a)
