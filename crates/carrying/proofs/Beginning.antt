-- What a new site begins with: cleared cells, and answers that hold from its position on.
use mathlib.Core.Path.{◌≡◌, refl, sym, ap, subst, ◌∙◌}
use mathlib.Core.List.{List}
use mathlib.Core.Logic.{◌⊎◌, inl, inr}
use Prim.Native.Nat.{ℕ, zero, suc, ◌+◌, ◌≤◌}
use native.Mathlib.Omega.{arith}
use lib.ListN.{replicate}
use Rattle.meaning.specs.Words.{at}
use Rattle.meaning.specs.Rows.{EdgeColumns}
use Rattle.overtaking.specs.Known.{Known}
use Rattle.overtaking.proofs.Knowing.{known_on, none_known}
use Rattle.carrying.specs.Kids.{KidsKnown}
use Rattle.carrying.specs.Fresh.{Unstamped, Forgotten}
use Rattle.carrying.proofs.Childless as children

-- a column of zeros
pub zero_cells : (n v : ℕ) → at (replicate n 0) v ≡ 0
zero_cells zero v = refl
zero_cells (suc n) zero = refl
zero_cells (suc n) (suc v) = zero_cells n v

pub cleared : {l : List ℕ} (n : ℕ) → l ≡ replicate n 0 → (v : ℕ) → at l v ≡ 0
cleared {l} n e v = ap (λ (c : List ℕ). at c v) e ∙ zero_cells n v

module _ {E : EdgeColumns} {x last : ℕ} {until₀ kid_until₀ until kid_until : List ℕ} where
  -- answers kept hold from x on
  pub parents_hold : {par : List ℕ} → Forgotten x last until₀ kid_until₀ until kid_until → Known E last par until₀ → Known E x par until
  parents_hold {par} f k = go f.case
    where
      go : ((last ≤ x) × (until ≡ until₀) × (kid_until ≡ kid_until₀)) ⊎ (((v : ℕ) → at until v ≡ 0) × ((v : ℕ) → at kid_until v ≡ 0)) → Known E x par until
      go (inl h) = subst (λ (u : List ℕ). Known E x par u) (sym h.1) (known_on x h.0 k)
      go (inr h) = none_known E x par until h.0

  pub children_hold : {kid : List ℕ} → Forgotten x last until₀ kid_until₀ until kid_until → KidsKnown E last kid kid_until₀ → KidsKnown E x kid kid_until
  children_hold {kid} f k = go f.case
    where
      go : ((last ≤ x) × (until ≡ until₀) × (kid_until ≡ kid_until₀)) ⊎ (((v : ℕ) → at until v ≡ 0) × ((v : ℕ) → at kid_until v ≡ 0)) → KidsKnown E x kid kid_until
      go (inl h) = subst (λ (u : List ℕ). KidsKnown E x kid u) (sym h.2) (children.known_on x h.0 k)
      go (inr h) = children.none_known h.1

-- columns that are equal hold the same
pub same_parents : {E : EdgeColumns} {x : ℕ} {par par' until : List ℕ} → par' ≡ par → Known E x par until → Known E x par' until
same_parents {E} {x} {until = until} e k = subst (λ (p : List ℕ). Known E x p until) (sym e) k

pub same_children : {E : EdgeColumns} {x : ℕ} {kid kid' until : List ℕ} → kid' ≡ kid → KidsKnown E x kid until → KidsKnown E x kid' until
same_children {E} {x} {until = until} e k = subst (λ (p : List ℕ). KidsKnown E x p until) (sym e) k

-- ---- a stamp that no row has

pub stamp_after : {t : ℕ} {own told : List ℕ} → ((v : ℕ) → at own v ≤ t) → ((v : ℕ) → at told v ≤ t) → Unstamped (t + 1) own told
stamp_after p q = record { own_below = λ v. omega (arith, p v); told_below = λ v. omega (arith, q v) }

pub stamp_one : {own told : List ℕ} → ((v : ℕ) → at own v ≡ 0) → ((v : ℕ) → at told v ≡ 0) → Unstamped 1 own told
stamp_one p q = record { own_below = λ v. omega (arith, p v); told_below = λ v. omega (arith, q v) }
