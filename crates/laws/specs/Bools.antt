-- Truth values: no value is both, and what and, or and not say.
use Rattle.std.specs.Prelude.{◌≡◌, refl, Bool, true, false, not, ◌⊎◌, ℕ, eqb}
use Rattle.std.proofs.Common.{sym, inl, inr, ⊎_elim, arith, eqb-true}
use Rattle.std.proofs.Math.Option.{Option, none, some}
use Rattle.std.proofs.lemmas.Bool.{eqb-false}
use Rattle.meaning.specs.Words.{and, or}

pub clash : {b : Bool} → b ≡ true → b ≡ false → ⊥
clash p q = let z : ◌≡◌ {A = ℕ} 0 1 = cc in omega arith

pub truth : (b : Bool) → (b ≡ true) ⊎ (b ≡ false)
truth true = inl refl
truth false = inr refl

pub eq? : (a b : ℕ) → (a ≡ b) ⊎ (a ≡ b → ⊥)
eq? a b = go (eqb a b) refl
  where
    go : (t : Bool) → eqb a b ≡ t → (a ≡ b) ⊎ (a ≡ b → ⊥)
    go true e = inl (eqb-true a b e)
    go false e = inr (eqb-false a b e)

pub and_of : (a b : Bool) → and a b ≡ true → (a ≡ true) × (b ≡ true)
and_of true b h = (refl, h)
and_of false b h = absurd (clash h refl)

pub and_yes : {a b : Bool} → a ≡ true → b ≡ true → and a b ≡ true
and_yes e f = rw e f

pub or_of : (a b : Bool) → or a b ≡ true → (a ≡ true) ⊎ (b ≡ true)
or_of true b h = inl refl
or_of false b h = inr h

pub or_no : (a b : Bool) → or a b ≡ false → (a ≡ false) × (b ≡ false)
or_no true b h = absurd (clash refl h)
or_no false b h = (refl, h)

pub or_left : {a : Bool} (b : Bool) → a ≡ true → or a b ≡ true
or_left b e = rw e

pub or_right : (a b : Bool) → b ≡ true → or a b ≡ true
or_right true b e = refl
or_right false b e = e

pub not_of : (a : Bool) → not a ≡ true → a ≡ false
not_of true h = absurd (clash h refl)
not_of false h = refl

pub not_no : (a : Bool) → not a ≡ false → a ≡ true
not_no true h = refl
not_no false h = absurd (clash refl h)

-- what is not true is false
pub not_true : (a : Bool) → (a ≡ true → ⊥) → a ≡ false
not_true true h = absurd (h refl)
not_true false h = refl

pub bool_ext : {a b : Bool} → (a ≡ true → b ≡ true) → (b ≡ true → a ≡ true) → a ≡ b
bool_ext {a} {b} f g = go a b f g
  where
    go : (a b : Bool) → (a ≡ true → b ≡ true) → (b ≡ true → a ≡ true) → a ≡ b
    go true true f g = refl
    go true false f g = sym (f refl)
    go false true f g = g refl
    go false false f g = refl

pub some_inj : {o : Option ℕ} {a b : ℕ} → o ≡ some a → o ≡ some b → a ≡ b
some_inj p q = cc

pub none_some : {o : Option ℕ} {a : ℕ} → o ≡ none → o ≡ some a → ⊥
none_some p q = let z : ◌≡◌ {A = ℕ} 0 1 = cc in omega arith

-- two options with the same members are equal
pub opt_ext : {o u : Option ℕ} → ((w : ℕ) → o ≡ some w → u ≡ some w) → ((w : ℕ) → u ≡ some w → o ≡ some w) → o ≡ u
opt_ext {o} {u} f g = go o u f g
  where
    go : (o u : Option ℕ) → ((w : ℕ) → o ≡ some w → u ≡ some w) → ((w : ℕ) → u ≡ some w → o ≡ some w) → o ≡ u
    go none none f g = refl
    go none (some b) f g = g b refl
    go (some a) u f g = sym (f a refl)
