-- Lists that rise strictly, of anything with an order: two such lists with the same members are equal.
use Rattle.std.specs.Prelude.{◌≡◌, refl, Bool, false, ◌⊎◌, ℕ}
use Rattle.std.proofs.Common.{sym, ap₂, ◌∙◌, inl, inr, ⊎_elim}
use Rattle.std.proofs.Math.Bool.{true}
use mathlib.Core.List.{List, [], ◌∷◌, ◌++◌}
use Rattle.meaning.specs.Words.{mem, each}
use Rattle.laws.specs.Bools.{clash}
use Rattle.laws.specs.Members.{mem_here, mem_there}
use Rattle.laws.specs.Facts.{Any, now, later, All, done, also}
use Rattle.history.specs.Order.{Sorted, none_left, least}
use Rattle.history.specs.Lists.{all_app, all_each, all_to}

-- each member is below all that follow
pub data Ascending {A : Type 0} (lt : A → A → Bool) : List A → Type 0 where
  empty : Ascending lt []
  first : {a : A} {l : List A} → All (λ b. lt a b ≡ true) l → Ascending lt l → Ascending lt (a ∷ l)

-- a is in the list
abbrev pub Has : {A : Type 0} → List A → A → Type 0
Has l a = Any (λ b. b ≡ a) l

module _ {A : Type 0} {Q : A → Type 0} where
  pub all_at : {l : List A} (a : A) → All Q l → Has l a → Q a
  all_at a done x3 = elim x3 [ ]
  all_at a (also q x) (now e) = rw e at q
  all_at a (also q x) (later y) = all_at a x y

module _ {A : Type 0} {Q : A → Type 0} where
  -- a member that passes
  pub pick : {l : List A} → Any Q l → (a : A) × Has l a × Q a
  pick (now {a} q) = (a, now refl, q)
  pick (later x) = let r : _ = pick x in (r.0, later r.1, r.2)

module _ {A : Type 0} (lt : A → A → Bool) (irrefl : (a : A) → lt a a ≡ false) (trans : (a b c : A) → lt a b ≡ true → lt b c ≡ true → lt a c ≡ true) where
  -- the head of a rising list, where both have the same members, is the other's head
  same_head : {a b : A} {l m : List A} → All (λ c. lt a c ≡ true) l → All (λ c. lt b c ≡ true) m → Has (b ∷ m) a → Has (a ∷ l) b → a ≡ b
  same_head p q (now e) y = sym e
  same_head p q (later x) (now e) = e
  same_head {a} {b} p q (later x) (later y) = absurd (clash (trans a b a (all_at b p y) (all_at a q x)) (irrefl a))

  -- a member of one tail is in the other's
  same_tail : {a b c : A} {l m : List A} → a ≡ b → All (λ d. lt a d ≡ true) l → Has l c → Has (b ∷ m) c → Has m c
  same_tail {a} {b} {c} e p x (now f) = let g : a ≡ c = e ∙ f in absurd (clash (all_at c p x) (rw g (irrefl c)))
  same_tail e p x (later y) = y

  pub ascending_same : (l m : List A) → Ascending lt l → Ascending lt m → ((a : A) → Has l a → Has m a) → ((a : A) → Has m a → Has l a) → l ≡ m
  ascending_same [] [] s t f g = refl
  ascending_same [] (b ∷ m) s t f g = elim (g b (now refl)) [ ]
  ascending_same (a ∷ l) [] s t f g = elim (f a (now refl)) [ ]
  ascending_same (a ∷ l) (b ∷ m) (first p s) (first q t) f g =
      let e : a ≡ b = same_head p q (f a (now refl)) (g b (now refl)) in
      ap₂ ◌∷◌ e (ascending_same l m s t (λ c x. same_tail e p x (f c (later x))) (λ c x. same_tail (sym e) q x (g c (later x))))

module _ {A : Type 0} (lt : A → A → Bool) where
  pub ascending_app : (l m : List A) → Ascending lt l → Ascending lt m → All (λ a. All (λ b. lt a b ≡ true) m) l → Ascending lt (l ++ m)
  ascending_app [] m s t h = t
  ascending_app (a ∷ l) m (first p s) t (also q h) = first (all_app p q) (ascending_app l m s t h)

  -- stretches that follow each other in order make one rising list
  pub ascending_each : (below : ℕ → ℕ → Bool) (f : ℕ → List A) (l : List ℕ) → Sorted below l → ((p : ℕ) → Ascending lt (f p)) → ((p q : ℕ) → below p q ≡ true → All (λ a. All (λ b. lt a b ≡ true) (f q)) (f p)) → Ascending lt (each f l)
  unfolding each
  ascending_each below f [] none_left s h = empty
  ascending_each below f (p ∷ l) (least g t) s h =
      ascending_app (f p) (each f l) (s p) (ascending_each below f l t s h) (after (f p) (λ q m. h p q (g q m)))
    where
      -- what is below every stretch that follows is below them all
      after : (k : List A) → ((q : ℕ) → mem q l ≡ true → All (λ a. All (λ b. lt a b ≡ true) (f q)) k) → All (λ a. All (λ b. lt a b ≡ true) (each f l)) k
      after [] h = done
      after (a ∷ k) h = also (all_each f l (λ q m. head_of (h q m))) (after k (λ q m. tail_of (h q m)))
        where
          head_of : {Q : A → Type 0} {a : A} {k : List A} → All Q (a ∷ k) → Q a
          head_of (also q x) = q

          tail_of : {Q : A → Type 0} {a : A} {k : List A} → All Q (a ∷ k) → All Q k
          tail_of (also q x) = x
