-- Two and four numbers compared in order.
use mathlib.Core.Path.{◌≡◌, refl}
use mathlib.Core.Bool.{Bool, true, false}
use mathlib.Core.List.{[], ◌∷◌}
use Prim.Native.Nat.{ℕ}
use lib.Dec.{eqb, ltb}
use Rattle.std.specs.Prelude.{Option, Some, cond}
use Rattle.std.proofs.Common.{Ordering, Less, Equal, Greater}
use Rattle.std.specs.Ordering.{partial_ordering_then, partial_lt, as_partial_cmp, nat_cmp, is_some_and, is_lt}
use Rattle.meaning.specs.Words.{lex}

-- what two numbers are to each other
abbrev to : Bool → Bool → Option Ordering
to less same = Some (cond less Less (cond same Equal Greater))

abbrev then : Bool → Bool → Bool → Bool
then less same rest = elim less [ true ↦ true | false ↦ elim same [ true ↦ rest | false ↦ false ] ]

four : (a b c d e f g h : Bool) → is_some_and is_lt (partial_ordering_then (partial_ordering_then (partial_ordering_then (to a b) (to c d)) (to e f)) (to g h)) ≡ then a b (then c d (then e f (then g h false)))
four true b c d e f g h = refl
four false false c d e f g h = refl
four false true true d e f g h = refl
four false true false false e f g h = refl
four false true false true true f g h = refl
four false true false true false false g h = refl
four false true false true false true true h = refl
four false true false true false true false true = refl
four false true false true false true false false = refl

two : (a b c d : Bool) → is_some_and is_lt (partial_ordering_then (to a b) (to c d)) ≡ then a b (then c d false)
two true b c d = refl
two false false c d = refl
two false true true d = refl
two false true false true = refl
two false true false false = refl

-- two numbers are below two others where the first that differs is
pub lex_two : (a b c d : ℕ) → partial_lt (λ (x y : ℕ × ℕ). partial_ordering_then (as_partial_cmp nat_cmp x.0 y.0) (as_partial_cmp nat_cmp x.1 y.1)) (a, b) (c, d) ≡ lex (a ∷ b ∷ []) (c ∷ d ∷ [])
unfolding lex
lex_two a b c d = two (ltb a c) (eqb a c) (ltb b d) (eqb b d)

-- four numbers are below four others where the first that differs is
pub lex_four : (a b c d e f g h : ℕ) → partial_lt (λ (x y : ℕ × ℕ × ℕ × ℕ). partial_ordering_then (partial_ordering_then (partial_ordering_then (as_partial_cmp nat_cmp x.0 y.0) (as_partial_cmp nat_cmp x.1 y.1)) (as_partial_cmp nat_cmp x.2 y.2)) (as_partial_cmp nat_cmp x.3 y.3)) (a, b, c, d) (e, f, g, h) ≡ lex (a ∷ b ∷ c ∷ d ∷ []) (e ∷ f ∷ g ∷ h ∷ [])
unfolding lex
lex_four a b c d e f g h = four (ltb a e) (eqb a e) (ltb b f) (eqb b f) (ltb c g) (eqb c g) (ltb d h) (eqb d h)
