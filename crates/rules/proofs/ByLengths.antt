-- Rules 1 and 2 of the check are the tables that the lengths give.
use mathlib.Core.Path.{◌≡◌, refl, ap, ◌∙◌}
use mathlib.Core.Bool.{Bool, true, false}
use mathlib.Core.List.{List, [], ◌∷◌}
use Prim.Native.Nat.{ℕ, zero, suc}
use native.Mathlib.Omega.{arith}
use Rattle.std.specs.Prelude.{Option, Some, None}
use lib.Dec.{ltb}
use lib.ListN.{length}
use borrow.Author.Tests.{ne_eqb}
use Rattle.meaning.specs.Words.{or, any}
use Rattle.meaning.specs.Rows.{Tables}
use Rattle.meaning.specs.Answer.{Answer, Limits, answer, refuse, ragged}
use Rattle.meaning.specs.Check.{shapes, sizes}
use Rattle.rules.specs.Lengths.{lengths_of, unlike, table_if, ragged_table, large_table, table_of, refuse_table}

any_cons : {A : Type 0} (f : A → Bool) (a : A) (l : List A) → any f (a ∷ l) ≡ or (f a) (any f l)
unfolding any
any_cons f a l = go (f a) refl
  where
    go : (t : Bool) → f a ≡ t → any f (a ∷ l) ≡ or (f a) (any f l)
    go true e = rw (e, any)
    go false e = rw (e, any)

or_no : (a : Bool) → or a false ≡ a
or_no true = refl
or_no false = refl

-- the column d is longer or shorter than the column a
abbrev other : List ℕ → List ℕ → Bool
other a d = unlike (length d) (length a)

-- a table of two columns, of three and of four
pub ragged_two : (a b : List ℕ) → ragged (a ∷ b ∷ []) ≡ unlike (length b) (length a)
unfolding ragged any
ragged_two a b = any_cons (other a) b [] ∙ or_no _

pub ragged_three : (a b c : List ℕ) → ragged (a ∷ b ∷ c ∷ []) ≡ or (unlike (length b) (length a)) (unlike (length c) (length a))
unfolding ragged any
ragged_three a b c = any_cons (other a) b (c ∷ []) ∙ ap (or (unlike (length b) (length a))) (any_cons (other a) c [] ∙ or_no _)

pub ragged_four : (a b c d : List ℕ) → ragged (a ∷ b ∷ c ∷ d ∷ []) ≡ or (unlike (length b) (length a)) (or (unlike (length c) (length a)) (unlike (length d) (length a)))
unfolding ragged any
ragged_four a b c d = any_cons (other a) b (c ∷ d ∷ []) ∙ ap (or (unlike (length b) (length a))) (any_cons (other a) c (d ∷ []) ∙ ap (or (unlike (length c) (length a))) (any_cons (other a) d [] ∙ or_no _))

-- the first of four tables that is refused
first_of_four : (n : ℕ) (a b c d : Bool) (rest : Answer) → refuse a n 1 (refuse b n 2 (refuse c n 3 (refuse d n 4 rest))) ≡ refuse_table n (table_if a 1 (table_if b 2 (table_if c 3 (table_if d 4 0)))) rest
unfolding refuse
first_of_four n true b c d rest = refl
first_of_four n false true c d rest = refl
first_of_four n false false true d rest = refl
first_of_four n false false false true rest = refl
first_of_four n false false false false rest = refl

pub shapes_by_lengths : (T : Tables) (rest : Answer) → shapes T rest ≡ refuse_table 1 (ragged_table (lengths_of T)) rest
unfolding shapes ragged_table
shapes_by_lengths T rest =
    rw (
      ragged_three T.nodes.time T.nodes.birth T.nodes.population,
      ragged_four T.edges.left T.edges.right T.edges.parent T.edges.child,
      ragged_two T.sites.position T.sites.ancestral,
      ragged_three T.muts.site T.muts.node T.muts.derived,
    ) (first_of_four 1
    (or (other T.nodes.time T.nodes.birth) (other T.nodes.time T.nodes.population))
    (or (other T.edges.left T.edges.right) (or (other T.edges.left T.edges.parent) (other T.edges.left T.edges.child)))
    (other T.sites.position T.sites.ancestral)
    (or (other T.muts.site T.muts.node) (other T.muts.site T.muts.derived))
    rest)

pub sizes_by_lengths : (m : Limits) (T : Tables) (rest : Answer) → sizes m T rest ≡ refuse_table 2 (large_table m (length T.nodes.time) (length T.edges.left) (length T.sites.position) (length T.muts.site)) rest
unfolding sizes large_table
sizes_by_lengths m T rest = first_of_four 2 (ltb m.nodes (length T.nodes.time)) (ltb m.edges (length T.edges.left)) (ltb m.sites (length T.sites.position)) (ltb m.mutations (length T.muts.site)) rest

-- ---- the table told of by a search on lengths

module _ (n : ℕ) (rest : Answer) where
  pub told_table : (t r : ℕ) → Some r ≡ table_of t → refuse_table n t rest ≡ answer n r
  unfolding table_of refuse
  told_table zero r e = absurd (some_none e)
    where
      some_none : {a : ℕ} → ◌≡◌ {A = Option ℕ} (Some a) None → ⊥
      some_none q = let z : ◌≡◌ {A = ℕ} 0 1 = cc in omega arith
  told_table (suc t) r e = let z : suc t ≡ 0 → ⊥ = λ q. omega arith in rw (ne_eqb (suc t) 0 z, refuse) (ap (answer n) (some_same e))
    where
      some_same : {a b : ℕ} → ◌≡◌ {A = Option ℕ} (Some a) (Some b) → b ≡ a
      some_same q = cc

  pub no_table : (t : ℕ) → None ≡ table_of t → refuse_table n t rest ≡ rest
  unfolding table_of refuse
  no_table zero e = refl
  no_table (suc t) e = absurd (none_some e)
    where
      none_some : {a : ℕ} → ◌≡◌ {A = Option ℕ} None (Some a) → ⊥
      none_some q = let z : ◌≡◌ {A = ℕ} 0 1 = cc in omega arith
