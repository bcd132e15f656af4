-- A list put at the front of a column; the samples' rows there, and rows below n, as the functions ask and promise them.
use Rattle.std.specs.Prelude.{◌≡◌, refl, List, [], ◌∷◌, ◌++◌, map, ℕ, zero, suc, ◌<◌, length, take, drop, set}
use Rattle.std.proofs.Common.{sym, ap, ◌∙◌, arith, take_at, drop_at}
use Rattle.meaning.specs.Words.{at, index_of}
use Rattle.meaning.specs.Answer.{put}
use Rattle.laws.specs.Members.{at_mem, at_map}
use Rattle.laws.specs.Facts.{All}
use Rattle.order.specs.Order.{Inside}
use Rattle.byrows.specs.Rows.{sample_rows}
use Rattle.byrows.specs.Ground.{mem_all}

pub put_none : {A : Type 0} (old : List A) → old ≡ put [] old
unfolding put
put_none old = refl

-- one cell more
pub put_more : {A : Type 0} (l old : List A) (v : A) → length l < length old → set (put l old) (length l) v ≡ put (l ++ (v ∷ [])) old
unfolding put
put_more [] [] v h = absurd (omega arith)
put_more [] (x ∷ old) v h = refl
put_more (a ∷ l) [] v h = absurd (omega arith)
put_more (a ∷ l) (x ∷ old) v h = ap (λ r. a ∷ r) (put_more l old v (omega arith))

-- what was put at the front stands there, and the cells past it are as they were
pub put_front : {A : Type 0} (l old out : List A) (k : ℕ) → k ≡ length l → out ≡ put l old → take k out ≡ l
unfolding put
put_front l old out k q e = ap (take k) e ∙ take_at l (drop (length l) old) k (sym q)

pub put_past : {A : Type 0} (l old out : List A) (k : ℕ) → k ≡ length l → out ≡ put l old → drop k out ≡ drop k old
unfolding put
put_past l old out k q e = ap (drop k) e ∙ drop_at l (drop (length l) old) k (sym q) ∙ ap (λ j. drop j old) (sym q)

-- ---- the samples' rows

length_map : (f : ℕ → ℕ) (l : List ℕ) → length (map f l) ≡ length l
length_map f [] = refl
length_map f (a ∷ l) = ap suc (length_map f l)

module _ (birth S : List ℕ) where
  pub length_samples : length (sample_rows birth S) ≡ length S
  unfolding sample_rows
  length_samples = length_map (λ b. index_of b birth) S

  pub at_samples : (i : ℕ) → i < length S → at (sample_rows birth S) i ≡ index_of (at S i) birth
  unfolding sample_rows
  at_samples i h = at_map (λ b. index_of b birth) S i h

  -- the samples' rows at the front of a column
  pub samples_front : (old out : List ℕ) → out ≡ put (sample_rows birth S) old → take (length S) out ≡ sample_rows birth S
  samples_front old out e = put_front (sample_rows birth S) old out (length S) (sym length_samples) e

-- ---- rows of a table

-- by place, where every member is a row
pub inside_of : (n : ℕ) (l : List ℕ) → All (λ v. v < n) l → Inside n l
inside_of n l a = record { row = λ i h. mem_all l a (at l i) (at_mem l i h) }
