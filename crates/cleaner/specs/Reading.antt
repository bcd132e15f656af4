-- Columns read through a list of rows, and cells of a column whose front was written.
use Rattle.std.specs.Prelude.{◌≡◌, refl, List, [], ◌∷◌, ◌++◌, map, ℕ, zero, suc, ◌+◌, ◌<◌, ◌≤◌, length, get_or, take, drop}
use Rattle.std.proofs.Common.{sym, ap, ap₂, ◌∙◌, arith, length-drop, ext_get_or, length-take-le, get_or-take, get_or-drop}
use Rattle.std.proofs.lemmas.List.{length-map}
use Rattle.std.proofs.Math.ListN.{get_or-append}
use Rattle.meaning.specs.Words.{at, rows}
use Rattle.meaning.specs.Answer.{put}
use Rattle.laws.specs.Members.{at_map}
use Rattle.laws.specs.Counting.{length_rows, get_rows}
use Rattle.laws.specs.Facts.{All, done, also}
use Rattle.order.specs.Order.{Inside}
use Rattle.cleaner.specs.Finishing.{Front}

-- two ways to read that agree on rows of a table agree on a list of them
pub map_inside : {A : Type 0} (n : ℕ) (f g : ℕ → A) (l : List ℕ) → Inside n l → ((v : ℕ) → v < n → f v ≡ g v) → map f l ≡ map g l
map_inside n f g [] s h = refl
map_inside n f g (a ∷ l) s h = ap₂ ◌∷◌ (h a (s.row 0 (omega arith))) (map_inside n f g l (record { row = λ i k. s.row (suc i) (omega arith) }) h)

-- a cell of the written front
pub put_at : (new old : List ℕ) (i : ℕ) → i < length new → at (put new old) i ≡ at new i
unfolding put
put_at new old i h = get_or-append new (drop (length new) old) 0 i h

-- a cell of a front that was renamed
pub renamed_at : (f : ℕ → ℕ) (old : List ℕ) (k i : ℕ) → k ≤ length old → i < k → at (put (map f (take k old)) old) i ≡ f (at old i)
renamed_at f old k i h l =
    let q : length (take k old) ≡ k = length-take-le k old h in
    put_at (map f (take k old)) old i (omega (arith, length-map (take k old) f)) ∙ at_map f (take k old) i (omega arith) ∙ ap f (get_or-take k old i 0 l)

-- a list is the rows of its own members
pub rows_of : {A : Type 0} (d : A) (l : List A) (n : ℕ) → n ≡ length l → rows (λ i. get_or l i d) n ≡ l
rows_of d l n e = ext_get_or d (rows (λ i. get_or l i d) n) l (length_rows (λ i. get_or l i d) n ∙ e) (λ i h. get_rows (λ i. get_or l i d) d n i (omega (arith, length_rows (λ i. get_or l i d) n)))

-- what every member passes, the one at i passes
pub all_get : {A : Type 0} {Q : A → Type 0} (d : A) (l : List A) (i : ℕ) → All Q l → i < length l → Q (get_or l i d)
all_get d [] i done h = absurd (omega arith)
all_get d (a ∷ l) zero (also q x) h = q
all_get d (a ∷ l) (suc i) (also q x) h = all_get d l i x (omega arith)

-- a column whose first cells are those of a list begins with it
pub front_is : (k : ℕ) (l new : List ℕ) → k ≤ length l → length new ≡ k → ((j : ℕ) → j < k → at l j ≡ at new j) → take k l ≡ new
front_is k l new h e c = ext_get_or 0 (take k l) new (length-take-le k l h ∙ sym e) (λ j b. let i : j < k = omega (arith, length-take-le k l h) in get_or-take k l j 0 i ∙ c j i)

-- what is written over the front of a column is written over it as it was
pub put_over : (k : ℕ) (new old mid : List ℕ) → length new ≡ k → Front k old mid → put new mid ≡ put new old
unfolding put
put_over k new old mid e f = ap (λ (z : List ℕ). new ++ z) (ext_get_or 0 (drop (length new) mid) (drop (length new) old) (omega (arith, length-drop (length new) mid, length-drop (length new) old, f.long)) (λ i l. get_or-drop (length new) mid i 0 ∙ f.past (length new + i) (omega arith) ∙ sym (get_or-drop (length new) old i 0)))
