-- The front of a column filled with the members of a list, one after the other.
use mathlib.Core.Path.{◌≡◌, refl, sym, ap, ◌∙◌}
use mathlib.Core.Bool.{Bool, true, false}
use mathlib.Core.List.{List, [], ◌∷◌, ◌++◌, map}
use Prim.Native.Nat.{ℕ, zero, suc, ◌+◌, ◌<◌, ◌≤◌}
use native.Mathlib.Omega.{arith}
use lib.Dec.{ltb}
use lib.ListN.{length, take, drop, set, get_or, length-set, length-map}
use Rattle.std.proofs.lemmas.List.{map-append}
use lib.Seq.{length-take-le, take_all, get_or-take, get_or-drop, get_or-append-add, set-get_or}
use borrow.Author.Tests.{lt-ltb, le-ltb}
use Rattle.meaning.specs.Words.{at}
use Rattle.meaning.specs.Answer.{put}
use Rattle.laws.specs.Members.{at_map}
use Rattle.keeping.specs.Fronts.{put_none, put_more}
use Rattle.keeping.proofs.Cells.{front_more, front_all, take_more}
use Rattle.order.specs.Order.{Inside}
use Rattle.writing.specs.Renamed.{renamed}

-- the first i members of l stand at the front of a column that was old
pub record Filled (l old out : List ℕ) (i : ℕ) : Type 0 where
  pub few : i ≤ length l
  pub fits : length l ≤ length old
  pub long : length out ≡ length old
  pub front : out ≡ put (take i l) old

module _ (l old : List ℕ) where
  pub fill_start : length l ≤ length old → Filled l old old 0
  fill_start h = record { few = omega arith; fits = h; long = refl; front = put_none old }

  module _ (out : List ℕ) (i : ℕ) (f : Filled l old out i) where
    pub fill_next : (v : ℕ) → i < length l → at l i ≡ v → Filled l old (set out i v) (i + 1)
    fill_next v h e = record {
      few = omega arith;
      fits = f.fits;
      long = length-set out i v ∙ f.long;
      front = ap (λ z. set z i v) f.front ∙ front_more l old i v h (omega (arith, f.fits)) e;
    }

    -- the cell still to be filled is as it was
    pub fill_old : at out i ≡ at old i
    unfolding put
    fill_old =
        let q : length (take i l) ≡ i = length-take-le i l f.few in
        let z : length (take i l) + 0 ≡ i = omega arith in
        ap (λ o. at o i) f.front
        ∙ ap (at (take i l ++ drop (length (take i l)) old)) (sym z)
        ∙ get_or-append-add (take i l) (drop (length (take i l)) old) 0 0
        ∙ get_or-drop (length (take i l)) old 0 0
        ∙ ap (at old) z

    pub fill_same : i < length l → at l i ≡ at old i → Filled l old out (i + 1)
    fill_same h e =
        let n : Filled l old (set out i (at out i)) (i + 1) = fill_next (at out i) h (e ∙ sym fill_old) in
        rw (set-get_or out i 0) at n

    pub fill_end : length l ≤ i → out ≡ put l old
    fill_end h = front_all l old out i h f.front

-- ---- the cells that a column has at the first k rows of another

module _ (f : ℕ → ℕ) (rows : List ℕ) (k : ℕ) (h : k ≤ length rows) where
  pub made_long : length (map f (take k rows)) ≡ k
  made_long = length-map (take k rows) f ∙ length-take-le k rows h

  pub made_at : (i : ℕ) → i < k → at (map f (take k rows)) i ≡ f (at rows i)
  made_at i l = at_map f (take k rows) i (omega (arith, length-take-le k rows h)) ∙ ap f (get_or-take k rows i 0 l)

-- the row at i is one of those
pub row_inside : (n : ℕ) (rows : List ℕ) (k i : ℕ) → k ≤ length rows → Inside n (take k rows) → i < k → at rows i < n
row_inside n rows k i h s l = omega (arith, s.row i (omega (arith, length-take-le k rows h)), get_or-take k rows i 0 l)

-- ---- the cells of a column at the first rows of a list, of whatever they are

-- the cells at the first i rows stand at the front of a column that was old
pub record Gathered {A : Type 0} (src : List A) (rows : List ℕ) (old out : List A) (i : ℕ) : Type 0 where
  pub long : length out ≡ length old
  pub front : (other : A) → out ≡ put (map (λ r. get_or src r other) (take i rows)) old

module _ {A : Type 0} (src : List A) (rows : List ℕ) (old : List A) where
  pub gather_start : Gathered src rows old old 0
  gather_start = record { long = refl; front = λ other. put_none old }

  pub gather_next : (out : List A) (i r : ℕ) (v : A) → r ≡ at rows i → i < length rows → i < length old → ((other : A) → v ≡ get_or src r other) → Gathered src rows old out i → Gathered src rows old (set out i v) (i + 1)
  gather_next out i r v e h k q g = record {
    long = length-set out i v ∙ g.long;
    front = λ other.
        let f : ℕ → A = λ r. get_or src r other in
        let n : length (map f (take i rows)) ≡ i = length-map (take i rows) f ∙ length-take-le i rows (omega arith) in
        let m : map f (take i rows) ++ (v ∷ []) ≡ map f (take (i + 1) rows) =
        ap (λ x. map f (take i rows) ++ (x ∷ [])) (q other ∙ ap f e)
        ∙ sym (map-append f (take i rows) (at rows i ∷ []))
        ∙ ap (map f) (take_more rows i (at rows i) h refl) in
        ap (λ z. set z i v) (g.front other)
        ∙ ap (λ j. set (put (map f (take i rows)) old) j v) (sym n)
        ∙ put_more (map f (take i rows)) old v (omega (arith, n))
        ∙ ap (λ z. put z old) m;
  }

  pub gather_end : (out : List A) (i : ℕ) → length rows ≤ i → Gathered src rows old out i → (other : A) → out ≡ put (map (λ r. get_or src r other) rows) old
  gather_end out i h g other = g.front other ∙ ap (λ l. put (map (λ r. get_or src r other) l) old) (take_all i rows h)

-- ---- a row by its new name

pub renamed_row : (names : List ℕ) (v : ℕ) → v < length names → renamed names v ≡ at names v
unfolding renamed
renamed_row names v h = rw (lt-ltb v (length names) h, renamed)

pub renamed_none : (names : List ℕ) (v : ℕ) → length names ≤ v → renamed names v ≡ v
unfolding renamed
renamed_none names v h = rw (le-ltb v (length names) h, renamed)
