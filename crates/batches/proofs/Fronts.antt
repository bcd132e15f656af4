-- A list put to the front of a column cell by cell, and the cells of joined and mapped columns.
use mathlib.Core.Path.{◌≡◌, refl, sym, ap, ap₂, ◌∙◌}
use mathlib.Core.List.{List, [], ◌∷◌, ◌++◌, map}
use Prim.Native.Nat.{ℕ, zero, suc, ◌+◌, ◌<◌, ◌≤◌, ◌-◌}
use native.Mathlib.Nat.{not-suc-le-zero, le_of_suc-le-suc}
use native.Mathlib.Omega.{arith}
use native.Mathlib.Numerals.{add-one}
use lib.ListN.{length, get_or, take, drop, set, replicate, length-append, length-drop, length-replicate, get_or-append, length-set, length-map}
use lib.Seq.{take_at, length-take-le, get_or-take}
use borrow.Rule.Slice.PartMut.{put_mid}
use Rattle.std.proofs.lemmas.List.{drop_at, drop-drop, append_assoc}
use Rattle.meaning.specs.Words.{at}
use Rattle.meaning.specs.Answer.{put}

-- ---- mapped columns

pub get_map : {A B : Type 0} (f : A → B) (l : List A) (i : ℕ) (d : A) (e : B) → i < length l → get_or (map f l) i e ≡ f (get_or l i d)
get_map f [] i d e h = absurd (omega arith)
get_map f (a ∷ l) zero d e h = refl
get_map f (a ∷ l) (suc i) d e h = get_map f l i d e (omega arith)

-- ---- a column filled from the front

-- one more cell
one_more : {A : Type 0} (d : A) (s o : List A) (i : ℕ) → i < length s → i < length o → set (take i s ++ drop i o) i (get_or s i d) ≡ take (suc i) s ++ drop (suc i) o
one_more d [] o i h k = absurd (not-suc-le-zero h)
one_more d (x ∷ s) [] i h k = absurd (not-suc-le-zero k)
one_more d (x ∷ s) (y ∷ o) zero h k = refl
one_more {A} d (x ∷ s) (y ∷ o) (suc i) h k = ap (λ (r : List A). x ∷ r) (one_more d s o i (le_of_suc-le-suc h) (le_of_suc-le-suc k))

take_whole : {A : Type 0} (l : List A) → take (length l) l ≡ l
take_whole [] = refl
take_whole (a ∷ l) = ap (λ r. a ∷ r) (take_whole l)

-- after i cells
pub record Front {A : Type 0} (l old : List A) (i : ℕ) (out : List A) : Type 0 where
  pub long : length out ≡ length old
  pub cells : out ≡ take i l ++ drop i old

pub front_none : {A : Type 0} (l old : List A) → Front l old 0 old
front_none l old = record { long = refl; cells = refl }

front_by : {A : Type 0} (d : A) (l old : List A) (i : ℕ) (out : List A) (v : A) → i < length l → i < length old → v ≡ get_or l i d → Front l old i out → Front l old (i + 1) (set out i v)
front_by {A} d l old i out v h k e f = record {
  long = length-set out i v ∙ f.long;
  cells = ap (λ (o : List A). set o i v) f.cells ∙ ap (set (take i l ++ drop i old) i) e ∙ one_more d l old i h k ∙ rw add-one;
}

pub front_more : (l old : List ℕ) (i : ℕ) (out : List ℕ) (v : ℕ) → i < length l → i < length old → v ≡ at l i → Front l old i out → Front l old (i + 1) (set out i v)
front_more = front_by 0

pub front_whole : {A : Type 0} (l old : List A) (i : ℕ) (out : List A) → i ≡ length l → Front l old i out → out ≡ put l old
unfolding put
front_whole {A} l old i out e f = f.cells ∙ ap (λ k. take k l ++ drop k old) e ∙ ap (λ (r : List A). r ++ drop (length l) old) (take_whole l)

-- after the cells that the first i rows name
pub record Gathered {A : Type 0} (src : List A) (rows : List ℕ) (old out : List A) (i : ℕ) : Type 0 where
  pub few : i ≤ length rows
  pub long : length out ≡ length old
  pub front : (other : A) → Front (map (λ r. get_or src r other) rows) old i out

module _ {A : Type 0} (src : List A) (rows : List ℕ) (old : List A) where
  pub gather_start : Gathered src rows old old 0
  gather_start = record { few = omega arith; long = refl; front = λ other. front_none (map (λ r. get_or src r other) rows) old }

  module _ (out : List A) (i : ℕ) where
    pub gather_next : (r : ℕ) (v : A) → r ≡ at rows i → i < length rows → length rows ≤ length old → ((other : A) → v ≡ get_or src r other) → Gathered src rows old out i → Gathered src rows old (set out i v) (i + 1)
    gather_next r v q h k e f = record {
      few = omega arith;
      long = length-set out i v ∙ f.long;
      front = λ other.
          let l : List A = map (λ r. get_or src r other) rows in
          let m : length l ≡ length rows = length-map rows (λ r. get_or src r other) in
          front_by other l old i out v (omega arith) (omega arith) (e other ∙ ap (λ j. get_or src j other) q ∙ sym (get_map (λ r. get_or src r other) rows i 0 other h)) (f.front other);
    }

    pub gather_end : length rows ≤ i → Gathered src rows old out i → (other : A) → out ≡ put (map (λ r. get_or src r other) rows) old
    gather_end h f other =
        let m : length (map (λ r. get_or src r other) rows) ≡ length rows = length-map rows (λ r. get_or src r other) in
        front_whole (map (λ r. get_or src r other) rows) old i out (omega (arith, f.few)) (f.front other)

-- ---- joined columns

-- a column is written over the front, and a second one over what follows
pub appended : {A : Type 0} (a b old pa pb : List A) (k : ℕ) → k ≡ length b → pa ≡ a → pb ≡ b → put_mid (length a) k (pa ++ drop (length a) old) pb ≡ put (a ++ b) old
unfolding put
appended {A} a b old pa pb k e p q =
    let x : List A = drop (length a) old in
    ap (λ (l : List A). put_mid (length a) k (l ++ x) pb) p
    ∙ ap (λ (l : List A). put_mid (length a) k (a ++ x) l) q
    ∙ ap (λ j. put_mid (length a) j (a ++ x) b) e
    ∙ ap₂ (λ (s t : List A). s ++ (b ++ drop (length b) t)) (take_at a x (length a) refl) (drop_at a x (length a) refl)
    ∙ ap (λ (t : List A). a ++ (b ++ t)) (drop-drop (length b) (length a) old)
    ∙ sym (append_assoc a b (drop (length a + length b) old))
    ∙ ap (λ j. (a ++ b) ++ drop j old) (sym (length-append a b))

module _ {A : Type 0} (d : A) (a b : List A) (i : ℕ) where
  pub get_left : i < length a → get_or (a ++ b) i d ≡ get_or a i d
  get_left h = get_or-append a b d i h

  pub get_right : length a ≤ i → get_or (a ++ b) i d ≡ get_or b (i - length a) d
  get_right h = go a i h
    where
      go : (a : List A) (i : ℕ) → length a ≤ i → get_or (a ++ b) i d ≡ get_or b (i - length a) d
      go [] i h = let q : i ≡ i - 0 = omega arith in ap (λ k. get_or b k d) q
      go (x ∷ a) zero h = absurd (omega arith)
      go (x ∷ a) (suc i) h = let q : i - length a ≡ suc i - length (x ∷ a) = omega arith in go a i (omega arith) ∙ ap (λ k. get_or b k d) q

-- ---- a column with a list at its front

module _ (l old : List ℕ) (h : length l ≤ length old) where
  pub put_long : length (put l old) ≡ length old
  unfolding put
  put_long = simp (length-append, length-drop) (omega arith)

  pub put_front : take (length l) (put l old) ≡ l
  unfolding put
  put_front = take_at l (drop (length l) old) (length l) refl

pub length_mapped : (rows names : List ℕ) (f : ℕ → ℕ) → length (rows ++ map f names) ≡ length rows + length names
length_mapped rows names f = length-append rows (map f names) ∙ ap (λ n. length rows + n) (length-map names f)

-- a cell that is written already
pub front_cell : (l old : List ℕ) (i : ℕ) (out : List ℕ) → Front l old i out → (j : ℕ) → j < i → i ≤ length l → at out j ≡ at l j
front_cell l old i out f j h k =
    let q : length (take i l) ≡ i = length-take-le i l k in
    ap (λ o. at o j) f.cells ∙ get_left 0 (take i l) (drop i old) j (omega arith) ∙ get_or-take i l j 0 h

-- ---- the front of a column, lent as a part

module _ (l old out : List ℕ) (n : ℕ) (e : out ≡ put l old) (h : length l ≤ length old) (q : n ≡ length l) where
  pub part_room : n ≤ length out
  part_room = omega (arith, ap length e ∙ put_long l old h)

  pub part : take n out ≡ l
  part = ap₂ take q e ∙ put_front l old h

  pub part_long : n ≡ length (take n out)
  part_long = sym (ap length part ∙ sym q)

-- two columns in a row, at the front of a column on the stack
module _ (a b : List ℕ) (most : ℕ) {out : List ℕ} (e : out ≡ put (a ++ b) (replicate most 0)) (h : length a + length b ≤ most) where
  room : length (a ++ b) ≤ length {A = ℕ} (replicate most 0)
  room = simp (length-append, length-replicate) h

  pub joined_room : length a + length b ≤ length out
  joined_room = part_room (a ++ b) (replicate most 0) out (length a + length b) e room (sym (length-append a b))

  pub joined_long : length a + length b ≡ length (take (length a + length b) out)
  joined_long = part_long (a ++ b) (replicate most 0) out (length a + length b) e room (sym (length-append a b))

  pub joined_part : take (length a + length b) out ≡ a ++ b
  joined_part = part (a ++ b) (replicate most 0) out (length a + length b) e room (sym (length-append a b))

-- a column's cells under a function, likewise
module _ (f : ℕ → ℕ) (l : List ℕ) (most n : ℕ) {out : List ℕ} (e : out ≡ put (map f l) (replicate most 0)) (q : length l ≡ n) (h : n ≤ most) where
  fits : length (map f l) ≤ length {A = ℕ} (replicate most 0)
  fits = simp (length-map, length-replicate) (omega arith)

  long : n ≡ length (map f l)
  long = sym (length-map l f ∙ q)

  pub mapped_room : n ≤ length out
  mapped_room = part_room (map f l) (replicate most 0) out n e fits long

  pub mapped_long : n ≡ length (take n out)
  mapped_long = part_long (map f l) (replicate most 0) out n e fits long

  pub mapped_part : take n out ≡ map f l
  mapped_part = part (map f l) (replicate most 0) out n e fits long

-- a list put into a column that is as long leaves nothing of it
pub put_whole : (l old : List ℕ) → length old ≡ length l → put l old ≡ l
unfolding put
put_whole [] [] e = refl
put_whole [] (y ∷ o) e = absurd (omega arith)
put_whole (x ∷ l) [] e = absurd (omega arith)
put_whole (x ∷ l) (y ∷ o) e = ap (λ (r : List ℕ). x ∷ r) (put_whole l o (omega arith))

-- a list put over a shorter one leaves nothing of it
pub put_over : (l w old : List ℕ) → length w ≤ length l → length l ≤ length old → put l (put w old) ≡ put l old
unfolding put
put_over l w old h k = ap (λ r. l ++ r) (drop_over l w old h k)
  where
    drop_over : (l w old : List ℕ) → length w ≤ length l → length l ≤ length old → drop (length l) (w ++ drop (length w) old) ≡ drop (length l) old
    drop_over l [] old h k = refl
    drop_over [] (x ∷ w) old h k = absurd (omega arith)
    drop_over (y ∷ l) (x ∷ w) [] h k = absurd (omega arith)
    drop_over (y ∷ l) (x ∷ w) (z ∷ old) h k = drop_over l w old (omega arith) (omega arith)
