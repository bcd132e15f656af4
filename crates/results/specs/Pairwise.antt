-- Each member of a list with every later one: by places, in joined lists and in sorted ones.
use Rattle.std.specs.Prelude.{◌≡◌, Bool, ℕ, zero, suc, ◌<◌, length, get_or}
use Rattle.std.proofs.Math.Path.{refl, ap}
use Rattle.std.proofs.Common.{◌∙◌, arith}
use Rattle.std.proofs.Math.Bool.{true, false}
use mathlib.Core.List.{List, [], ◌∷◌, ◌++◌, map}
use Rattle.meaning.specs.Words.{at, rows, insert, sort}
use Rattle.meaning.specs.Rows.{Mutation}
use Rattle.laws.specs.Counting.{length_rows, get_rows}
use Rattle.laws.specs.Facts.{All, done, also}
use Rattle.history.specs.Lists.{all_app, all_to, all_sort}
use Rattle.history.specs.Pairs.{Pairs, no_pair, with_all}
use Rattle.encoding.specs.Ascending.{Ascending, empty, first}

-- Q holds of each member and every later one
pub data Pairwise {A : Type 0} (Q : A → A → Type 0) : List A → Type 0 where
  lone : Pairwise Q []
  before_rest : {a : A} {l : List A} → All (Q a) l → Pairwise Q l → Pairwise Q (a ∷ l)

-- ---- by places

module _ {A : Type 0} {Q : A → Type 0} (d : A) where
  pub all_get : (l : List A) → All Q l → (i : ℕ) → i < length l → Q (get_or l i d)
  all_get [] done i h = absurd (omega arith)
  all_get (a ∷ l) (also q x) zero h = q
  all_get (a ∷ l) (also q x) (suc i) h = all_get l x i (omega arith)

  pub get_all : (l : List A) → ((i : ℕ) → i < length l → Q (get_or l i d)) → All Q l
  get_all [] h = done
  get_all (a ∷ l) h = also (h 0 (omega arith)) (get_all l (λ i k. h (suc i) (omega arith)))

module _ {A : Type 0} {Q : A → A → Type 0} (d : A) where
  pub pairwise_get : (l : List A) → Pairwise Q l → (i j : ℕ) → j < i → i < length l → Q (get_or l j d) (get_or l i d)
  pairwise_get [] lone i j k h = absurd (omega arith)
  pairwise_get (a ∷ l) (before_rest x p) zero j k h = absurd (omega arith)
  pairwise_get (a ∷ l) (before_rest x p) (suc i) zero k h = all_get d l x i (omega arith)
  pairwise_get (a ∷ l) (before_rest x p) (suc i) (suc j) k h = pairwise_get l p i j (omega arith) (omega arith)

  pub get_pairwise : (l : List A) → ((i j : ℕ) → j < i → i < length l → Q (get_or l j d) (get_or l i d)) → Pairwise Q l
  get_pairwise [] h = lone
  get_pairwise (a ∷ l) h = before_rest (get_all d l (λ i k. h (suc i) 0 (omega arith) (omega arith))) (get_pairwise l (λ i j k m. h (suc i) (suc j) (omega arith) (omega arith)))

-- what holds of each two rows holds of the list
pub pairwise_rows : {A : Type 0} (Q : A → A → Type 0) (f : ℕ → A) (n : ℕ) → ((i j : ℕ) → j < i → i < n → Q (f j) (f i)) → Pairwise Q (rows f n)
pairwise_rows Q f n h = get_pairwise (f 0) (rows f n) (λ i j k m. cells i j k (omega (arith, length_rows f n)))
  where
    cells : (i j : ℕ) → j < i → i < n → Q (get_or (rows f n) j (f 0)) (get_or (rows f n) i (f 0))
    cells i j k m = rw (get_rows f (f 0) n i m) (rw (get_rows f (f 0) n j (omega arith)) (h i j k m))

-- a cell of a column made from a list
pub at_map : {A : Type 0} (f : A → ℕ) (d : A) (l : List A) (i : ℕ) → i < length l → at (map f l) i ≡ f (get_or l i d)
at_map f d [] i h = absurd (omega arith)
at_map f d (a ∷ l) zero h = refl
at_map f d (a ∷ l) (suc i) h = at_map f d l i (omega arith)

-- ---- other forms of the same

pub of_pairs : {Q : Mutation → Mutation → Type 0} {l : List Mutation} → Pairs Q l → Pairwise Q l
of_pairs no_pair = lone
of_pairs (with_all x p) = before_rest x (of_pairs p)

pub to_pairs : {Q : Mutation → Mutation → Type 0} {l : List Mutation} → Pairwise Q l → Pairs Q l
to_pairs lone = no_pair
to_pairs (before_rest x p) = with_all x (to_pairs p)

pub of_ascending : {A : Type 0} {lt : A → A → Bool} {l : List A} → Ascending lt l → Pairwise (λ a b. lt a b ≡ true) l
of_ascending empty = lone
of_ascending (first x p) = before_rest x (of_ascending p)

-- ---- from one relation to another, for members of which P holds

pub all_with : {A : Type 0} {P Q W : A → Type 0} {l : List A} → ((a : A) → P a → Q a → W a) → All P l → All Q l → All W l
all_with h done done = done
all_with h (also p x) (also q y) = also (h _ p q) (all_with h x y)

pub pairwise_with : {A : Type 0} {P : A → Type 0} {Q W : A → A → Type 0} {l : List A} → ((a b : A) → P a → P b → Q a b → W a b) → All P l → Pairwise Q l → Pairwise W l
pairwise_with h done lone = lone
pairwise_with h (also p x) (before_rest y r) = before_rest (all_with (λ b. h _ b p) x y) (pairwise_with h x r)

pub pairwise_app : {A : Type 0} {Q : A → A → Type 0} (l m : List A) → Pairwise Q l → Pairwise Q m → All (λ a. All (Q a) m) l → Pairwise Q (l ++ m)
pairwise_app [] m lone q h = q
pairwise_app (a ∷ l) m (before_rest x p) q (also y h) = before_rest (all_app x y) (pairwise_app l m p q h)

-- what holds of any two holds of each two of a list
pub pairwise_any : {A : Type 0} (Q : A → A → Type 0) → ((a b : A) → Q a b) → (l : List A) → Pairwise Q l
pairwise_any Q h [] = lone
pairwise_any {A} Q h (a ∷ l) = before_rest (each l) (pairwise_any Q h l)
  where
    each : (k : List A) → All (Q a) k
    each [] = done
    each (b ∷ k) = also (h a b) (each k)

-- ---- sorted lists

all_insert : {A : Type 0} {Q : A → Type 0} (lt : A → A → Bool) (a : A) (l : List A) → Q a → All Q l → All Q (insert lt a l)
unfolding insert
all_insert lt a [] q done = also q done
all_insert {Q = Q} lt a (b ∷ l) q (also p x) = go (lt a b) refl (all_insert lt a l q x)
  where
    go : (t : Bool) → lt a b ≡ t → All Q (insert lt a l) → All Q (insert lt a (b ∷ l))
    go true e ih = rw (e, insert) (also q (also p x))
    go false e ih = rw (e, insert) (also p ih)

module _ {A : Type 0} {Q : A → A → Type 0} (turn : (a b : A) → Q a b → Q b a) (lt : A → A → Bool) where
  insert_pairwise : (a : A) (l : List A) → All (Q a) l → Pairwise Q l → Pairwise Q (insert lt a l)
  unfolding insert
  insert_pairwise a [] done lone = before_rest done lone
  insert_pairwise a (b ∷ l) (also q x) (before_rest y p) = go (lt a b) refl (insert_pairwise a l x p)
    where
      go : (t : Bool) → lt a b ≡ t → Pairwise Q (insert lt a l) → Pairwise Q (insert lt a (b ∷ l))
      go true e ih = rw (e, insert) (before_rest (also q x) (before_rest y p))
      go false e ih = rw (e, insert) (before_rest (all_insert lt a l (turn a b q) y) ih)

  -- a sort keeps what holds of each two, whichever comes first
  pub sort_pairwise : (l : List A) → Pairwise Q l → Pairwise Q (sort lt l)
  unfolding sort
  sort_pairwise [] lone = lone
  sort_pairwise (a ∷ l) (before_rest x p) = insert_pairwise a (sort lt l) (all_sort lt l x) (sort_pairwise l p)

module _ {A : Type 0} (lt : A → A → Bool) where
  -- a list in order is its own sort
  pub sort_ordered : (l : List A) → Pairwise (λ a b. lt a b ≡ true) l → sort lt l ≡ l
  unfolding sort insert
  sort_ordered [] lone = refl
  sort_ordered (a ∷ l) (before_rest x p) = ap (insert lt a) (sort_ordered l p) ∙ front l x
    where
      front : (l : List A) → All (λ b. lt a b ≡ true) l → insert lt a l ≡ a ∷ l
      front [] done = refl
      front (b ∷ l) (also e x) = rw (e, insert)

  module _ (trans : (a b c : A) → lt a b ≡ true → lt b c ≡ true → lt a c ≡ true) {Q : A → A → Type 0} (total : (a b : A) → Q a b → lt a b ≡ false → lt b a ≡ true) where
    insert_order : (a : A) (l : List A) → All (Q a) l → Pairwise (λ a b. lt a b ≡ true) l → Pairwise (λ a b. lt a b ≡ true) (insert lt a l)
    unfolding insert
    insert_order a [] done lone = before_rest done lone
    insert_order a (b ∷ l) (also q x) (before_rest y p) = go (lt a b) refl (insert_order a l x p)
      where
        go : (t : Bool) → lt a b ≡ t → Pairwise (λ a b. lt a b ≡ true) (insert lt a l) → Pairwise (λ a b. lt a b ≡ true) (insert lt a (b ∷ l))
        go true e ih = rw (e, insert) (before_rest (also e (all_to (λ c. trans a b c e) y)) (before_rest y p))
        go false e ih = rw (e, insert) (before_rest (all_insert lt a l (total a b q e) y) ih)

    -- members of which each two are one below the other stand in order when they are sorted
    pub sort_order : (l : List A) → Pairwise Q l → Pairwise (λ a b. lt a b ≡ true) (sort lt l)
    unfolding sort
    sort_order [] lone = lone
    sort_order (a ∷ l) (before_rest x p) = insert_order a (sort lt l) (all_sort lt l x) (sort_order l p)
