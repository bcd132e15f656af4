-- Order: "compared in that order" for lists of numbers, edges by edge key, nodes by (time, birth), and sorted lists known by their members.
use Rattle.std.proofs.Math.Path.{◌≡◌, refl, ap}
use Rattle.std.proofs.Common.{sym, ap₂, ◌∙◌, ⊎_elim, arith, eqb-true, eq-eqb, lt-ltb, le-ltb, ltb-true, ltb-false}
use Rattle.std.specs.Prelude.{Bool, ℕ, ◌<◌, eqb, ltb, length}
use Rattle.std.proofs.Math.Bool.{true, false}
use mathlib.Core.List.{List, [], ◌∷◌}
use Rattle.std.proofs.lemmas.Bool.{eqb-false}
use Rattle.meaning.specs.Words.{at, mem, lex, insert, sort}
use Rattle.meaning.specs.Rows.{Node, Edge, time_of, edge_key}
use Rattle.meaning.specs.Clean.{before}
use Rattle.meaning.specs.Join.{keyed}
use Rattle.laws.specs.Bools.{clash, truth, eq?, bool_ext, not_true}
use Rattle.laws.specs.Members.{mem_nil, mem_here, mem_there, mem_cases}
use Rattle.laws.specs.Facts.{Distinct, nil, cons}

-- ---- lists of numbers

-- the first number that differs decides
pub data Less : List ℕ → List ℕ → Type 0 where
  sooner : {a b : ℕ} {l m : List ℕ} → a < b → Less (a ∷ l) (b ∷ m)
  tied : {a b : ℕ} {l m : List ℕ} → a ≡ b → Less l m → Less (a ∷ l) (b ∷ m)

pub less_of : (l m : List ℕ) → lex l m ≡ true → Less l m
unfolding lex
less_of [] m h = absurd (clash h refl)
less_of (a ∷ l) [] h = absurd (clash h refl)
less_of (a ∷ l) (b ∷ m) h = go (ltb a b) refl (eqb a b) refl (λ k. less_of l m k)
  where
    go : (t : Bool) → ltb a b ≡ t → (e : Bool) → eqb a b ≡ e → (lex l m ≡ true → Less l m) → Less (a ∷ l) (b ∷ m)
    go true p e q ih = sooner (ltb-true a b p)
    go false p true q ih = tied (eqb-true a b q) (ih (rw q at (rw (p, lex) at h)))
    go false p false q ih = absurd (clash (rw q at (rw (p, lex) at h)) refl)

pub of_less : (l m : List ℕ) → Less l m → lex l m ≡ true
unfolding lex
of_less [] m x' = elim x' [ ]
of_less (a ∷ l) [] x3 = elim x3 [ ]
of_less (a ∷ l) (b ∷ m) (sooner p) = rw (lt-ltb a b p, lex)
of_less (a ∷ l) (b ∷ m) (tied p q) = rw (le-ltb a b (omega arith), lex) (rw (eq-eqb a b p) (of_less l m q))

less_irrefl : (l : List ℕ) → Less l l → ⊥
less_irrefl [] x' = elim x' [ ]
less_irrefl (a ∷ l) (sooner p) = omega arith
less_irrefl (a ∷ l) (tied p q) = less_irrefl l q

less_trans : (l m n : List ℕ) → Less l m → Less m n → Less l n
less_trans [] m n x'' _ = elim x'' [ ]
less_trans (a ∷ l) [] n x5 _ = elim x5 [ ]
less_trans (a ∷ l) (b ∷ m) [] _ x9 = elim x9 [ ]
less_trans (a ∷ l) (b ∷ m) (c ∷ n) (sooner p) (sooner q) = let z : a < c = omega arith in sooner z
less_trans (a ∷ l) (b ∷ m) (c ∷ n) (sooner p) (tied q y) = let z : a < c = omega arith in sooner z
less_trans (a ∷ l) (b ∷ m) (c ∷ n) (tied p x) (sooner q) = let z : a < c = omega arith in sooner z
less_trans (a ∷ l) (b ∷ m) (c ∷ n) (tied p x) (tied q y) = tied (p ∙ q) (less_trans l m n x y)

pub lex_irrefl : (l : List ℕ) → lex l l ≡ false
lex_irrefl l = not_true (lex l l) (λ h. less_irrefl l (less_of l l h))

pub lex_trans : (l m n : List ℕ) → lex l m ≡ true → lex m n ≡ true → lex l n ≡ true
lex_trans l m n g h = of_less l n (less_trans l m n (less_of l m g) (less_of m n h))

-- two lists of one length are equal, or one is below the other
pub lex_apart : (l m : List ℕ) → length l ≡ length m → (l ≡ m → ⊥) → lex l m ≡ false → lex m l ≡ true
lex_apart [] [] q n h = absurd (n refl)
lex_apart [] (b ∷ m) q n h = absurd (omega arith)
lex_apart (a ∷ l) [] q n h = absurd (omega arith)
lex_apart (a ∷ l) (b ∷ m) q n h = go (ltb b a) refl (eqb a b) refl (λ x y. lex_apart l m (omega arith) x y)
  where
    not_sooner : ltb a b ≡ false
    not_sooner = not_true (ltb a b) (λ k. clash (of_less (a ∷ l) (b ∷ m) (sooner (ltb-true a b k))) h)

    go : (t : Bool) → ltb b a ≡ t → (e : Bool) → eqb a b ≡ e → ((l ≡ m → ⊥) → lex l m ≡ false → lex m l ≡ true) → lex (b ∷ m) (a ∷ l) ≡ true
    go true p e r ih = of_less (b ∷ m) (a ∷ l) (sooner (ltb-true b a p))
    go false p true r ih =
        let s : a ≡ b = eqb-true a b r in
        of_less (b ∷ m) (a ∷ l) (tied (sym s) (less_of m l (ih (λ (x : l ≡ m). n (ap₂ ◌∷◌ s x)) (not_true (lex l m) (λ k. clash (of_less (a ∷ l) (b ∷ m) (tied s (less_of l m k))) h)))))
    go false p false r ih = absurd (eqb-false a b r (omega (arith, ltb-false b a p, ltb-false a b not_sooner)))

-- ---- edges by edge key

module _ (N : List Node) where
  pub keyed_irrefl : (e : Edge) → keyed N e e ≡ false
  unfolding keyed
  keyed_irrefl e = lex_irrefl (edge_key (time_of N) e)

  pub keyed_trans : (c d e : Edge) → keyed N c d ≡ true → keyed N d e ≡ true → keyed N c e ≡ true
  unfolding keyed
  keyed_trans c d e g h = lex_trans (edge_key (time_of N) c) (edge_key (time_of N) d) (edge_key (time_of N) e) g h

  -- edges with different keys are one below the other
  pub keyed_apart : (d e : Edge) → (edge_key (time_of N) d ≡ edge_key (time_of N) e → ⊥) → keyed N d e ≡ false → keyed N e d ≡ true
  unfolding keyed edge_key
  keyed_apart d e n h = lex_apart (edge_key (time_of N) d) (edge_key (time_of N) e) refl n h

-- ---- sorted lists of numbers

-- a strict order that tells any two numbers apart
pub record Order (lt : ℕ → ℕ → Bool) : Type 0 where
  pub irrefl : (a : ℕ) → lt a a ≡ false
  pub trans : (a b c : ℕ) → lt a b ≡ true → lt b c ≡ true → lt a c ≡ true
  pub total : (a b : ℕ) → (a ≡ b → ⊥) → lt a b ≡ false → lt b a ≡ true

-- each number is below all that follow it
pub data Sorted (lt : ℕ → ℕ → Bool) : List ℕ → Type 0 where
  none_left : Sorted lt []
  least : {a : ℕ} {l : List ℕ} → ((b : ℕ) → mem b l ≡ true → lt a b ≡ true) → Sorted lt l → Sorted lt (a ∷ l)

module _ (lt : ℕ → ℕ → Bool) where
  pub mem_insert : (b a : ℕ) (l : List ℕ) → mem b (insert lt a l) ≡ mem b (a ∷ l)
  unfolding insert mem
  mem_insert b a [] = refl
  mem_insert b a (c ∷ l) = go (lt a c) refl (mem_insert b a l)
    where
      swap : (s t m : Bool) → ◌≡◌ {A = Bool} (elim s [ true ↦ true | false ↦ elim t [ true ↦ true | false ↦ m ] ]) (elim t [ true ↦ true | false ↦ elim s [ true ↦ true | false ↦ m ] ])
      swap true true m = refl
      swap true false m = refl
      swap false true m = refl
      swap false false m = refl

      go : (t : Bool) → lt a c ≡ t → mem b (insert lt a l) ≡ mem b (a ∷ l) → mem b (insert lt a (c ∷ l)) ≡ mem b (a ∷ c ∷ l)
      go true e ih = rw (e, insert)
      go false e ih = rw (e, insert) (ap (λ (m : Bool). elim (eqb b c) [ true ↦ true | false ↦ m ]) ih ∙ swap (eqb b c) (eqb b a) (mem b l))

  pub mem_sort : (b : ℕ) (l : List ℕ) → mem b (sort lt l) ≡ mem b l
  unfolding sort mem
  mem_sort b [] = refl
  mem_sort b (a ∷ l) = mem_insert b a (sort lt l) ∙ ap (λ (m : Bool). elim (eqb b a) [ true ↦ true | false ↦ m ]) (mem_sort b l)

module _ (lt : ℕ → ℕ → Bool) (o : Order lt) where
  pub insert_sorted : (a : ℕ) (l : List ℕ) → mem a l ≡ false → Sorted lt l → Sorted lt (insert lt a l)
  unfolding insert
  insert_sorted a [] n none_left = least (λ b m. absurd (mem_nil b m)) none_left
  insert_sorted a (c ∷ l) n (least f s) = go (lt a c) refl (λ k. insert_sorted a l k s)
    where
      apart : a ≡ c → ⊥
      apart q = clash (mem_here a c l q) n

      tail_free : mem a l ≡ false
      tail_free = ⊎_elim (λ (m : mem a l ≡ true). absurd (clash (mem_there a c l m) n)) (λ m. m) (truth (mem a l))

      go : (t : Bool) → lt a c ≡ t → (mem a l ≡ false → Sorted lt (insert lt a l)) → Sorted lt (insert lt a (c ∷ l))
      go true e ih = rw (e, insert) (least (λ b m. ⊎_elim (λ (q : b ≡ c). rw q e) (λ (k : mem b l ≡ true). o.trans a c b e (f b k)) (mem_cases b c l m)) (least f s))
      go false e ih = rw (e, insert)
          (least (λ b m. ⊎_elim (λ (q : b ≡ a). rw q (o.total a c apart e)) (λ (k : mem b l ≡ true). f b k) (mem_cases b a l (sym (mem_insert lt b a l) ∙ m))) (ih tail_free))

  pub sort_sorted : (l : List ℕ) → Distinct l → Sorted lt (sort lt l)
  unfolding sort
  sort_sorted [] nil = none_left
  sort_sorted (a ∷ l) (cons n d) = insert_sorted a (sort lt l) (mem_sort lt a l ∙ n) (sort_sorted l d)

  -- a sorted list is known by its members
  pub sorted_unique : (l m : List ℕ) → Sorted lt l → Sorted lt m → ((b : ℕ) → mem b l ≡ mem b m) → l ≡ m
  sorted_unique [] [] s t h = refl
  sorted_unique [] (b ∷ m) s t h = absurd (mem_nil b (h b ∙ mem_here b b m refl))
  sorted_unique (a ∷ l) [] s t h = absurd (mem_nil a (sym (h a) ∙ mem_here a a l refl))
  sorted_unique (a ∷ l) (b ∷ m) (least f s) (least g t) h = ap₂ ◌∷◌ heads (sorted_unique l m s t tails)
    where
      heads : a ≡ b
      heads = ⊎_elim (λ q. q) (λ (k : mem a m ≡ true). ⊎_elim (λ q. sym q) (λ (i : mem b l ≡ true). absurd (clash (o.trans a b a (f b i) (g a k)) (o.irrefl a)))
          (mem_cases b a l (h b ∙ mem_here b b m refl))) (mem_cases a b m (sym (h a) ∙ mem_here a a l refl))

      tails : (c : ℕ) → mem c l ≡ mem c m
      tails c = bool_ext
          (λ (k : mem c l ≡ true). ⊎_elim (λ (q : c ≡ b). absurd (clash (f c k) (rw (q ∙ sym heads) (o.irrefl a)))) (λ i. i) (mem_cases c b m (sym (h c) ∙ mem_there c a l k)))
          (λ (k : mem c m ≡ true). ⊎_elim (λ (q : c ≡ a). absurd (clash (g c k) (rw (q ∙ heads) (o.irrefl b)))) (λ i. i) (mem_cases c a l (h c ∙ mem_there c b m k)))

pub ltb_order : Order ltb
ltb_order = record {
  irrefl = λ a. le-ltb a a (omega arith);
  trans = λ a b c e f. lt-ltb a c (omega (arith, ltb-true a b e, ltb-true b c f));
  total = λ a b n e. ⊎_elim (λ (q : a ≡ b). absurd (n q)) (λ (m : a ≡ b → ⊥). lt-ltb b a (omega (arith, ltb-false a b e))) (eq? a b);
}

-- by (time, birth)
pub before_order : (time : ℕ → ℕ) → Order (before time)
unfolding before
before_order time = record {
  irrefl = λ a. lex_irrefl (time a ∷ a ∷ []);
  trans = λ a b c e f. lex_trans (time a ∷ a ∷ []) (time b ∷ b ∷ []) (time c ∷ c ∷ []) e f;
  total = λ a b n e. lex_apart (time a ∷ a ∷ []) (time b ∷ b ∷ []) refl (λ q. n (ap (λ (l : List ℕ). at l 1) q)) e;
}

module _ (lt : ℕ → ℕ → Bool) (o : Order lt) where
  pub sorted_distinct : {l : List ℕ} → Sorted lt l → Distinct l
  sorted_distinct none_left = nil
  sorted_distinct (least {a} {l} f s) = cons (⊎_elim (λ (m : mem a l ≡ true). absurd (clash (f a m) (o.irrefl a))) (λ m. m) (truth (mem a l))) (sorted_distinct s)

pub sorted_as : (lt gt : ℕ → ℕ → Bool) {l : List ℕ} → ((a b : ℕ) → mem a l ≡ true → mem b l ≡ true → lt a b ≡ gt a b) → Sorted lt l → Sorted gt l
sorted_as lt gt h none_left = none_left
sorted_as lt gt h (least {a} {l} f s) = least (λ b m. sym (h a b (mem_here a a l refl) (mem_there b a l m)) ∙ f b m) (sorted_as lt gt (λ c d i j. h c d (mem_there c a l i) (mem_there d a l j)) s)

-- ---- times that agree on a list

module _ (t u : ℕ → ℕ) where
  pub before_same : (a b : ℕ) → t a ≡ u a → t b ≡ u b → before t a b ≡ before u a b
  unfolding before
  before_same a b e f = rw e (rw f)

  pub sort_same : (l : List ℕ) → Distinct l → ((b : ℕ) → mem b l ≡ true → t b ≡ u b) → sort (before t) l ≡ sort (before u) l
  sort_same l d h = sorted_unique (before u) (before_order u) (sort (before t) l) (sort (before u) l)
      (sorted_as (before t) (before u) (λ a b i j. before_same a b (h a (sym (mem_sort (before t) a l) ∙ i)) (h b (sym (mem_sort (before t) b l) ∙ j))) (sort_sorted (before t) (before_order t) l d))
      (sort_sorted (before u) (before_order u) l d)
      (λ b. mem_sort (before t) b l ∙ sym (mem_sort (before u) b l))
