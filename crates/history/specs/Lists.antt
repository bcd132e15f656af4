-- Lists: some or every member of a list made by joining, by each, by sorting or by filtering.
use Rattle.std.specs.Prelude.{◌≡◌, Bool, ◌⊎◌, ℕ}
use Rattle.std.proofs.Math.Path.{refl}
use Rattle.std.proofs.Common.{ap, inl, inr}
use Rattle.std.proofs.Math.Bool.{true, false}
use mathlib.Core.List.{List, [], ◌∷◌, ◌++◌, map}
use Rattle.std.proofs.Math.Logic.{⊎_elim}
use Rattle.meaning.specs.Words.{mem, each, insert, sort, filter}
use Rattle.laws.specs.Bools.{clash, truth}
use Rattle.laws.specs.Members.{mem_nil, mem_here, mem_there, mem_cases, mem_split}
use Rattle.laws.specs.Facts.{Distinct, nil, cons, Any, now, later, All, done, also}

-- ---- some member

module _ {A : Type 0} {Q : A → Type 0} where
  pub any_left : {a : List A} (b : List A) → Any Q a → Any Q (a ++ b)
  any_left b (now q) = now q
  any_left b (later x) = later (any_left b x)

  pub any_right : (a : List A) {b : List A} → Any Q b → Any Q (a ++ b)
  any_right [] x = x
  any_right (c ∷ a) x = later (any_right a x)

  pub any_split : (a : List A) {b : List A} → Any Q (a ++ b) → Any Q a ⊎ Any Q b
  any_split [] x = inr x
  any_split (c ∷ a) (now q) = inl (now q)
  any_split (c ∷ a) (later x) = ⊎_elim (λ y. inl (later y)) (λ y. inr y) (any_split a x)

  pub any_each : (f : ℕ → List A) (a : ℕ) (l : List ℕ) → mem a l ≡ true → Any Q (f a) → Any Q (each f l)
  unfolding each mem
  any_each f a [] m x = absurd (clash m refl)
  any_each f a (b ∷ l) m x = go (mem_cases a b l m) (λ k. any_each f a l k x)
    where
      go : (a ≡ b) ⊎ (mem a l ≡ true) → (mem a l ≡ true → Any Q (each f l)) → Any Q (each f (b ∷ l))
      go (inl q) ih = any_left (each f l) (rw q at x)
      go (inr k) ih = any_right (f b) (ih k)

  pub each_any : (f : ℕ → List A) (l : List ℕ) → Any Q (each f l) → (a : ℕ) × (mem a l ≡ true) × Any Q (f a)
  unfolding each
  each_any f [] x = elim x [ ]
  each_any f (b ∷ l) x = go (any_split (f b) x) (λ y. each_any f l y)
    where
      go : Any Q (f b) ⊎ Any Q (each f l) → (Any Q (each f l) → (a : ℕ) × (mem a l ≡ true) × Any Q (f a)) → (a : ℕ) × (mem a (b ∷ l) ≡ true) × Any Q (f a)
      go (inl y) ih = (b, mem_here b b l refl, y)
      go (inr y) ih = let r : _ = ih y in (r.0, mem_there r.0 b l r.1, r.2)

-- a sort keeps what is in a list
module _ {A : Type 0} {Q : A → Type 0} (lt : A → A → Bool) where
  insert_any : (a : A) (l : List A) → Any Q (a ∷ l) → Any Q (insert lt a l)
  unfolding insert
  insert_any a [] x = x
  insert_any a (b ∷ l) x = go (lt a b) refl x (λ k. insert_any a l k)
    where
      go : (t : Bool) → lt a b ≡ t → Any Q (a ∷ b ∷ l) → (Any Q (a ∷ l) → Any Q (insert lt a l)) → Any Q (insert lt a (b ∷ l))
      go true e x ih = rw (e, insert) x
      go false e (now q) ih = rw (e, insert) (later (ih (now q)))
      go false e (later (now q)) ih = rw (e, insert) (now q)
      go false e (later (later y)) ih = rw (e, insert) (later (ih (later y)))

  any_insert : (a : A) (l : List A) → Any Q (insert lt a l) → Any Q (a ∷ l)
  unfolding insert
  any_insert a [] x = x
  any_insert a (b ∷ l) x = go (lt a b) refl (λ k. any_insert a l k)
    where
      swap : Any Q (a ∷ l) → Any Q (a ∷ b ∷ l)
      swap (now q) = now q
      swap (later y) = later (later y)

      pick : (Any Q (insert lt a l) → Any Q (a ∷ l)) → Any Q (b ∷ insert lt a l) → Any Q (a ∷ b ∷ l)
      pick ih (now q) = later (now q)
      pick ih (later y) = swap (ih y)

      go : (t : Bool) → lt a b ≡ t → (Any Q (insert lt a l) → Any Q (a ∷ l)) → Any Q (a ∷ b ∷ l)
      go true e ih = rw (e, insert) at x
      go false e ih = pick ih (rw (e, insert) at x)

  pub sort_any : (l : List A) → Any Q l → Any Q (sort lt l)
  unfolding sort
  sort_any [] x = x
  sort_any (a ∷ l) (now q) = insert_any a (sort lt l) (now q)
  sort_any (a ∷ l) (later x) = insert_any a (sort lt l) (later (sort_any l x))

  pub any_sort : (l : List A) → Any Q (sort lt l) → Any Q l
  unfolding sort
  any_sort [] x = x
  any_sort (a ∷ l) x = go (any_insert a (sort lt l) x) (λ k. any_sort l k)
    where
      go : Any Q (a ∷ sort lt l) → (Any Q (sort lt l) → Any Q l) → Any Q (a ∷ l)
      go (now q) ih = now q
      go (later y) ih = later (ih y)

-- ---- every member

module _ {A : Type 0} {Q : A → Type 0} where
  pub all_app : {a b : List A} → All Q a → All Q b → All Q (a ++ b)
  all_app done y = y
  all_app (also q x) y = also q (all_app x y)

  pub all_each : (f : ℕ → List A) (l : List ℕ) → ((a : ℕ) → mem a l ≡ true → All Q (f a)) → All Q (each f l)
  unfolding each
  all_each f [] h = done
  all_each f (a ∷ l) h = all_app (h a (mem_here a a l refl)) (all_each f l (λ b m. h b (mem_there b a l m)))

all_insert : {A : Type 0} {Q : A → Type 0} (lt : A → A → Bool) (a : A) (l : List A) → Q a → All Q l → All Q (insert lt a l)
unfolding insert
all_insert lt a [] q done = also q done
all_insert {Q = Q} lt a (b ∷ l) q (also p x) = go (lt a b) refl (all_insert lt a l q x)
  where
    go : (t : Bool) → lt a b ≡ t → All Q (insert lt a l) → All Q (insert lt a (b ∷ l))
    go true e ih = rw (e, insert) (also q (also p x))
    go false e ih = rw (e, insert) (also p ih)

pub all_sort : {A : Type 0} {Q : A → Type 0} (lt : A → A → Bool) (l : List A) → All Q l → All Q (sort lt l)
unfolding sort
all_sort lt [] done = done
all_sort lt (a ∷ l) (also q x) = all_insert lt a (sort lt l) q (all_sort lt l x)

module _ {A : Type 0} {Q W : A → Type 0} where
  pub all_to : {l : List A} → ((a : A) → Q a → W a) → All Q l → All W l
  all_to h done = done
  all_to h (also q x) = also (h _ q) (all_to h x)

  pub all_both : {l : List A} → All Q l → All W l → All (λ a. Q a × W a) l
  all_both done done = done
  all_both (also q x) (also w y) = also (q, w) (all_both x y)

pub all_filter : {A : Type 0} {Q : A → Type 0} (f : A → Bool) (l : List A) → All Q l → All Q (filter f l)
unfolding filter
all_filter f [] done = done
all_filter {Q = Q} f (a ∷ l) (also q x) = go (f a) refl (all_filter f l x)
  where
    go : (t : Bool) → f a ≡ t → All Q (filter f l) → All Q (filter f (a ∷ l))
    go true e ih = rw (e, filter) (also q ih)
    go false e ih = rw (e, filter) ih

-- ---- numbers that pass, and joined lists

module _ (f : ℕ → Bool) where
  pub filter_of : (b : ℕ) (l : List ℕ) → mem b (filter f l) ≡ true → (mem b l ≡ true) × (f b ≡ true)
  unfolding filter
  filter_of b [] h = absurd (mem_nil b h)
  filter_of b (a ∷ l) h = go (f a) refl (λ k. filter_of b l k)
    where
      go : (t : Bool) → f a ≡ t → (mem b (filter f l) ≡ true → (mem b l ≡ true) × (f b ≡ true)) → (mem b (a ∷ l) ≡ true) × (f b ≡ true)
      go true e ih = ⊎_elim (λ (q : b ≡ a). (mem_here b a l q, rw q e)) (λ (k : mem b (filter f l) ≡ true). let r : _ = ih k in (mem_there b a l r.0, r.1))
          (mem_cases b a (filter f l) (rw (e, filter) at h))
      go false e ih = let r : _ = ih (rw (e, filter) at h) in (mem_there b a l r.0, r.1)

  pub of_filter : (b : ℕ) (l : List ℕ) → mem b l ≡ true → f b ≡ true → mem b (filter f l) ≡ true
  unfolding filter
  of_filter b [] h e = absurd (mem_nil b h)
  of_filter b (a ∷ l) h e = go (f a) refl (mem_cases b a l h) (λ k. of_filter b l k e)
    where
      go : (t : Bool) → f a ≡ t → (b ≡ a) ⊎ (mem b l ≡ true) → (mem b l ≡ true → mem b (filter f l) ≡ true) → mem b (filter f (a ∷ l)) ≡ true
      go true q (inl r) ih = rw (q, filter) (mem_here b a (filter f l) r)
      go true q (inr k) ih = rw (q, filter) (mem_there b a (filter f l) (ih k))
      go false q (inl r) ih = absurd (clash (rw r at e) q)
      go false q (inr k) ih = rw (q, filter) (ih k)

  pub filter_distinct : (l : List ℕ) → Distinct l → Distinct (filter f l)
  unfolding filter
  filter_distinct [] nil = nil
  filter_distinct (a ∷ l) (cons n d) = go (f a) refl (filter_distinct l d)
    where
      go : (t : Bool) → f a ≡ t → Distinct (filter f l) → Distinct (filter f (a ∷ l))
      go true e ih = rw (e, filter) (cons (⊎_elim (λ (m : mem a (filter f l) ≡ true). absurd (clash (filter_of a l m).0 n)) (λ m. m) (truth (mem a (filter f l)))) ih)
      go false e ih = rw (e, filter) ih

pub distinct_join : (a b : List ℕ) → Distinct a → Distinct b → ((c : ℕ) → mem c a ≡ true → mem c b ≡ true → ⊥) → Distinct (a ++ b)
distinct_join [] b nil e h = e
distinct_join (c ∷ a) b (cons n d) e h =
    cons (⊎_elim
    (λ (m : mem c (a ++ b) ≡ true). absurd (⊎_elim (λ (i : mem c a ≡ true). clash i n) (λ (i : mem c b ≡ true). h c (mem_here c c a refl) i) (mem_split c a b m)))
    (λ m. m) (truth (mem c (a ++ b))))
    (distinct_join a b d e (λ k i j. h k (mem_there k c a i) j))

pub append_nil : {A : Type 0} (l : List A) → l ++ [] ≡ l
append_nil [] = refl
append_nil (a ∷ l) = ap (λ r. a ∷ r) (append_nil l)

-- a list made by two functions that agree on its members is one list
pub map_same : {A : Type 0} (f g : ℕ → A) (l : List ℕ) → ((b : ℕ) → mem b l ≡ true → f b ≡ g b) → map f l ≡ map g l
map_same f g [] h = refl
map_same f g (b ∷ l) h = λ i. h b (mem_here b b l refl) i ∷ map_same f g l (λ c m. h c (mem_there c b l m)) i
