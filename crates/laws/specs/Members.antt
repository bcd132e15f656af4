-- A number in a list: by place, in joined lists, and its index.
use Rattle.std.specs.Prelude.{◌≡◌, refl, Bool, true, false, List, [], ◌∷◌, ◌++◌, map, ◌⊎◌, ℕ, zero, suc, ◌+◌, ◌<◌, ◌≤◌, eqb, length}
use Rattle.std.proofs.Common.{sym, ap, ◌∙◌, inl, inr, ⊎_elim, arith, eqb-true, eq-eqb, ne_eqb}
use Rattle.std.proofs.lemmas.Bool.{eqb-false}
use Rattle.meaning.specs.Words.{at, mem, index_of}
use Rattle.laws.specs.Bools.{clash, truth}

pub mem_nil : (a : ℕ) → mem a [] ≡ true → ⊥
unfolding mem
mem_nil a h = clash h refl

pub mem_here : (a b : ℕ) (l : List ℕ) → a ≡ b → mem a (b ∷ l) ≡ true
unfolding mem
mem_here a b l e = rw (eq-eqb a b e, mem)

pub mem_there : (a b : ℕ) (l : List ℕ) → mem a l ≡ true → mem a (b ∷ l) ≡ true
unfolding mem
mem_there a b l h = go (eqb a b) refl
  where
    go : (t : Bool) → eqb a b ≡ t → mem a (b ∷ l) ≡ true
    go true e = rw (e, mem)
    go false e = rw (e, mem) h

pub mem_cases : (a b : ℕ) (l : List ℕ) → mem a (b ∷ l) ≡ true → (a ≡ b) ⊎ (mem a l ≡ true)
unfolding mem
mem_cases a b l h = go (eqb a b) refl
  where
    go : (t : Bool) → eqb a b ≡ t → (a ≡ b) ⊎ (mem a l ≡ true)
    go true e = inl (eqb-true a b e)
    go false e = inr (rw (e, mem) at h)

-- ---- by place

-- what stands at a place is in the list
pub at_mem : (l : List ℕ) (i : ℕ) → i < length l → mem (at l i) l ≡ true
at_mem [] i h = absurd (omega arith)
at_mem (b ∷ l) zero h = mem_here b b l refl
at_mem (b ∷ l) (suc i) h = mem_there (at l i) b l (at_mem l i (omega arith))

-- what is in the list stands at a place, and the first is its index
pub index_at : (a : ℕ) (l : List ℕ) → mem a l ≡ true → at l (index_of a l) ≡ a
unfolding index_of
index_at a [] h = absurd (mem_nil a h)
index_at a (b ∷ l) h = go (eqb a b) refl (λ k. index_at a l k)
  where
    go : (t : Bool) → eqb a b ≡ t → (mem a l ≡ true → at l (index_of a l) ≡ a) → at (b ∷ l) (index_of a (b ∷ l)) ≡ a
    go true e ih = rw (e, index_of) (sym (eqb-true a b e))
    go false e ih = rw (e, index_of) (ih (⊎_elim (λ (q : a ≡ b). absurd (eqb-false a b e q)) (λ k. k) (mem_cases a b l h)))

pub index_below : (a : ℕ) (l : List ℕ) → mem a l ≡ true → index_of a l < length l
unfolding index_of
index_below a [] h = absurd (mem_nil a h)
index_below a (b ∷ l) h = go (eqb a b) refl (λ k. index_below a l k)
  where
    go : (t : Bool) → eqb a b ≡ t → (mem a l ≡ true → index_of a l < length l) → index_of a (b ∷ l) < length (b ∷ l)
    go true e ih = rw (e, index_of) (omega arith)
    go false e ih = rw (e, index_of) (omega (arith, ih (⊎_elim (λ (q : a ≡ b). absurd (eqb-false a b e q)) (λ k. k) (mem_cases a b l h))))

-- no place has what is not in the list
pub not_mem : (a : ℕ) (l : List ℕ) (i : ℕ) → mem a l ≡ false → i < length l → at l i ≡ a → ⊥
not_mem a l i n h e = clash (rw e at (at_mem l i h)) n

-- ---- joined lists

pub mem_left : (a : ℕ) (l m : List ℕ) → mem a l ≡ true → mem a (l ++ m) ≡ true
mem_left a [] m h = absurd (mem_nil a h)
mem_left a (b ∷ l) m h = ⊎_elim (λ (e : a ≡ b). mem_here a b (l ++ m) e) (λ (k : mem a l ≡ true). mem_there a b (l ++ m) (mem_left a l m k)) (mem_cases a b l h)

pub mem_right : (a : ℕ) (l m : List ℕ) → mem a m ≡ true → mem a (l ++ m) ≡ true
mem_right a [] m h = h
mem_right a (b ∷ l) m h = mem_there a b (l ++ m) (mem_right a l m h)

pub mem_split : (a : ℕ) (l m : List ℕ) → mem a (l ++ m) ≡ true → (mem a l ≡ true) ⊎ (mem a m ≡ true)
mem_split a [] m h = inr h
mem_split a (b ∷ l) m h = ⊎_elim (λ (e : a ≡ b). inl (mem_here a b l e)) (λ (k : mem a (l ++ m) ≡ true). ⊎_elim (λ (i : mem a l ≡ true). inl (mem_there a b l i)) (λ (i : mem a m ≡ true). inr i) (mem_split a l m k)) (mem_cases a b (l ++ m) h)

-- a column through a function, cell by cell
pub at_map : (f : ℕ → ℕ) (l : List ℕ) (i : ℕ) → i < length l → at (map f l) i ≡ f (at l i)
at_map f [] i h = absurd (omega arith)
at_map f (a ∷ l) zero h = refl
at_map f (a ∷ l) (suc i) h = at_map f l i (omega arith)
