-- The nodes of a record: a row is found by its birth number, in joined lists and in copied ones.
use Rattle.std.specs.Prelude.{◌≡◌, Bool, true, false, ◌⊎◌, ℕ, eqb}
use Rattle.std.proofs.Math.Path.{refl}
use Rattle.std.proofs.Common.{sym, ap, ◌∙◌, inl, inr, ⊎_elim, eqb-true, eq-eqb, ne_eqb}
use mathlib.Core.List.{List, [], ◌∷◌, ◌++◌, map}
use Rattle.std.proofs.lemmas.Bool.{eqb-false}
use Rattle.meaning.specs.Words.{mem}
use Rattle.meaning.specs.Rows.{Node, births, no_node, node_of, time_of}
use Rattle.laws.specs.Bools.{clash, not_true}
use Rattle.laws.specs.Members.{mem_nil, mem_here, mem_there, mem_cases}

node_hit : (n : Node) (l : List Node) (b : ℕ) → n.birth ≡ b → node_of (n ∷ l) b ≡ n
unfolding node_of
node_hit n l b e = rw (eq-eqb n.birth b e, node_of)

node_miss : (n : Node) (l : List Node) (b : ℕ) → (n.birth ≡ b → ⊥) → node_of (n ∷ l) b ≡ node_of l b
unfolding node_of
node_miss n l b e = rw (ne_eqb n.birth b e, node_of)

-- in a list that starts with n the fish b is n, or comes later
node_cases : (n : Node) (l : List Node) (b : ℕ) → (n.birth ≡ b) ⊎ ((n.birth ≡ b → ⊥) × (mem b (births (n ∷ l)) ≡ true → mem b (births l) ≡ true))
unfolding births
node_cases n l b = go (eqb n.birth b) refl
  where
    go : (t : Bool) → eqb n.birth b ≡ t → (n.birth ≡ b) ⊎ ((n.birth ≡ b → ⊥) × (mem b (births (n ∷ l)) ≡ true → mem b (births l) ≡ true))
    go true e = inl (eqb-true n.birth b e)
    go false e = inr (eqb-false n.birth b e, λ h. ⊎_elim (λ (q : b ≡ n.birth). absurd (eqb-false n.birth b e (sym q))) (λ k. k) (mem_cases b n.birth (births l) h))

-- the row of b has the birth number b
pub node_birth : (N : List Node) (b : ℕ) → mem b (births N) ≡ true → (node_of N b).birth ≡ b
unfolding births
node_birth [] b h = absurd (mem_nil b h)
node_birth (n ∷ l) b h = ⊎_elim
    (λ (e : n.birth ≡ b). ap (λ (r : Node). r.birth) (node_hit n l b e) ∙ e)
    (λ (e : (n.birth ≡ b → ⊥) × (mem b (births (n ∷ l)) ≡ true → mem b (births l) ≡ true)). ap (λ (r : Node). r.birth) (node_miss n l b e.0) ∙ node_birth l b (e.1 h))
    (node_cases n l b)

pub births_join : (a b : List Node) → births (a ++ b) ≡ births a ++ births b
unfolding births
births_join [] b = refl
births_join (n ∷ a) b = ap (λ (l : List ℕ). n.birth ∷ l) (births_join a b)

pub node_left : (a b : List Node) (c : ℕ) → mem c (births a) ≡ true → node_of (a ++ b) c ≡ node_of a c
unfolding births
node_left [] b c h = absurd (mem_nil c h)
node_left (n ∷ a) b c h = ⊎_elim
    (λ (e : n.birth ≡ c). node_hit n (a ++ b) c e ∙ sym (node_hit n a c e))
    (λ (e : (n.birth ≡ c → ⊥) × (mem c (births (n ∷ a)) ≡ true → mem c (births a) ≡ true)). node_miss n (a ++ b) c e.0 ∙ node_left a b c (e.1 h) ∙ sym (node_miss n a c e.0))
    (node_cases n a c)

pub node_right : (a b : List Node) (c : ℕ) → mem c (births a) ≡ false → node_of (a ++ b) c ≡ node_of b c
unfolding births
node_right [] b c h = refl
node_right (n ∷ a) b c h =
    node_miss n (a ++ b) c (λ (q : n.birth ≡ c). clash (mem_here c n.birth (births a) (sym q)) h)
    ∙ node_right a b c (not_true (mem c (births a)) (λ k. clash (mem_there c n.birth (births a) k) h))

-- a fish that is in no row
pub node_none : (N : List Node) (b : ℕ) → mem b (births N) ≡ false → node_of N b ≡ no_node
unfolding births node_of
node_none [] b h = refl
node_none (n ∷ l) b h =
    node_miss n l b (λ (q : n.birth ≡ b). clash (mem_here b n.birth (births l) (sym q)) h)
    ∙ node_none l b (not_true (mem b (births l)) (λ k. clash (mem_there b n.birth (births l) k) h))

-- ---- rows copied whole

module _ (N : List Node) where
  pub births_copied : (l : List ℕ) → ((b : ℕ) → mem b l ≡ true → mem b (births N) ≡ true) → births (map (node_of N) l) ≡ l
  unfolding births
  births_copied [] h = refl
  births_copied (b ∷ l) h = λ i. node_birth N b (h b (mem_here b b l refl)) i ∷ births_copied l (λ c m. h c (mem_there c b l m)) i

  pub node_copied : (l : List ℕ) → ((b : ℕ) → mem b l ≡ true → mem b (births N) ≡ true) → (b : ℕ) → mem b l ≡ true → node_of (map (node_of N) l) b ≡ node_of N b
  node_copied [] h b m = absurd (mem_nil b m)
  node_copied (c ∷ l) h b m =
      let e : (node_of N c).birth ≡ c = node_birth N c (h c (mem_here c c l refl)) in
      ⊎_elim
      (λ (q : b ≡ c). node_hit (node_of N c) (map (node_of N) l) b (e ∙ sym q) ∙ ap (node_of N) (sym q))
      (λ (q : (b ≡ c → ⊥) × (mem b l ≡ true)). node_miss (node_of N c) (map (node_of N) l) b (λ (r : (node_of N c).birth ≡ b). q.0 (sym r ∙ e)) ∙ node_copied l (λ d k. h d (mem_there d c l k)) b q.1)
      (here_or_later (eqb b c) refl)
    where
      here_or_later : (t : Bool) → eqb b c ≡ t → (b ≡ c) ⊎ ((b ≡ c → ⊥) × (mem b l ≡ true))
      here_or_later true q = inl (eqb-true b c q)
      here_or_later false q = inr (eqb-false b c q, ⊎_elim (λ (r : b ≡ c). absurd (eqb-false b c q r)) (λ k. k) (mem_cases b c l m))

-- the same row has the same time
pub time_same : (a b : List Node) (c : ℕ) → node_of a c ≡ node_of b c → time_of a c ≡ time_of b c
unfolding time_of
time_same a b c e = ap (λ (n : Node). n.time) e

pub time_none : (N : List Node) (b : ℕ) → mem b (births N) ≡ false → time_of N b ≡ 0
unfolding time_of
time_none N b h = ap (λ (n : Node). n.time) (node_none N b h)
