-- Each mutation with every later one: by places in the list, and after mutations move.
use Rattle.std.specs.Prelude.{◌≡◌, ℕ, suc, ◌<◌, length, get_or}
use Rattle.std.proofs.Math.Path.{refl}
use mathlib.Core.List.{List, [], ◌∷◌}
use Rattle.std.proofs.Math.Option.{Option, none, some}
use Rattle.std.proofs.Common.{arith}
use Rattle.meaning.specs.Rows.{Mutation}
use Rattle.meaning.specs.Clean.{moved}
use Rattle.laws.specs.Facts.{All, done, also}
use Rattle.history.specs.Lists.{all_to}

-- the mutation m on the fish w
abbrev pub put : Mutation → ℕ → Mutation
put m w = record { site = m.site; node = w; derived = m.derived }

-- Q holds of each mutation and every later one
pub data Pairs (Q : Mutation → Mutation → Type 0) : List Mutation → Type 0 where
  no_pair : Pairs Q []
  with_all : {m : Mutation} {l : List Mutation} → All (Q m) l → Pairs Q l → Pairs Q (m ∷ l)

pub pairs_to : {Q W : Mutation → Mutation → Type 0} {l : List Mutation} → ((m n : Mutation) → Q m n → W m n) → Pairs Q l → Pairs W l
pairs_to h no_pair = no_pair
pairs_to h (with_all a p) = with_all (all_to (h _) a) (pairs_to h p)

-- the same by places in the list
pub pairs_at : {Q : Mutation → Mutation → Type 0} (d : Mutation) (l : List Mutation) → ((j k : ℕ) → j < k → k < length l → Q (get_or l j d) (get_or l k d)) → Pairs Q l
pairs_at d [] h = no_pair
pairs_at {Q} d (m ∷ l) h = with_all (every l (λ k a. h 0 (suc k) (omega arith) (omega arith))) (pairs_at d l (λ j k a b. h (suc j) (suc k) (omega arith) (omega arith)))
  where
    every : (n : List Mutation) → ((k : ℕ) → k < length n → Q m (get_or n k d)) → All (Q m) n
    every [] f = done
    every (a ∷ n) f = also (f 0 (omega arith)) (every n (λ k b. f (suc k) (omega arith)))

module _ (pos : ℕ → ℕ) (G : ℕ → ℕ → Option ℕ) (Q W : Mutation → Mutation → Type 0) (O : Mutation → Type 0)
    (h : (m n : Mutation) (w v : ℕ) → O m → Q m n → G (pos m.site) m.node ≡ some w → G (pos n.site) n.node ≡ some v → W (put m w) (put n v)) where
  moved_each : (m : Mutation) (w : ℕ) → O m → G (pos m.site) m.node ≡ some w → (l : List Mutation) → All (Q m) l → All (W (put m w)) (moved pos G l)
  unfolding moved
  moved_each m w o e [] done = done
  moved_each m w o e (n ∷ l) (also q a) = go (G (pos n.site) n.node) refl (moved_each m w o e l a)
    where
      go : (v : Option ℕ) → G (pos n.site) n.node ≡ v → All (W (put m w)) (moved pos G l) → All (W (put m w)) (moved pos G (n ∷ l))
      go none f ih = rw (f, moved) ih
      go (some v) f ih = rw (f, moved) (also (h m n w v o q e f) ih)

  -- what holds of pairs of mutations, of the pairs that moved
  pub pairs_moved : (l : List Mutation) → All O l → Pairs Q l → Pairs W (moved pos G l)
  unfolding moved
  pairs_moved [] done no_pair = no_pair
  pairs_moved (m ∷ l) (also o x) (with_all a p) = go (G (pos m.site) m.node) refl (pairs_moved l x p)
    where
      go : (v : Option ℕ) → G (pos m.site) m.node ≡ v → Pairs W (moved pos G l) → Pairs W (moved pos G (m ∷ l))
      go none f ih = rw (f, moved) ih
      go (some w) f ih = rw (f, moved) (with_all (moved_each m w o f l a) ih)
