-- A list that begins in h words of the block and goes on in a lent column: a write at k goes to the one or to the other.
use Rattle.std.specs.Prelude.{◌≡◌, List, [], ◌∷◌, ◌++◌, ℕ, zero, suc, ◌+◌, ◌-◌, ◌<◌, ◌≤◌, length, set}
use Rattle.std.proofs.Common.{sym, ap, ◌∙◌, arith, length-append}
use Rattle.std.proofs.lemmas.List.{set-append_left}
use Rattle.words.specs.Columns.{part, part_length, part_set}

-- the h words from b on, and l behind them
abbrev pub onto : ℕ → ℕ → List ℕ → List ℕ → List ℕ
onto b h w l = part b h w ++ l

set_behind : (xs ys : List ℕ) (i v : ℕ) → length xs ≤ i → set (xs ++ ys) i v ≡ xs ++ set ys (i - length xs) v
set_behind [] ys i v h = let e : i ≡ i - 0 = omega arith in ap (λ (j : ℕ). set ys j v) e
set_behind (x ∷ xs) ys zero v h = absurd (omega arith)
set_behind (x ∷ xs) ys (suc i) v h =
    let e : i - length xs ≡ suc i - length (x ∷ xs) = omega arith in
    ap (λ (l : List ℕ). x ∷ l) (set_behind xs ys i v (omega arith)) ∙ ap (λ (j : ℕ). x ∷ xs ++ set ys j v) e

module _ (b h : ℕ) (w l : List ℕ) (k v : ℕ) (r : b + h ≤ length w) where
  pub onto_long : length (onto b h w l) ≡ h + length l
  onto_long = omega (arith, length-append (part b h w) l, part_length b h w r)

  pub onto_held : k < h → onto b h (set w (b + k) v) l ≡ set (onto b h w l) k v
  onto_held c = ap (λ (x : List ℕ). x ++ l) (part_set b h w k v c) ∙ sym (set-append_left (part b h w) l k v (omega (arith, part_length b h w r)))

  pub onto_lent : h ≤ k → onto b h w (set l (k - h) v) ≡ set (onto b h w l) k v
  onto_lent c = let e : k - h ≡ k - length (part b h w) = omega (arith, part_length b h w r) in ap (λ (i : ℕ). part b h w ++ set l i v) e ∙ sym (set_behind (part b h w) l k v (omega (arith, part_length b h w r)))
