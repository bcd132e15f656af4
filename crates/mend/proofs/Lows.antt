-- How the standing rows below move: where a row begins or ceases to stand, only rows on the line above it lead to another one.
use Rattle.std.proofs.Common.{◌≡◌, ℕ, Bool, true, false, ◌∙◌}
use mathlib.Core.Option.{some}
use Rattle.meaning.specs.Forest.{Par}
use Rattle.mend.specs.Line.{Low, here, down, Pass, start, next, Lives}

-- a live row that is not off keeps its low: what stands differs at rows that are off alone, what is above an off row by rows that do not stand is
-- off too, and each only live child is still one
module _ {P P' : Par} {K K' L L' : ℕ → Bool} (off : ℕ → Type 0) (shut : (d x : ℕ) → P' d ≡ some x → K' x ≡ false → off d → off x) (same : (v : ℕ) → (off v → ⊥) → K' v ≡ K v) (link : (d x : ℕ) → K x ≡ false → P d ≡ some x → L d ≡ true → L' x ≡ true → (P' d ≡ some x) × (L' d ≡ true)) where
  pub low_stays : {w x : ℕ} → Low P K L w x → L' x ≡ true → (off x → ⊥) → Low P' K' L' w x
  low_stays {w} (here k) l n = here (same w n ∙ k)
  low_stays (down {x} {d} k e l y) m n = let f : _ = link d x k e l m in let j : K' x ≡ false = same x n ∙ k in down j f.0 f.1 (low_stays y f.1 (λ o. n (shut d x f.0 j o)))

-- a line of rows that do not stand, up from a live row, has its low
module _ {P : Par} {K L : ℕ → Bool} (lv : Lives P K L) where
  pub pass_live : {s u : ℕ} → L s ≡ true → Pass P K s u → L u ≡ true
  pass_live l start = l
  pass_live l (next s e k) = lv.up e (pass_live l s)

  pub low_up : {w s u : ℕ} → L s ≡ true → Low P K L w s → Pass P K s u → Low P K L w u
  low_up l y start = y
  low_up l y (next s e k) = down k e (pass_live l s) (low_up l y s)
