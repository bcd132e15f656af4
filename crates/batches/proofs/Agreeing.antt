-- Two forests that agree from a row on, with nothing below it that leads back: from that row on they have the same ancestors.
use mathlib.Core.Path.{◌≡◌, refl, sym, ap, ap₂, ◌∙◌}
use mathlib.Core.Bool.{Bool, true, false}
use mathlib.Core.List.{◌∷◌}
use mathlib.Core.Option.{Option, none, some}
use mathlib.Core.Logic.{⊎_elim}
use Prim.Native.Nat.{ℕ, zero, suc, ◌+◌, ◌<◌, ◌≤◌}
use native.Mathlib.Omega.{arith}
use lib.Dec.{eqb}
use borrow.Author.Tests.{ne_eqb}
use Rattle.meaning.specs.Words.{rows_from}
use Rattle.meaning.specs.Rows.{Edge}
use Rattle.meaning.specs.Forest.{Par, Ages, holds, parent_in, above, ancestor}
use Rattle.bridge.specs.Rename.{above_zero, above_here, above_top, above_step, ancestor_top, ancestor_step}
use Rattle.batches.proofs.Together.{before}

-- P has no parents below n, and Q only parents below n
module _ (P Q : Par) (n : ℕ) (same : (u : ℕ) → n ≤ u → Q u ≡ P u) (tops : (u : ℕ) → u < n → P u ≡ none) (stays : (u p : ℕ) → u < n → Q u ≡ some p → p < n) where
  apart : (a b : ℕ) → n ≤ a → b < n → eqb a b ≡ false
  apart a b h l = ne_eqb a b (λ e. absurd (omega arith))

  -- no row from n on is above a row below n
  none_above : (k a b : ℕ) → n ≤ a → b < n → above P k a b ≡ false
  none_above zero a b h l = above_zero P a b ∙ apart a b h l
  none_above (suc k) a b h l = above_top P k a b (apart a b h l) (tops b l)

  low_above : (k a b : ℕ) → n ≤ a → b < n → above Q k a b ≡ false
  low_above zero a b h l = above_zero Q a b ∙ apart a b h l
  low_above (suc k) a b h l = go (Q b) refl (λ p m. low_above k a p h m)
    where
      go : (o : Option ℕ) → Q b ≡ o → ((p : ℕ) → p < n → above Q k a p ≡ false) → above Q (suc k) a b ≡ false
      go none e ih = above_top Q k a b (apart a b h l) e
      go (some p) e ih = above_step Q k a b p (apart a b h l) e ∙ ih p (stays b p l e)

  same_above : (k a b : ℕ) → n ≤ a → above P k a b ≡ above Q k a b
  same_above zero a b h = above_zero P a b ∙ sym (above_zero Q a b)
  same_above (suc k) a b h = ⊎_elim
      (λ (l : b < n). none_above (suc k) a b h l ∙ sym (low_above (suc k) a b h l))
      (λ (l : n ≤ b). go l (eqb a b) refl (P b) refl (λ p. same_above k a p h))
      (before b n)
    where
      go : n ≤ b → (t : Bool) → eqb a b ≡ t → (o : Option ℕ) → P b ≡ o → ((p : ℕ) → above P k a p ≡ above Q k a p) → above P (suc k) a b ≡ above Q (suc k) a b
      go l true e o f ih = above_here P k a b e ∙ sym (above_here Q k a b e)
      go l false e none f ih = above_top P k a b e f ∙ sym (above_top Q k a b e (same b l ∙ f))
      go l false e (some p) f ih = above_step P k a b p e f ∙ ih p ∙ sym (above_step Q k a b p e (same b l ∙ f))

  pub same_ancestor : (a b : ℕ) → n ≤ a → n ≤ b → ancestor P a b ≡ ancestor Q a b
  same_ancestor a b h l = go (P b) refl
    where
      go : (o : Option ℕ) → P b ≡ o → ancestor P a b ≡ ancestor Q a b
      go none f = ancestor_top P a b f ∙ sym (ancestor_top Q a b (same b l ∙ f))
      go (some p) f = ancestor_step P a b p f ∙ same_above Ages a p h ∙ sym (ancestor_step Q a b p (same b l ∙ f))

-- ---- the parent among edges of which the first ones do not hold

module _ (x u : ℕ) where
  skip : (f : ℕ → Edge) (k a i : ℕ) → ((e : ℕ) → e < i + a → holds x u (f e) ≡ false) → parent_in (rows_from f i (a + k)) x u ≡ parent_in (rows_from f (i + a) k) x u
  unfolding parent_in rows_from
  skip f k zero i h =
      let p : 0 + k ≡ k = omega arith in
      let q : i ≡ i + 0 = omega arith in
      ap₂ (λ r s. parent_in (rows_from f r s) x u) q p
  skip f k (suc a) i h =
      let p : suc a + k ≡ suc (a + k) = omega arith in
      let q : suc i + a ≡ i + suc a = omega arith in
      ap (λ s. parent_in (rows_from f i s) x u) p
      ∙ miss
      ∙ skip f k a (suc i) (λ e l. h e (omega arith))
      ∙ ap (λ r. parent_in (rows_from f r k) x u) q
    where
      miss : parent_in (rows_from f i (suc (a + k))) x u ≡ parent_in (rows_from f (suc i) (a + k)) x u
      miss = rw (h i (omega arith), parent_in)

  shift : (f g : ℕ → Edge) (a k i : ℕ) → ((e : ℕ) → e < i + k → f (a + e) ≡ g e) → rows_from f (a + i) k ≡ rows_from g i k
  unfolding rows_from
  shift f g a zero i h = refl
  shift f g a (suc k) i h =
      let q : suc (a + i) ≡ a + suc i = omega arith in
      ap₂ (λ (e : Edge) r. e ∷ r) (h i (omega arith)) (ap (λ r. rows_from f r k) q ∙ shift f g a k (suc i) (λ e l. h e (omega arith)))

  -- the first a of f's rows do not hold, and the rest are g's
  pub parent_behind : (f g : ℕ → Edge) (a k : ℕ) → ((e : ℕ) → e < a → holds x u (f e) ≡ false) → ((e : ℕ) → e < k → f (a + e) ≡ g e) → parent_in (rows_from f 0 (a + k)) x u ≡ parent_in (rows_from g 0 k) x u
  parent_behind f g a k h s =
      let q : 0 + a ≡ a + 0 = omega arith in
      skip f k a 0 (λ e l. h e (omega arith))
      ∙ ap (λ r. parent_in (rows_from f r k) x u) q
      ∙ ap (λ E. parent_in E x u) (shift f g a k 0 (λ e l. s e (omega arith)))
