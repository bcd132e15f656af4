-- Laws of the mutations that move: how the list of them grows, who is on it, and columns that go on holding it.
use Rattle.std.specs.Prelude.{◌≡◌, refl, Bool, ◌⊎◌, eqb}
use Rattle.std.proofs.Math.Path.{sym, ap}
use Rattle.std.proofs.Common.{◌∙◌, inl, inr, length-append, eq-eqb, ne_eqb}
use Rattle.std.proofs.Math.Bool.{true, false}
use mathlib.Core.List.{[], ◌∷◌, ◌++◌, append-nil}
use Prim.Native.Nat.{ℕ, zero, suc, ◌<◌, ◌≤◌}
use native.Mathlib.Omega.{arith}
use Rattle.std.proofs.Math.ListN.{length, get_or-append}
use Rattle.std.proofs.lemmas.List.{get_or_at}
use Rattle.meaning.specs.Words.{at}
use Rattle.laws.specs.Bools.{eq?}
use Rattle.bridge.specs.Parents.{no_row}
use Rattle.placing.specs.Placing.{Moves, movers, Held, Beyond}

-- ---- the list of those that move

module _ (f : ℕ → ℕ) where
  -- mutation m stays out
  pub movers_no : (m : ℕ) → f m ≡ no_row → movers f (suc m) ≡ movers f m
  unfolding movers
  movers_no m e = ap (λ (t : Bool). movers f m ++ elim t [ true ↦ [] | false ↦ m ∷ [] ]) (eq-eqb (f m) no_row e) ∙ append-nil (movers f m)

  -- mutation m is the last of them
  pub movers_yes : (m : ℕ) → (f m ≡ no_row → ⊥) → movers f (suc m) ≡ movers f m ++ m ∷ []
  unfolding movers
  movers_yes m h = ap (λ (t : Bool). movers f m ++ elim t [ true ↦ [] | false ↦ m ∷ [] ]) (ne_eqb (f m) no_row h)

  -- and there is one more
  pub movers_more : (m : ℕ) → (f m ≡ no_row → ⊥) → length (movers f (suc m)) ≡ suc (length (movers f m))
  movers_more m h = omega (arith, ap length (movers_yes m h), length-append (movers f m) (m ∷ []))

  -- those before m keep their places
  pub movers_old : (m j : ℕ) → (f m ≡ no_row → ⊥) → j < length (movers f m) → at (movers f (suc m)) j ≡ at (movers f m) j
  movers_old m j h l = ap (λ s. at s j) (movers_yes m h) ∙ get_or-append (movers f m) (m ∷ []) 0 j l

  -- and m stands after them
  pub movers_last : (m : ℕ) → (f m ≡ no_row → ⊥) → at (movers f (suc m)) (length (movers f m)) ≡ m
  movers_last m h = ap (λ s. at s (length (movers f m))) (movers_yes m h) ∙ get_or_at (movers f m) m [] 0 (length (movers f m)) refl

  -- no more than there are mutations
  pub movers_few : (m : ℕ) → length (movers f m) ≤ m
  unfolding movers
  movers_few zero = omega arith
  movers_few (suc m) = go (movers_few m) (eq? (f m) no_row)
    where
      go : length (movers f m) ≤ m → (f m ≡ no_row) ⊎ (f m ≡ no_row → ⊥) → length (movers f (suc m)) ≤ suc m
      go h (inl e) = omega (arith, ap length (movers_no m e))
      go h (inr e) = omega (arith, movers_more m e)

  -- each is one of the first m, and moves
  pub movers_each : (m j : ℕ) → j < length (movers f m) → (at (movers f m) j < m) × (f (at (movers f m) j) ≡ no_row → ⊥)
  unfolding movers
  movers_each zero j l = absurd (omega arith)
  movers_each (suc m) j l = go (movers_each m j) (eq? (f m) no_row) (eq? j (length (movers f m)))
    where
      go : (j < length (movers f m) → (at (movers f m) j < m) × (f (at (movers f m) j) ≡ no_row → ⊥)) → (f m ≡ no_row) ⊎ (f m ≡ no_row → ⊥) → (j ≡ length (movers f m)) ⊎ (j ≡ length (movers f m) → ⊥) → (at (movers f (suc m)) j < suc m) × (f (at (movers f (suc m)) j) ≡ no_row → ⊥)
      go h (inl e) q =
          let w : j < length (movers f m) = omega (arith, ap length (movers_no m e)) in
          let s : at (movers f (suc m)) j ≡ at (movers f m) j = ap (λ s. at s j) (movers_no m e) in
          (omega (arith, s, (h w).0), λ z. (h w).1 (sym (ap f s) ∙ z))
      go h (inr e) (inl q) =
          let s : at (movers f (suc m)) j ≡ m = ap (at (movers f (suc m))) q ∙ movers_last m e in
          (omega (arith, s), λ z. e (sym (ap f s) ∙ z))
      go h (inr e) (inr q) =
          let w : j < length (movers f m) = omega (arith, movers_more m e) in
          let s : at (movers f (suc m)) j ≡ at (movers f m) j = movers_old m j e w in
          (omega (arith, s, (h w).0), λ z. (h w).1 (sym (ap f s) ∙ z))

  pub movers_below : (m j : ℕ) → j < length (movers f m) → at (movers f m) j < m
  movers_below m j l = (movers_each m j l).0

  -- each that moves has a place
  pub movers_place : (m i : ℕ) → i < m → (f i ≡ no_row → ⊥) → (j : ℕ) × (j < length (movers f m)) × (at (movers f m) j ≡ i)
  unfolding movers
  movers_place zero i l h = absurd (omega arith)
  movers_place (suc m) i l h = go (movers_place m i) (eq? (f m) no_row) (eq? i m)
    where
      go : (i < m → (f i ≡ no_row → ⊥) → (j : ℕ) × (j < length (movers f m)) × (at (movers f m) j ≡ i)) → (f m ≡ no_row) ⊎ (f m ≡ no_row → ⊥) → (i ≡ m) ⊎ (i ≡ m → ⊥) → (j : ℕ) × (j < length (movers f (suc m))) × (at (movers f (suc m)) j ≡ i)
      go g (inl e) (inl q) = absurd (h (ap f q ∙ e))
      go g (inl e) (inr q) =
          let (j, w, s) = g (omega arith) h in
          (j, omega (arith, ap length (movers_no m e)), ap (λ s. at s j) (movers_no m e) ∙ s)
      go g (inr e) (inl q) = (length (movers f m), omega (arith, movers_more m e), movers_last m e ∙ sym q)
      go g (inr e) (inr q) =
          let (j, w, s) = g (omega arith) h in
          (j, omega (arith, movers_more m e), movers_old m j e w ∙ s)

  -- in row order
  pub movers_rise : (m i j : ℕ) → i < j → j < length (movers f m) → at (movers f m) i < at (movers f m) j
  unfolding movers
  movers_rise zero i j a l = absurd (omega arith)
  movers_rise (suc m) i j a l = go (movers_rise m i j a) (eq? (f m) no_row) (eq? j (length (movers f m)))
    where
      go : (j < length (movers f m) → at (movers f m) i < at (movers f m) j) → (f m ≡ no_row) ⊎ (f m ≡ no_row → ⊥) → (j ≡ length (movers f m)) ⊎ (j ≡ length (movers f m) → ⊥) → at (movers f (suc m)) i < at (movers f (suc m)) j
      go h (inl e) q = omega (arith, h (omega (arith, ap length (movers_no m e))), ap (λ s. at s i) (movers_no m e), ap (λ s. at s j) (movers_no m e))
      go h (inr e) (inl q) =
          let w : i < length (movers f m) = omega arith in
          omega (arith, movers_old m i e w, movers_below m i w, ap (at (movers f (suc m))) q, movers_last m e)
      go h (inr e) (inr q) =
          let w : j < length (movers f m) = omega (arith, movers_more m e) in
          let v : i < length (movers f m) = omega arith in
          omega (arith, h w, movers_old m i e v, movers_old m j e w)

-- cells that agree give the same list
pub movers_same : (f g : ℕ → ℕ) (m : ℕ) → ((i : ℕ) → i < m → f i ≡ g i) → movers f m ≡ movers g m
unfolding movers
movers_same f g zero h = refl
movers_same f g (suc m) h = go (movers_same f g m (λ i l. h i (omega arith))) (h m (omega arith))
  where
    go : movers f m ≡ movers g m → f m ≡ g m → movers f (suc m) ≡ movers g (suc m)
    go p q = ap (λ s. s ++ elim (eqb (f m) no_row) [ true ↦ [] | false ↦ m ∷ [] ]) p ∙ ap (λ (k : ℕ). movers g m ++ elim (eqb k no_row) [ true ↦ [] | false ↦ m ∷ [] ]) q

-- ---- columns that hold it

-- at the start nothing is listed
pub held_start : (f : ℕ → ℕ) (W : Moves) → W.count ≡ 0 → Held f 0 W
unfolding movers
held_start f W e = record {
  counted = e;
  rows = λ j a l. absurd (omega arith);
  lows = λ j a l. absurd (omega arith);
}

pub beyond_none : (W : Moves) → Beyond W W
beyond_none W = record {
  more = omega arith;
  rows_long = refl;
  lows_long = refl;
  rest = λ j h. (refl, refl);
}

pub beyond_then : {A B C : Moves} → Beyond A B → Beyond B C → Beyond A C
beyond_then p q = record {
  more = omega (arith, p.more, q.more);
  rows_long = q.rows_long ∙ p.rows_long;
  lows_long = q.lows_long ∙ p.lows_long;
  rest = λ j h.
      let u : _ = q.rest j h in
      let v : _ = p.rest j (omega (arith, q.more)) in
      (u.0 ∙ v.0, u.1 ∙ v.1);
}
