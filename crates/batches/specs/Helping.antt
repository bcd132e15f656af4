-- A column that helps to find a number does so in one way only, so that a struct can keep that it does.
use Rattle.std.specs.Prelude.{◌≡◌, List, ℕ, ◌<◌, ◌≤◌, length}
use mathlib.Core.HLevel.{Σ_prop_path}
use Rattle.std.proofs.Math.Path.{ap}
use Rattle.std.proofs.Common.{⊎_elim, sym, ◌∙◌}
use denote.Struct.Props.{props}
use Rattle.meaning.specs.Words.{at}
use Rattle.order.specs.Lex.{trichotomy}
use Rattle.order.specs.Ranks.{Ranked, Helps}

module _ (l idx : List ℕ) where
  -- a row stands at one place
  place_once : Ranked l idx → (a : ℕ) → IsProp ((p : ℕ) × (p < length l) × (at idx p ≡ a))
  place_once r a s t = ap flat (Σ_prop_path fact {u = (s.0, (s.1, s.2))} {v = (t.0, (t.1, t.2))} (⊎_elim
      (λ (m : s.0 < t.0). absurd (r.once s.0 t.0 m t.1 (s.2 ∙ sym t.2)))
      (λ q. ⊎_elim (λ (m : s.0 ≡ t.0). m) (λ (m : t.0 < s.0). absurd (r.once t.0 s.0 m s.1 (t.2 ∙ sym s.2))) q)
      (trichotomy s.0 t.0)))
    where
      fact : (p : ℕ) → IsProp ((p < length l) × (at idx p ≡ a))
      fact p = Prim.hlevel props

      flat : (p : ℕ) × ((p < length l) × (at idx p ≡ a)) → (p : ℕ) × (p < length l) × (at idx p ≡ a)
      flat w = (w.0, w.1.0, w.1.1)

  ranked_once : IsProp (Ranked l idx)
  ranked_once x y =
      let long_once : IsProp (length idx ≡ length l) = Prim.hlevel props in
      let row_once : IsProp ((p : ℕ) → p < length l → at idx p < length l) = Prim.hlevel props in
      let apart_once : IsProp ((p q : ℕ) → p < q → q < length l → at idx p ≡ at idx q → ⊥) = Prim.hlevel props in
      let rising_once : IsProp ((p q : ℕ) → p < q → q < length l → at l (at idx p) ≤ at l (at idx q)) = Prim.hlevel props in
      let ties_once : IsProp ((p q : ℕ) → p < q → q < length l → at l (at idx p) ≡ at l (at idx q) → at idx p < at idx q) = Prim.hlevel props in
      λ i. record {
        long = long_once x.long y.long i;
        row = row_once x.row y.row i;
        place = λ a h. place_once x a (x.place a h) (y.place a h) i;
        once = apart_once x.once y.once i;
        rising = rising_once x.rising y.rising i;
        ties = ties_once x.ties y.ties i;
      }

  pub helps_once : IsProp (Helps l idx)
  helps_once x y = λ i. record { ranked = λ e. ranked_once (x.ranked e) (y.ranked e) i }
