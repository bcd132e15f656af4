-- One mutation more is listed, counted, or left out.
use mathlib.Core.Path.{◌≡◌, refl, sym, ap, ◌∙◌}
use mathlib.Core.List.{List}
use mathlib.Core.Logic.{⊎_elim}
use Prim.Native.Nat.{ℕ, suc, ◌+◌, ◌<◌, ◌≤◌}
use native.Mathlib.Omega.{arith}
use lib.ListN.{length, set, length-set}
use lib.Seq.{get_or-set_same, get_or-set_other}
use Rattle.meaning.specs.Words.{at}
use Rattle.laws.specs.Bools.{eq?}
use Rattle.bridge.specs.Parents.{no_row}
use Rattle.placing.specs.Placing.{Moves, movers, Taken}
use Rattle.placing.specs.Movers.{movers_no, movers_more, movers_old, movers_last, beyond_none}

module _ (R L : List ℕ) (k m w : ℕ) where
  abbrev W : Moves
  W = record { row = R; low = L; count = k }

  -- its cell is none
  pub none_taken : w ≡ no_row → Taken m w W W
  none_taken e = record {
    beyond = beyond_none W;
    few = omega arith;
    holds = λ f q h.
        let same : movers f (suc m) ≡ movers f m = movers_no f m (q ∙ e) in
        record {
          counted = h.counted ∙ sym (ap length same);
          rows = λ j a b. h.rows j a b ∙ sym (ap (λ s. at s j) same);
          lows = λ j a b. h.lows j a b ∙ sym (ap (λ s. f (at s j)) same);
        };
  }

  -- it moves, and there is no cell for it
  pub past_taken : (w ≡ no_row → ⊥) → length R ≤ k → Taken m w W (record { row = R; low = L; count = k + 1 })
  past_taken e l = record {
    beyond = record { more = omega arith; rows_long = refl; lows_long = refl; rest = λ j a. (refl, refl) };
    few = omega arith;
    holds = λ f q h.
        let moves : (f m ≡ no_row → ⊥) = λ z. e (sym q ∙ z) in
        record {
          counted = omega (arith, h.counted, movers_more f m moves);
          rows = λ j a b.
              h.rows j (omega arith) b ∙ sym (movers_old f m j moves (omega (arith, h.counted)));
          lows = λ j a b.
              h.lows j (omega arith) b ∙ sym (ap f (movers_old f m j moves (omega (arith, h.counted))));
        };
  }

  -- it moves, and cell k of each column has it
  pub cell_taken : (w ≡ no_row → ⊥) → k < length R → length L ≡ length R → Taken m w W (record { row = set R k m; low = set L k w; count = k + 1 })
  cell_taken e l n = record {
    beyond = record {
      more = omega arith;
      rows_long = length-set R k m;
      lows_long = length-set L k w;
      rest = λ j a. (get_or-set_other R k j m 0 (λ z. omega arith), get_or-set_other L k j w 0 (λ z. omega arith));
    };
    few = omega arith;
    holds = λ f q h.
        let moves : (f m ≡ no_row → ⊥) = λ z. e (sym q ∙ z) in
        let last : at (movers f (suc m)) k ≡ m = ap (at (movers f (suc m))) h.counted ∙ movers_last f m moves in
        record {
          counted = omega (arith, h.counted, movers_more f m moves);
          rows = λ j a b.
              ⊎_elim
              (λ (z : j ≡ k). ap (at (set R k m)) z ∙ get_or-set_same R k m 0 l ∙ sym (ap (at (movers f (suc m))) z ∙ last))
              (λ (z : j ≡ k → ⊥). get_or-set_other R k j m 0 z ∙ h.rows j (omega arith) (omega (arith, length-set R k m)) ∙ sym (movers_old f m j moves (omega (arith, h.counted))))
              (eq? j k);
          lows = λ j a b.
              ⊎_elim
              (λ (z : j ≡ k). ap (at (set L k w)) z ∙ get_or-set_same L k w 0 (omega arith) ∙ sym q ∙ sym (ap f (ap (at (movers f (suc m))) z ∙ last)))
              (λ (z : j ≡ k → ⊥). get_or-set_other L k j w 0 z ∙ h.lows j (omega arith) (omega (arith, length-set R k m)) ∙ sym (ap f (movers_old f m j moves (omega (arith, h.counted)))))
              (eq? j k);
        };
  }
