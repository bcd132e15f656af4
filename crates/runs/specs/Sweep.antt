-- The sweep begins with nothing and goes on from a change to the next; what the store holds at its beginning.
use Rattle.std.specs.Prelude.{◌≡◌, refl, Bool, true, false, List, [], ◌⊎◌, ℕ, ◌<◌, ◌≤◌, ltb}
use Rattle.std.proofs.Common.{sym, ap, ◌∙◌, inl, inr, ⊎_elim, arith, ltb-true, ltb-false}
use Rattle.std.proofs.Math.Option.{some}
use Rattle.meaning.specs.Words.{at}
use Rattle.meaning.specs.Rows.{Edge}
use Rattle.meaning.specs.Forest.{Par}
use Rattle.laws.specs.Facts.{done}
use Rattle.bridge.specs.Parents.{no_row, code}
use Rattle.runs.specs.Runs.{Store, Stored, none_yet, Swept, Settled}

-- before the first position nothing is finished and no run is of a parent
pub swept_start : (U : ℕ → Par) (n L : ℕ) (left par : ℕ → ℕ) → ((y c p : ℕ) → c < n → U y c ≡ some p → p ≡ no_row → ⊥) → ((c : ℕ) → c < n → left c ≡ 0) → ((c : ℕ) → c < n → par c ≡ no_row) → Swept U n L 0 [] left par
swept_start U n L left par named zeros nones = record {
  kept = record {
    inside = omega arith;
    named = named;
    run = λ c l. record {
      begun = omega (arith, zeros c l);
      same = λ y i j. absurd (omega arith);
      early = λ k y q e. k (nones c l);
    };
    edges = done;
    in_turn = none_yet;
    covers = λ y c p l k e. absurd (omega arith);
  };
  behind = λ c l. inr (refl, nones c l);
}

-- a position before x' is before x, or from x on
below_or : (x y : ℕ) → (y < x) ⊎ (x ≤ y)
below_or x y = go (ltb y x) refl
  where
    go : (t : Bool) → ltb y x ≡ t → (y < x) ⊎ (x ≤ y)
    go true e = inl (ltb-true y x e)
    go false e = inr (ltb-false y x e)

-- where nothing changes from x up to the next change, the runs of x reach it
pub swept_on : (U : ℕ → Par) (n L x next : ℕ) (F : List Edge) (left par : ℕ → ℕ) → Settled U n L x F left par → x < next → next ≤ L → ((y c : ℕ) → x ≤ y → y < next → c < n → U y c ≡ U x c) → Swept U n L next F left par
swept_on U n L x next F left par s l k still = record {
  kept = record {
    inside = k;
    named = s.kept.named;
    run = λ c i. record {
      begun = omega (arith, (s.kept.run c i).begun);
      same = λ y a b. ⊎_elim
          (λ (q : y < x). (s.kept.run c i).same y a q)
          (λ (q : x ≤ y). ap code (still y c q b i) ∙ sym (s.current c i))
          (below_or x y);
      early = (s.kept.run c i).early;
    };
    edges = s.kept.edges;
    in_turn = s.kept.in_turn;
    covers = λ y c p a i e. ⊎_elim
        (λ (q : y < x). s.kept.covers y c p q i e)
        (λ (q : x ≤ y). inr (omega (arith, (s.kept.run c i).begun)))
        (below_or x y);
  };
  behind = λ c i. inl (omega (arith, (s.kept.run c i).begun));
}

-- ---- the store

-- nothing is stored where no row is marked and the count is 0
pub stored_start : (n : ℕ) (D : Store) → D.count ≡ 0 → ((p : ℕ) → p < n → at D.stood p ≡ 0) → Stored n [] D
stored_start n D z bare = record {
  counted = omega (arith, z);
  cells = λ i l m. absurd (omega (arith, z));
  marks = λ p l. inr (bare p l, λ a. elim a [ ]);
}
