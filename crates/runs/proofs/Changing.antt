-- The change at x is dealt with row by row: what holds after the first rows of those touched, and at the end.
use mathlib.Core.Path.{◌≡◌, refl, sym, ap, ◌∙◌}
use mathlib.Core.List.{List}
use mathlib.Core.Logic.{◌⊎◌, inl, inr, ⊎_elim}
use Prim.Native.Nat.{ℕ, ◌+◌, ◌<◌, ◌≤◌}
use native.Mathlib.Omega.{arith}
use lib.ListN.{length, set, length-set}
use lib.Seq.{get_or-set_same, get_or-set_other}
use Rattle.meaning.specs.Words.{at}
use Rattle.meaning.specs.Rows.{Edge}
use Rattle.meaning.specs.Forest.{Par}
use Rattle.laws.specs.Bools.{eq?}
use Rattle.bridge.specs.Parents.{code}
use Rattle.runs.specs.Runs.{OpenRuns, Store, Settling, Stored, Onward}
use Rattle.runs.specs.Onward.{onward_none, onward_then}
use Rattle.runs.specs.Promises.{Ready, RowSettled, Touched, ChangeSettled, Bared}
use Rattle.runs.proofs.Storing.{room_kept}

-- the first i rows of touched are dealt with: from O₀ and D₀ the columns came to O and D
pub record Underway (x : ℕ) (up touched : List ℕ) (O₀ : OpenRuns) (D₀ : Store) (i : ℕ) (O : OpenRuns) (D : Store) : Type 0 where
  pub ready : Ready up O D
  pub onward : Onward D₀ D
  pub left_over : (c : ℕ) → c < length up → (at O.par c ≡ at up c → ⊥) → (at O₀.par c ≡ at up c → ⊥) × ((j : ℕ) → j < i → at touched j ≡ c → ⊥)
  pub settles : (U : ℕ → Par) (L : ℕ) (F : List Edge) → Settling U (length up) L x F (at O₀.left) (at O₀.par) → ((c : ℕ) → c < length up → at up c ≡ code (U x c)) → Stored (length up) F D₀ → (F' : List Edge) × Settling U (length up) L x F' (at O.left) (at O.par) × Stored (length up) F' D

module _ (x : ℕ) (up touched : List ℕ) (O₀ : OpenRuns) (D₀ : Store) where
  pub under_start : Ready up O₀ D₀ → Underway x up touched O₀ D₀ 0 O₀ D₀
  under_start r = record {
    ready = r;
    onward = onward_none D₀;
    left_over = λ c l n. (n, λ j k q. absurd (omega arith));
    settles = λ U L F s u t. (F, s, t);
  }

  -- one row more
  pub under_next : (i : ℕ) (O O' : OpenRuns) (D D' : Store) → Underway x up touched O₀ D₀ i O D → at touched i < length up → RowSettled x (at touched i) up O D O' D' → length D'.stood ≡ length D.stood → Underway x up touched O₀ D₀ (i + 1) O' D'
  under_next i O O' D D' w cn s long = record {
    ready = record {
      runs = s.runs;
      room = room_kept (length up) D D' w.ready.room s.onward long;
      rows = w.ready.rows;
    };
    onward = onward_then D₀ D D' w.onward s.onward;
    left_over = λ d l n. ⊎_elim
        (λ (q : d ≡ at touched i). absurd (n (ap (at O'.par) q ∙ s.here ∙ ap (at up) (sym q))))
        (λ (q : d ≡ at touched i → ⊥).
        let o : _ = w.left_over d l (λ e. n (s.others d q ∙ e)) in
        (o.0, λ j k e. ⊎_elim (λ (z : j ≡ i). q (sym e ∙ ap (at touched) z)) (λ (z : j ≡ i → ⊥). o.1 j (omega arith) e) (eq? j i)))
        (eq? d (at touched i));
    settles = λ U L F a u t.
        let r : _ = w.settles U L F a u t in
        s.settles U L r.0 r.1 (u (at touched i) cn) r.2;
  }

  -- all rows touched are dealt with, and no other has another output parent
  pub under_end : (k i : ℕ) (O : OpenRuns) (D : Store) → k ≤ i → Underway x up touched O₀ D₀ i O D → ChangeSettled x up touched k O₀ D₀ O D
  under_end k i O D l w = record {
    runs = w.ready.runs;
    onward = w.onward;
    settles = λ U L F a u t b.
        let r : _ = w.settles U L F (record { kept = a.kept; either = λ c m. inr (a.behind c m) }) u b in
        (r.0, record { kept = r.1.kept; current = λ c m. current t c m ∙ u c m }, r.2);
  }
    where
      current : Touched (length up) up O₀.par k touched → (c : ℕ) → c < length up → at O.par c ≡ at up c
      current t c m = ⊎_elim
          (λ (q : at O.par c ≡ at up c). q)
          (λ (q : at O.par c ≡ at up c → ⊥).
          let o : _ = w.left_over c m q in
          let z : _ = t c m o.0 in
          absurd (o.1 z.0 (omega (arith, z.1)) z.2))
          (eq? (at O.par c) (at up c))

-- ---- the marks

module _ (n : ℕ) (touched K : List ℕ) where
  pub bared_start : Bared n touched 0 K K
  bared_start = record {
    long = refl;
    bare = λ c l q. ⊎_elim (λ (z : at K c ≡ 0). z) (λ (z : (j : ℕ) × (j < 0) × (at touched j ≡ c)). absurd (omega (arith, z.1))) q;
  }

  -- the mark of one row more is taken away
  pub bared_next : (i : ℕ) (K' : List ℕ) → length K ≡ n → at touched i < n → Bared n touched i K K' → Bared n touched (i + 1) K (set K' (at touched i) 0)
  bared_next i K' full m b = record {
    long = length-set K' (at touched i) 0 ∙ b.long;
    bare = λ c l q. ⊎_elim
        (λ (e : c ≡ at touched i). ap (at (set K' (at touched i) 0)) e ∙ get_or-set_same K' (at touched i) 0 0 (omega (arith, b.long)))
        (λ (e : c ≡ at touched i → ⊥). get_or-set_other K' (at touched i) c 0 0 e ∙ b.bare c l (before c e q))
        (eq? c (at touched i));
  }
    where
      before : (c : ℕ) → (c ≡ at touched i → ⊥) → (at K c ≡ 0) ⊎ ((j : ℕ) × (j < i + 1) × (at touched j ≡ c)) → (at K c ≡ 0) ⊎ ((j : ℕ) × (j < i) × (at touched j ≡ c))
      before c e (inl z) = inl z
      before c e (inr z) = inr (z.0, ⊎_elim (λ (q : z.0 ≡ i). absurd (e (sym z.2 ∙ ap (at touched) q))) (λ (q : z.0 ≡ i → ⊥). omega (arith, z.1)) (eq? z.0 i), z.2)

  pub bared_end : (k i : ℕ) (K' : List ℕ) → k ≤ i → Bared n touched i K K' → Bared n touched k K K'
  bared_end k i K' l b = record {
    long = b.long;
    bare = λ c m q. b.bare c m (⊎_elim (λ (z : at K c ≡ 0). inl z) (λ (z : (j : ℕ) × (j < k) × (at touched j ≡ c)). inr (z.0, omega (arith, z.1), z.2)) q);
  }
