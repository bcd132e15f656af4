-- One mutation more gets its nearest standing row.
use mathlib.Core.Path.{◌≡◌, sym, ◌∙◌}
use mathlib.Core.List.{List}
use mathlib.Core.Logic.{⊎_elim}
use Prim.Native.Nat.{ℕ, suc, ◌+◌, ◌<◌, ◌≤◌}
use native.Mathlib.Omega.{arith}
use lib.ListN.{length}
use Rattle.meaning.specs.Words.{at}
use Rattle.meaning.specs.Rows.{EdgeColumns}
use Rattle.laws.specs.Bools.{eq?}
use Rattle.bridge.specs.Parents.{code, parent_row}
use Rattle.mend.specs.Line.{par_of}
use Rattle.tree.specs.TreeAt.{Flags, low_at}
use Rattle.placing.specs.Placing.{Moves, Held, Taken, Between}
use Rattle.placing.specs.Movers.{beyond_none, beyond_then}

module _ {S P position site node : List ℕ} {next : ℕ} {W : Moves} {m : ℕ} where
  pub none_given : m ≤ length site → W.count ≤ m → Between S P position site node next W m W m
  none_given h l = record {
    more = omega arith;
    most = h;
    before = λ i a b. absurd (omega arith);
    few = l;
    beyond = beyond_none W;
    given = λ E Q x f h g c t. t;
  }

  -- mutation k, which lies before next and has the cell w, is taken
  pub one_given : {W' W'' : Moves} {k : ℕ} (w : ℕ) → Between S P position site node next W m W' k → Taken k w W' W'' → k < length site → at position (at site k) < next → ((E : EdgeColumns) (Q : List ℕ) (x : ℕ) → Flags S Q (length P) → par_of P ≡ parent_row E x → w ≡ code (low_at E Q (length P) x (at node k))) → Between S P position site node next W m W'' (k + 1)
  one_given {W'} {W''} {k} w b t s e g = record {
    more = omega (arith, b.more);
    most = omega arith;
    before = λ i a h. ⊎_elim (λ (q : i ≡ k). rw q e) (λ (q : i ≡ k → ⊥). b.before i a (omega arith)) (eq? i k);
    few = omega (arith, b.few, t.few);
    beyond = beyond_then b.beyond t.beyond;
    given = λ E Q x fl is f c h.
        let old : Held f k W' = b.given E Q x fl is f (λ i a l. c i a (omega arith)) h in
        let cell : f k ≡ w = c k b.more (omega arith) ∙ sym (g E Q x fl is) in
        let n : suc k ≡ k + 1 = omega arith in
        rw (sym n) (t.holds f cell old);
  }
