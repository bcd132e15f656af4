-- The most recent common ancestor of two samples stands, and is theirs in the cleaned forest.
use Rattle.std.specs.Prelude.{◌≡◌, Bool, true, ℕ}
use Rattle.std.proofs.Math.Option.{some}
use Rattle.std.proofs.Common.{⊎_elim}
use Rattle.meaning.specs.Forest.{Par}
use Rattle.forest.specs.Lines.{Above, here, step, Ranked, Parts, first, second, fork, trans, above_eq, child_to, to_down, meet, antisym}
use Rattle.forest.specs.Contract.{Set, Contract, order_in, order_out, up_in}
use Rattle.forest.specs.Lowest.{Rule}

-- m is at or above s and t, and every other that is so is at or above m
pub record Mrca (P : Par) (s t m : ℕ) : Type 0 where
  pub one : Above P m s
  pub other : Above P m t
  pub recent : {a : ℕ} → Above P a s → Above P a t → Above P a m

module _ (P Q : Par) (K : ℕ → Bool) (rank : ℕ → ℕ) (ok : Ranked P rank) (S : Set) (ru : Rule P S K) (c : Contract P K Q) (s t : ℕ) (ms : S s) (mt : S t) where
  pub mrca_stands : (m : ℕ) → Mrca P s t m → K m ≡ true
  mrca_stands m x = let r : _ = meet t (to_down x.one) x.other in go r.0 r.1 r.2
    where
      same : (n : ℕ) → Above P m n → Above P n s → Above P n t → K n ≡ true → K m ≡ true
      same n y a b k = rw (antisym rank ok y (x.recent a b)) k

      go : (n : ℕ) → Above P m n → Parts P n s t → K m ≡ true
      go n y (first e z) = same n y (above_eq e) z (rw e (ru.samples ms))
      go n y (second e z) = same n y z (above_eq e) (rw e (ru.samples mt))
      go n y (fork d e f v w) = same n y (trans (step e here) v) (trans (step f here) w) (ru.forks d e f (s, ms, v) (t, mt, w))

  above_kept : {a : ℕ} → Above Q a s → K a ≡ true
  above_kept {a} x = ⊎_elim (λ (q : a ≡ s). rw q (ru.samples ms)) (λ (d : (d : ℕ) × (Q d ≡ some a) × Above Q d s). up_in c d.1) (child_to x)

  pub mrca_kept : (m : ℕ) → Mrca P s t m → Mrca Q s t m
  mrca_kept m x = let k : K m ≡ true = mrca_stands m x in record {
    one = order_out c k (ru.samples ms) x.one;
    other = order_out c k (ru.samples mt) x.other;
    recent = λ y z. order_out c (above_kept y) k (x.recent (order_in c y) (order_in c z));
  }

  -- where they have none, the cleaned forest has none
  pub mrca_none : ((a : ℕ) → Above P a s → Above P a t → ⊥) → (a : ℕ) → Above Q a s → Above Q a t → ⊥
  mrca_none h a x y = h a (order_in c x) (order_in c y)
