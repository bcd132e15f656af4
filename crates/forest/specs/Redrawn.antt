-- A forest drawn together, and drawn together again to fewer nodes: the nearest above and the nearest below are those of the whole forest.
use Rattle.std.specs.Prelude.{◌≡◌, Bool, true, false, List, ◌⊎◌, ℕ, ◌<◌, ◌≤◌}
use Rattle.std.proofs.Common.{ap, ◌∙◌, inl, inr, arith}
use Rattle.std.proofs.Math.Path.{fun_ext}
use Rattle.std.proofs.Math.Option.{some}
use Rattle.std.proofs.Math.Logic.{⊎_elim}
use Rattle.meaning.specs.Forest.{Par, Ages, reached, low, drawn}
use Rattle.laws.specs.Bools.{truth, opt_ext}
use Rattle.laws.specs.Facts.{In}
use Rattle.forest.specs.Lines.{Above, Ranked, trans, child_to, antisym}
use Rattle.forest.specs.Contract.{Set, Reached, Low, Contract, up_above, contract_ranked, up_in_p, up_out_p, low_in_p, low_out_p}
use Rattle.forest.specs.TreeLaws.{Aged, Nodes, up_of, of_up}
use Rattle.forest.specs.Lowest.{Rule, low_of, of_low}

pub contract_aged : {P : Par} {K : ℕ → Bool} {Q : Par} (rank : ℕ → ℕ) → Contract P K Q → Aged P rank → Aged Q rank
contract_aged {P} {Q = Q} rank c ok = record { ranked = contract_ranked c ok.ranked; bound = λ {b} {p} e. go b p e (child_to (up_above c e)) }
  where
    go : (b p : ℕ) → Q b ≡ some p → (p ≡ b) ⊎ ((i : ℕ) × (P i ≡ some p) × Above P i b) → rank p < Ages
    go b p e (inl q) = absurd (omega (arith, (contract_ranked c ok.ranked).grows e, ap rank q))
    go b p e (inr i) = ok.bound i.1

-- "of which there is only one"
pub low_unique : {P : Par} {K : ℕ → Bool} {w v u : ℕ} (rank : ℕ → ℕ) → Ranked P rank → Low P K w u → Low P K v u → w ≡ v
low_unique rank ok x y = antisym rank ok (x.all y.in_set y.below) (y.all x.in_set x.below)

-- what has a standing node at or below it is reached
pub low_reached : {P : Par} {S : Set} {K : ℕ → Bool} {w u : ℕ} → Rule P S K → Low P K w u → Reached P S u
low_reached r l = let s : _ = r.only l.in_set in (s.0, s.1, trans l.below s.2)

-- Q is P drawn together to K, and K has all that stands
module _ (P Q : Par) (K : ℕ → Bool) (rank : ℕ → ℕ) (c : Contract P K Q) (ok : Aged P rank) (M : ℕ → Bool) (sub : (v : ℕ) → M v ≡ true → K v ≡ true) where
  ok_q : Aged Q rank
  ok_q = contract_aged rank c ok

  pub redrawn : drawn Q M ≡ drawn P M
  unfolding drawn
  redrawn = fun_ext (λ v. ⊎_elim
      (λ (e : M v ≡ true). rw (e, drawn) (opt_ext
      (λ w h. of_up P M rank ok w v (up_in_p c M sub (up_of Q M w v h)))
      (λ w h. of_up Q M rank ok_q w v (up_out_p c M sub (sub v e) (up_of P M w v h)))))
      (λ (e : M v ≡ false). rw (e, drawn))
      (truth (M v)))

  module _ (S : List ℕ) (N NQ : List ℕ) (nd : Nodes P N) (nq : Nodes Q NQ) (r_p : Rule P (In S) M) (r_q : Rule Q (In S) M) where
    -- a is the nearest of K at or below u: from there on low is the same
    pub redrawn_low : (u a : ℕ) → rank u ≤ Ages → rank a ≤ Ages → Low P K a u → low NQ Q (reached Q S) M Ages a ≡ low N P (reached P S) M Ages u
    redrawn_low u a lu la l = opt_ext
        (λ w h.
        let x : Low P M w u = low_in_p c M sub l (low_of Q rank ok_q NQ nq S M r_q Ages w a h) in
        let r : _ = of_low P rank ok N nd S M r_p Ages u lu (low_reached r_p x) in
        r.1 ∙ ap some (low_unique rank ok.ranked (low_of P rank ok N nd S M r_p Ages r.0 u r.1) x))
        (λ w h.
        let x : Low Q M w a = low_out_p c M sub l (low_of P rank ok N nd S M r_p Ages w u h) in
        let r : _ = of_low Q rank ok_q NQ nq S M r_q Ages a la (low_reached r_q x) in
        r.1 ∙ ap some (low_unique rank ok_q.ranked (low_of Q rank ok_q NQ nq S M r_q Ages r.0 a r.1) x))
