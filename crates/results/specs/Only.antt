-- 01: a mutation "moves to the nearest standing node at or below u, of which there is only one".
use Rattle.std.specs.Prelude.{◌≡◌, Bool, true, List, ℕ, ◌<◌}
use Rattle.std.proofs.Math.Option.{some}
use Rattle.std.proofs.Common.{arith}
use Rattle.meaning.specs.Forest.{Par, Ages, reached, stands, low}
use Rattle.laws.specs.Facts.{In}
use Rattle.forest.specs.Lines.{antisym}
use Rattle.forest.specs.Contract.{Low}
use Rattle.forest.specs.TreeLaws.{Aged, Nodes, reached_of}
use Rattle.forest.specs.Lowest.{stands_rule, low_of, of_low}

module _ (P : Par) (rank : ℕ → ℕ) (ok : Aged P rank) where
  -- two nodes that are each the highest of K at or below u are one
  pub only_one : (K : ℕ → Bool) (u v w : ℕ) → Low P K v u → Low P K w u → v ≡ w
  only_one K u v w x y = antisym rank ok.ranked (x.all y.in_set y.below) (y.all x.in_set x.below)

  -- and a reached node has one
  pub has_one : (N : List ℕ) → Nodes P N → (S : List ℕ) (u : ℕ) → rank u < Ages → reached P S u ≡ true → (w : ℕ) × (low N P (reached P S) (stands N P S) Ages u ≡ some w) × Low P (stands N P S) w u
  has_one N nd S u l r =
      let x : _ = of_low P rank ok N nd S (stands N P S) (stands_rule P rank ok N nd S) Ages u (omega arith) (reached_of P rank ok S u r) in
      (x.0, x.1, low_of P rank ok N nd S (stands N P S) (stands_rule P rank ok N nd S) Ages x.0 u x.1)
