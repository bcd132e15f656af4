-- A rule of what stands, and all that is asked of it; 01's rule and the rule that every reached node stands.
use Rattle.std.specs.Prelude.{◌≡◌, Bool, true, false, List, ◌⊎◌, ℕ}
use Rattle.std.proofs.Math.Path.{fun_ext}
use Rattle.meaning.specs.Words.{or}
use Rattle.meaning.specs.Forest.{Par, Rules, reached, stands}
use Rattle.laws.specs.Bools.{bool_ext}
use Rattle.laws.specs.Facts.{In}
use Rattle.forest.specs.Contract.{Contract, reached_in, reached_out, stands_in, stands_out}
use Rattle.forest.specs.Joining.{Joined, Grafted, kept_all, kept_reached}
use Rattle.forest.specs.TreeLaws.{Aged, Nodes, stands_of, of_stands, reached_of, of_reached}
use Rattle.forest.specs.Lowest.{Rule, stands_rule, reached_rule}
use Rattle.forest.specs.Redrawn.{contract_aged}

-- the forest B of the new nodes grafted on the forest T of the others
unfoldable pub join_par : (ℕ → Bool) → Par → Par → Par
join_par new B T b = elim (new b) [ true ↦ B b | false ↦ T b ]

pub join_par_joined : (new : ℕ → Bool) (B T : Par) → Joined new T B (join_par new B T)
unfolding join_par
join_par_joined new B T = record { old = λ e. rw (e, join_par); fresh = λ e. rw (e, join_par) }

-- what the two histories share at a position
pub record Setting (new : ℕ → Bool) (T B : Par) (rank : ℕ → ℕ) (S1 S2 : List ℕ) : Type 0 where
  pub batch : Grafted new (In S1) T B
  pub from : (s : ℕ) → In S2 s → (new s ≡ true) ⊎ In S1 s
  pub base_aged : Aged T rank
  pub aged : Aged (join_par new B T) rank

-- all that is asked of a rule of what stands
pub record Profile (rule : Rules) : Type 0 where
  pub is_rule : (P : Par) (rank : ℕ → ℕ) → Aged P rank → (N : List ℕ) → Nodes P N → (S : List ℕ) → Rule P (In S) (rule N P S)
  -- drawing the forest together to a set that has all that stands does not change what stands
  pub contracted : (P Q : Par) (K : ℕ → Bool) (rank : ℕ → ℕ) → Contract P K Q → Aged P rank → (N M : List ℕ) → Nodes P N → Nodes Q M → (S : List ℕ) →
      ((s : ℕ) → In S s → K s ≡ true) → ((v : ℕ) → rule N P S v ≡ true → K v ≡ true) → rule M Q S ≡ rule N P S
  -- what stands after a batch stood before it, or is new
  pub dropped : (new : ℕ → Bool) (T B : Par) (rank : ℕ → ℕ) (S1 S2 : List ℕ) → Setting new T B rank S1 S2 → (N M : List ℕ) → Nodes T N → Nodes (join_par new B T) M → (v : ℕ) →
      rule M (join_par new B T) S2 v ≡ true → or (new v) (rule N T S1 v) ≡ true

pub stands_profile : Profile stands
stands_profile = record {
  is_rule = stands_rule;
  contracted = λ P Q K rank c ok N M nd nm S h sub.
      let ok_q : Aged Q rank = contract_aged rank c ok in
      fun_ext (λ v. bool_ext
      (λ e. of_stands P rank ok N nd S v (stands_in c (In S) rank ok.ranked h (λ u s. sub u (of_stands P rank ok N nd S u s)) (stands_of Q rank ok_q M nm S v e)))
      (λ e. of_stands Q rank ok_q M nm S v (stands_out c (In S) rank ok.ranked h (sub v e) (stands_of P rank ok N nd S v e))));
  dropped = λ new T B rank S1 S2 st N M nd nm v e.
      kept_all new (In S1) T B st.batch (stands N T S1) (λ s m. (stands_rule T rank st.base_aged N nd S1).samples m) (join_par new B T) (join_par_joined new B T) (In S2)
      st.from (λ u s. of_stands T rank st.base_aged N nd S1 u s) v (stands_of (join_par new B T) rank st.aged M nm S2 v e);
}

-- every reached node stands
abbrev pub line : Rules
line N P S = reached P S

pub line_profile : Profile line
line_profile = record {
  is_rule = reached_rule;
  contracted = λ P Q K rank c ok N M nd nm S h sub.
      let ok_q : Aged Q rank = contract_aged rank c ok in
      fun_ext (λ v. bool_ext
      (λ e. of_reached P rank ok S v (reached_in c (In S) rank ok.ranked h (reached_of Q rank ok_q S v e)))
      (λ e. of_reached Q rank ok_q S v (reached_out c (In S) rank ok.ranked h (sub v e) (reached_of P rank ok S v e))));
  dropped = λ new T B rank S1 S2 st N M nd nm v e.
      kept_reached new (In S1) T B st.batch (reached T S1) (λ s m. (reached_rule T rank st.base_aged N nd S1).samples m) (join_par new B T) (join_par_joined new B T)
      (In S2) st.from (λ u s. of_reached T rank st.base_aged S1 u s) v (reached_of (join_par new B T) rank st.aged S2 v e);
}
