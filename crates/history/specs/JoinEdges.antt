-- The edges of a joined record, read at a position: the batch's forest grafted on the base's.
use Rattle.std.specs.Prelude.{◌≡◌, Bool, true, false, List, ◌++◌, ◌⊎◌, ℕ}
use Rattle.std.proofs.Math.Path.{ap, fun_ext}
use Rattle.std.proofs.Common.{◌∙◌, inl, inr}
use Rattle.std.proofs.Math.Option.{some}
use Rattle.std.proofs.Math.Logic.{⊎_elim}
use Rattle.meaning.specs.Words.{sort}
use Rattle.meaning.specs.Rows.{Edge}
use Rattle.meaning.specs.Forest.{parent_in}
use Rattle.laws.specs.Bools.{truth, some_inj, opt_ext}
use Rattle.laws.specs.Facts.{Any, Cov}
use Rattle.forest.specs.Profile.{join_par}
use Rattle.history.specs.Lists.{any_left, any_right, any_split, sort_any, any_sort}
use Rattle.history.specs.Encode.{parent_of, of_parent}

-- what is asked of base rows and batch rows at x: one parent each, and the batch's children are the new ones
pub record Side (new : ℕ → Bool) (t : Bool) (x : ℕ) (l : List Edge) : Type 0 where
  pub single : (v q r : ℕ) → Any (Cov x v q) l → Any (Cov x v r) l → q ≡ r
  pub side : (v q : ℕ) → Any (Cov x v q) l → new v ≡ t

module _ (new : ℕ → Bool) (lt : Edge → Edge → Bool) (x : ℕ) (a b : List Edge) (sa : Side new false x a) (sb : Side new true x b) where
  joined_of : (v q : ℕ) → parent_in (sort lt (a ++ b)) x v ≡ some q → join_par new (parent_in b x) (parent_in a x) v ≡ some q
  unfolding join_par
  joined_of v q h = ⊎_elim
      (λ (y : Any (Cov x v q) a). let r : _ = of_parent x v a q y in rw (sa.side v q y, join_par) (r.1 ∙ ap some (sa.single v r.0 q (parent_of x v a r.0 r.1) y)))
      (λ (y : Any (Cov x v q) b). let r : _ = of_parent x v b q y in rw (sb.side v q y, join_par) (r.1 ∙ ap some (sb.single v r.0 q (parent_of x v b r.0 r.1) y)))
      (any_split a (any_sort lt (a ++ b) (parent_of x v (sort lt (a ++ b)) q h)))

  pub join_parent : parent_in (sort lt (a ++ b)) x ≡ join_par new (parent_in b x) (parent_in a x)
  unfolding join_par
  join_parent = fun_ext (λ v. opt_ext (joined_of v) (λ q h. back v q h (truth (new v))))
    where
      sure : (v q : ℕ) → Any (Cov x v q) (a ++ b) → join_par new (parent_in b x) (parent_in a x) v ≡ some q → parent_in (sort lt (a ++ b)) x v ≡ some q
      sure v q y h = let r : _ = of_parent x v (sort lt (a ++ b)) q (sort_any lt (a ++ b) y) in r.1 ∙ ap some (some_inj (joined_of v r.0 r.1) h)

      back : (v q : ℕ) → join_par new (parent_in b x) (parent_in a x) v ≡ some q → (new v ≡ true) ⊎ (new v ≡ false) → parent_in (sort lt (a ++ b)) x v ≡ some q
      back v q h (inl n) = sure v q (any_right a (parent_of x v b q (rw (n, join_par) at h))) h
      back v q h (inr n) = sure v q (any_left b (parent_of x v a q (rw (n, join_par) at h))) h
