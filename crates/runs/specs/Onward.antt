-- Storing edges goes onward: the laws of `Onward` for a store that stays as it is and for one step after another.
use Rattle.std.specs.Prelude.{refl, ℕ}
use Rattle.std.proofs.Common.{◌∙◌, arith}
use Rattle.runs.specs.Runs.{Store, Same, Onward}

-- a store that stays as it is
pub onward_none : (D : Store) → Onward D D
onward_none D = record {
  more = omega arith;
  lefts = refl;
  rights = refl;
  parents = refl;
  children = refl;
  rest = λ i l. record { left = refl; right = refl; parent = refl; child = refl };
}

-- one step after another
pub onward_then : (D E G : Store) → Onward D E → Onward E G → Onward D G
onward_then D E G a b = record {
  more = omega (arith, a.more, b.more);
  lefts = b.lefts ∙ a.lefts;
  rights = b.rights ∙ a.rights;
  parents = b.parents ∙ a.parents;
  children = b.children ∙ a.children;
  rest = λ i l. both i (a.rest i (omega (arith, b.more))) (b.rest i l);
}
  where
    both : (i : ℕ) → Same D E i → Same E G i → Same D G i
    both i p q = record {
      left = q.left ∙ p.left;
      right = q.right ∙ p.right;
      parent = q.parent ∙ p.parent;
      child = q.child ∙ p.child;
    }
