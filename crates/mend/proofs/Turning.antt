-- What the tests at the end of a climb tell.
use Rattle.std.proofs.Common.{◌≡◌, ℕ, ◌<◌, ◌≤◌, true, false, ltb, List, get_or, sym, refl, ◌∙◌, le-ltb, lt-ltb, eq-eqb, ne_eqb}
use Rattle.laws.specs.Bools.{clash}
use Rattle.mend.specs.Right.{none, more, stands}
use Rattle.mend.specs.Turns.{settled}

module _ (S C : List ℕ) (n s : ℕ) where
  pub settled_none : s ≡ none → settled S C n s ≡ true
  unfolding settled
  settled_none e = rw (eq-eqb s none e) refl

  pub settled_row : (s ≡ none → ⊥) → settled S C n s ≡ more S C n s
  unfolding settled
  settled_row m = rw (ne_eqb s none m) refl

  pub settled_yes : settled S C n s ≡ true → (s ≡ none → ⊥) → more S C n s ≡ true
  settled_yes t m = sym (settled_row m) ∙ t

  pub settled_no : settled S C n s ≡ false → (s ≡ none → ⊥) × (more S C n s ≡ false)
  settled_no t = let m : (s ≡ none → ⊥) = (λ e. clash (settled_none e) t) in (m, sym (settled_row m) ∙ t)

  pub more_sample : 0 < get_or S s 0 → more S C n s ≡ true
  unfolding more
  more_sample h = rw (lt-ltb 0 (get_or S s 0) h) refl

  pub more_count : get_or S s 0 ≤ 0 → more S C n s ≡ ltb n (get_or C s 0)
  unfolding more
  more_count h = rw (le-ltb 0 (get_or S s 0) h) refl

-- two live children are more than one
pub more_stands : (S C : List ℕ) (s : ℕ) → more S C 1 s ≡ stands S C s
unfolding more stands
more_stands S C s = refl
