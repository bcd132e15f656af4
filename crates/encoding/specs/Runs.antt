-- The runs of one parent and child are as long as they can be, and rise.
use Rattle.std.specs.Prelude.{◌≡◌, Bool, ◌⊎◌}
use Rattle.std.proofs.Math.Path.{refl}
use Rattle.std.proofs.Common.{sym, ap, ◌∙◌, inl, inr}
use Rattle.std.proofs.Math.Bool.{true, false}
use mathlib.Core.List.{List, [], ◌∷◌, ◌++◌}
use Rattle.std.proofs.Math.Option.{Option, none, some}
use Rattle.std.proofs.Math.Logic.{⊎_elim}
use Prim.Native.Nat.{ℕ, zero, suc, ◌+◌, ◌<◌, ◌≤◌}
use native.Mathlib.Omega.{arith}
use Rattle.meaning.specs.Rows.{Edge}
use Rattle.meaning.specs.Clean.{shut, opened, runs}
use Rattle.laws.specs.Bools.{clash, eq?}
use Rattle.laws.specs.Facts.{All, done, also}
use Rattle.history.specs.Lists.{all_app, all_to}
use Rattle.encoding.specs.Ascending.{Ascending, empty, first, ascending_app}

-- "as long as it can be": f holds on all of the edge, and neither just before nor just after it on a chromosome of length L
pub record Longest (L : ℕ) (f : ℕ → Bool) (e : Edge) : Type 0 where
  pub wide : e.left < e.right
  pub inside : e.right ≤ L
  pub holds : (x : ℕ) → e.left ≤ x → x < e.right → f x ≡ true
  pub begins : (y : ℕ) → suc y ≡ e.left → f y ≡ false
  pub ends : e.right < L → f e.right ≡ false

-- where f holds of two longest edges at one position, they have the same ends
module _ {L : ℕ} {f : ℕ → Bool} {d e : Edge} (x : ℕ) (p : Longest L f d) (q : Longest L f e) (dl : d.left ≤ x) (dr : x < d.right) (el : e.left ≤ x) (er : x < e.right) where
  pub left_not_after : d.left < e.left → ⊥
  left_not_after h = before e.left refl
    where
      before : (l : ℕ) → l ≡ e.left → ⊥
      before zero z = omega arith
      before (suc y) z = clash (p.holds y (omega arith) (omega arith)) (q.begins y z)

  pub right_not_before : d.right < e.right → ⊥
  right_not_before h = clash (q.holds d.right (omega arith) h) (p.ends (omega (arith, q.inside)))

module _ (p c : ℕ) (f : ℕ → Bool) (L : ℕ) where
  -- an open run holds from its beginning up to x, and began as early as it could
  pub data Going (x : ℕ) : Option ℕ → Type 0 where
    idle : ((y : ℕ) → suc y ≡ x → f y ≡ false) → Going x none
    since : {s : ℕ} → s < x → ((y : ℕ) → s ≤ y → y < x → f y ≡ true) → ((y : ℕ) → suc y ≡ s → f y ≡ false) → Going x (some s)

  shut_longest : (o : Option ℕ) (x : ℕ) → Going x o → x ≤ L → (x < L → f x ≡ false) → All (Longest L f) (shut p c o x)
  unfolding shut
  shut_longest none x g l h = done
  shut_longest (some s) x (since a b e) l h = also (record { wide = a; inside = l; holds = λ y i j. b y i j; begins = e; ends = h }) done

  -- one more position where f holds
  goes_on : (o : Option ℕ) (x : ℕ) → Going x o → f x ≡ true → Going (suc x) (opened o x)
  unfolding opened
  goes_on none x (idle n) e = let l : x < suc x = omega arith in since l (λ y i j. let q : x ≡ y = omega arith in rw q at e) n
  goes_on (some s) x (since a b n) e = let l : s < suc x = omega arith in since l (λ y i j. ⊎_elim (λ (q : x ≡ y). rw q at e) (λ (q : x ≡ y → ⊥). b y i (omega arith)) (eq? x y)) n

  -- and one where it does not
  stops : (x : ℕ) → f x ≡ false → Going (suc x) none
  stops x e = idle (λ y q. let r : x ≡ y = omega arith in rw r at e)

  pub runs_longest : (o : Option ℕ) (x k : ℕ) → Going x o → x + k ≡ L → All (Longest L f) (runs p c f o x k)
  unfolding runs
  runs_longest o x zero g q = shut_longest o x g (omega arith) (λ l. absurd (omega arith))
  runs_longest o x (suc k) g q = go (f x) refl (λ o' g'. runs_longest o' (suc x) k g' (omega arith))
    where
      go : (t : Bool) → f x ≡ t → ((o' : Option ℕ) → Going (suc x) o' → All (Longest L f) (runs p c f o' (suc x) k)) → All (Longest L f) (runs p c f o x (suc k))
      go true e ih = rw (e, runs) (ih (opened o x) (goes_on o x g e))
      go false e ih = rw (e, runs) (all_app (shut_longest o x g (omega arith) (λ l. e)) (ih none (stops x e)))

  -- ---- they are of p and c, and rise by their lefts

  pub record Of (e : Edge) : Type 0 where
    pub parent : e.parent ≡ p
    pub child : e.child ≡ c

  shut_of : (o : Option ℕ) (x : ℕ) → All Of (shut p c o x)
  unfolding shut
  shut_of none x = done
  shut_of (some s) x = also (record { parent = refl; child = refl }) done

  pub runs_of_both : (o : Option ℕ) (x k : ℕ) → All Of (runs p c f o x k)
  unfolding runs
  runs_of_both o x zero = shut_of o x
  runs_of_both o x (suc k) = go (f x) refl (λ o'. runs_of_both o' (suc x) k)
    where
      go : (t : Bool) → f x ≡ t → ((o' : Option ℕ) → All Of (runs p c f o' (suc x) k)) → All Of (runs p c f o x (suc k))
      go true e ih = rw (e, runs) (ih (opened o x))
      go false e ih = rw (e, runs) (all_app (shut_of o x) (ih none))

  -- where the next run begins at the earliest
  abbrev earliest : Option ℕ → ℕ → ℕ
  earliest none x = x
  earliest (some s) x = s

  runs_from : (o : Option ℕ) (x k : ℕ) → Going x o → All (λ (e : Edge). earliest o x ≤ e.left) (runs p c f o x k)
  unfolding runs shut opened
  runs_from none x zero g = done
  runs_from (some s) x zero g = let l : s ≤ s = omega arith in also l done
  runs_from o x (suc k) g = go (f x) refl (λ o' g'. runs_from o' (suc x) k g')
    where
      more : (o : Option ℕ) → Going x o → earliest o x ≤ earliest (opened o x) (suc x)
      more none g = omega arith
      more (some s) g = omega arith

      past : (o : Option ℕ) → Going x o → earliest o x ≤ suc x
      past none g = omega arith
      past (some s) (since a b n) = omega arith

      shut_from : (o : Option ℕ) → All (λ (e : Edge). earliest o x ≤ e.left) (shut p c o x)
      shut_from none = done
      shut_from (some s) = let l : s ≤ s = omega arith in also l done

      go : (t : Bool) → f x ≡ t → ((o' : Option ℕ) → Going (suc x) o' → All (λ (e : Edge). earliest o' (suc x) ≤ e.left) (runs p c f o' (suc x) k)) → All (λ (e : Edge). earliest o x ≤ e.left) (runs p c f o x (suc k))
      go true e ih = rw (e, runs) (all_to (λ a l. omega (arith, l, more o g)) (ih (opened o x) (goes_on o x g e)))
      go false e ih = rw (e, runs) (all_app (shut_from o) (all_to (λ a l. omega (arith, l, past o g)) (ih none (stops x e))))

  module _ (lt : Edge → Edge → Bool) (by_left : (a b : Edge) → Of a → Of b → a.left < b.left → lt a b ≡ true) where
    shut_ascending : (o : Option ℕ) (x : ℕ) → Ascending lt (shut p c o x)
    unfolding shut
    shut_ascending none x = empty
    shut_ascending (some s) x = first done empty

    -- what is left of x is below a list from x on
    below_rest : (m : List Edge) → All Of m → (x : ℕ) → All (λ (e : Edge). suc x ≤ e.left) m → (a : Edge) → Of a → a.left ≤ x → All (λ b. lt a b ≡ true) m
    below_rest [] done x done a o l = done
    below_rest (b ∷ m) (also p h) x (also q k) a o l = also (by_left a b o p (omega arith)) (below_rest m h x k a o l)

    pub runs_ascending : (o : Option ℕ) (x k : ℕ) → Going x o → Ascending lt (runs p c f o x k)
    unfolding runs shut
    runs_ascending o x zero g = shut_ascending o x
    runs_ascending o x (suc k) g = go (f x) refl (λ o' g'. runs_ascending o' (suc x) k g')
      where
        shut_below : (o : Option ℕ) → Going x o → (m : List Edge) → All Of m → All (λ (e : Edge). suc x ≤ e.left) m → All (λ a. All (λ b. lt a b ≡ true) m) (shut p c o x)
        shut_below none g m h q = done
        shut_below (some s) (since a b n) m h q = also (below_rest m h x q (record { left = s; right = x; parent = p; child = c }) (record { parent = refl; child = refl }) (omega arith)) done

        go : (t : Bool) → f x ≡ t → ((o' : Option ℕ) → Going (suc x) o' → Ascending lt (runs p c f o' (suc x) k)) → Ascending lt (runs p c f o x (suc k))
        go true e ih = rw (e, runs) (ih (opened o x) (goes_on o x g e))
        go false e ih = rw (e, runs)
            (ascending_app lt (shut p c o x) (runs p c f none (suc x) k) (shut_ascending o x) (ih none (stops x e))
            (shut_below o g (runs p c f none (suc x) k) (runs_of_both none (suc x) k) (runs_from none (suc x) k (stops x e))))
