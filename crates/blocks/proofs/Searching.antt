-- Whether some row passes, as a search finds it, and what the two lists tell by it.
use mathlib.Core.Path.{◌≡◌, refl, sym}
use mathlib.Core.Bool.{Bool, true, false, not}
use mathlib.Core.List.{List}
use Prim.Native.Nat.{ℕ, ◌<◌}
use native.Mathlib.Omega.{arith}
use lib.Dec.{leb}
use lib.ListN.{length}
use borrow.Author.Tests.{leb-true, leb-false}
use Rattle.std.specs.Bool.{MatchBool}
use Rattle.std.specs.List.{HoldsAt, AllWithin}
use Rattle.meaning.specs.Words.{at, mem, any_below}
use Rattle.laws.specs.Bools.{clash, not_no, not_of}
use Rattle.laws.specs.Counting.{below_of, of_below}
use Rattle.blocks.specs.Lists.{AllThere, FirstIs, at_later_site, at_later_fish}
use Rattle.meaning.specs.declared.Refusal.TheVariants.{NoSite, NoBirth}

-- no row below n passes
none_of : (f : ℕ → Bool) (n : ℕ) → any_below f n ≡ false → (e : ℕ) → e < n → f e ≡ false
none_of f n h e l = go (f e) refl
  where
    go : (t : Bool) → f e ≡ t → f e ≡ false
    go true q = absurd (clash (of_below f n e l q) h)
    go false q = q

-- what a search through a list answers
pub any_told : (f : ℕ → Bool) (xs : List ℕ) (r : Bool) → MatchBool r ((k : ℕ) × (k < length xs) × HoldsAt (λ x. f x ≡ true) xs k) (AllWithin (λ x. f x ≡ false) xs 0 (length xs)) → r ≡ any_below (λ j. f (at xs j)) (length xs)
any_told f xs true w = sym (of_below (λ j. f (at xs j)) (length xs) w.0 w.1 (w.2 0))
any_told f xs false h = go (any_below (λ j. f (at xs j)) (length xs)) refl
  where
    go : (t : Bool) → any_below (λ j. f (at xs j)) (length xs) ≡ t → false ≡ any_below (λ j. f (at xs j)) (length xs)
    go true q = let w : (j : ℕ) × (j < length xs) × (f (at xs j) ≡ true) = below_of (λ j. f (at xs j)) (length xs) q in absurd (clash w.2 (h w.0 0 (omega arith) w.1))
    go false q = sym q

-- ---- the two lists

module _ (most : ℕ) (birth sites fish : List ℕ) where
  abbrev pub no_site : ℕ → Bool
  no_site j = leb most (at sites j)

  abbrev pub no_birth : ℕ → Bool
  no_birth a = not (mem (at fish a) birth)

  known_of : (b : ℕ) → not (mem b birth) ≡ false → mem b birth ≡ true
  known_of b e = not_no (mem b birth) e

  sites_of : any_below no_site (length sites) ≡ false → (j : ℕ) → j < length sites → at sites j < most
  sites_of h j l = leb-false most (at sites j) (none_of no_site (length sites) h j l)

  pub some_site_missing : 0 < length fish → not (mem (at fish 0) birth) ≡ false → any_below no_site (length sites) ≡ true → FirstIs most birth sites fish NoSite
  some_site_missing p k h = let w : (j : ℕ) × (j < length sites) × (no_site j ≡ true) = below_of no_site (length sites) h in
      at_later_site most birth sites fish w.0 p (known_of (at fish 0) k) w.1 (leb-true most (at sites w.0) w.2)

  pub some_fish_unknown : 0 < length sites → any_below no_site (length sites) ≡ false → any_below no_birth (length fish) ≡ true → FirstIs most birth sites fish NoBirth
  some_fish_unknown p h k = let w : (a : ℕ) × (a < length fish) × (no_birth a ≡ true) = below_of no_birth (length fish) k in
      at_later_fish most birth sites fish w.0 p (sites_of h) w.1 (not_of (mem (at fish w.0) birth) w.2)

  pub all_there : any_below no_site (length sites) ≡ false → any_below no_birth (length fish) ≡ false → AllThere most birth sites fish
  all_there h k = record { sites_there = sites_of h; fish_known = λ a l. known_of (at fish a) (none_of no_birth (length fish) k a l) }
