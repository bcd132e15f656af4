-- Lines of the listing program by hand, by computing the definitions; 01's listing itself is in crate meaning.
use Rattle.std.specs.Prelude.{◌≡◌, refl, [], ◌∷◌}
use Rattle.meaning.specs.Printed.{refused_line, too_long}

pub record ByHand : Type 0 where
  -- `refused 12 1`, as P4 is printed
  pub P4 : refused_line 12 1 ≡ 114 ∷ 101 ∷ 102 ∷ 117 ∷ 115 ∷ 101 ∷ 100 ∷ 32 ∷ 49 ∷ 50 ∷ 32 ∷ 49 ∷ 10 ∷ []
  -- the greatest numbers
  pub widest : refused_line 4294967295 18446744073709551615 ≡ 114 ∷ 101 ∷ 102 ∷ 117 ∷ 115 ∷ 101 ∷ 100 ∷ 32 ∷ 52 ∷ 50 ∷ 57 ∷ 52 ∷ 57 ∷ 54 ∷ 55 ∷ 50 ∷ 57 ∷ 53 ∷ 32 ∷ 49 ∷ 56 ∷ 52 ∷ 52 ∷ 54 ∷ 55 ∷ 52 ∷ 52 ∷ 48 ∷ 55 ∷ 51 ∷ 55 ∷ 48 ∷ 57 ∷ 53 ∷ 53 ∷ 49 ∷ 54 ∷ 49 ∷ 53 ∷ 10 ∷ []
  pub long : too_long ≡ 116 ∷ 111 ∷ 111 ∷ 32 ∷ 108 ∷ 111 ∷ 110 ∷ 103 ∷ 10 ∷ []

pub by_hand : ByHand
unfolding refused_line too_long
by_hand = record { P4 = refl; widest = refl; long = refl }
