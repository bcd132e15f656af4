-- 13 in the order of the tables.
use mathlib.Core.Path.{◌≡◌, refl, sym, ap, ap₂, ◌∙◌}
use mathlib.Core.Bool.{Bool, true, false}
use Prim.Native.Nat.{ℕ, min}
use lib.Dec.{ltb}
use Rattle.meaning.specs.Words.{or}
use Rattle.meaning.specs.Answer.{Answer, answer, done, limits, refuse}

pub refuse_yes : (t : Bool) (n r : ℕ) (rest : Answer) → t ≡ true → refuse t n r rest ≡ answer n r
unfolding refuse
refuse_yes t n r rest e = rw (e, refuse)

pub refuse_no : (t : Bool) (n r : ℕ) (rest : Answer) → t ≡ false → refuse t n r rest ≡ rest
unfolding refuse
refuse_no t n r rest e = rw (e, refuse)

-- the test of one table, as the code makes it
pub tested : (most need room room' : ℕ) (r t : Bool) → r ≡ or (ltb most need) (ltb room need) → room ≡ room' → r ≡ t → or (ltb most need) (ltb room' need) ≡ t
tested most need room room' r t e q f = ap (λ z. or (ltb most need) (ltb z need)) (sym q) ∙ sym e ∙ f
