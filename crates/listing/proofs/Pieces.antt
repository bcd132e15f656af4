-- The pieces of each line, as the code writes them.
use mathlib.Core.Path.{◌≡◌, refl, sym, ap, ◌∙◌}
use mathlib.Core.List.{List, [], ◌∷◌, ◌++◌}
use Prim.Native.Nat.{ℕ}
use borrow.Author.Tests.{eq-eqb, ne_eqb}
use lib.ListN.{length}
use Rattle.meaning.specs.Words.{at}
use Rattle.meaning.specs.Printed.{decimal, rest, line, numbers, lines, out_row, map_line, refused_line}
use Rattle.listing.proofs.Going.{lines_first}

-- ---- a line of numbers, by numbers that equal them

pub two_as : (k : ℕ) {a b a' b' : ℕ} → a ≡ a' → b ≡ b' → numbers k (a ∷ b ∷ []) ≡ numbers k (a' ∷ b' ∷ [])
two_as k e f = cc

pub three_as : (k : ℕ) {a b c a' b' c' : ℕ} → a ≡ a' → b ≡ b' → c ≡ c' → numbers k (a ∷ b ∷ c ∷ []) ≡ numbers k (a' ∷ b' ∷ c' ∷ [])
three_as k e f g = cc

-- the same where the first is a row's own number
pub row_as : (k i : ℕ) {b c d b' c' d' : ℕ} → b ≡ b' → c ≡ c' → d ≡ d' → numbers k (i ∷ b ∷ c ∷ d ∷ []) ≡ numbers k (i ∷ b' ∷ c' ∷ d' ∷ [])
row_as k i f g h = cc

pub four_as : (k : ℕ) {a b c d a' b' c' d' : ℕ} → a ≡ a' → b ≡ b' → c ≡ c' → d ≡ d' → numbers k (a ∷ b ∷ c ∷ d ∷ []) ≡ numbers k (a' ∷ b' ∷ c' ∷ d' ∷ [])
four_as k e f g h = cc

-- ---- the node map's line

pub out_none : (r : ℕ) → r ≡ 4294967295 → out_row r ≡ 45 ∷ []
unfolding out_row
out_none r e = rw (eq-eqb r 4294967295 e, out_row)

pub out_some : (r : ℕ) → (r ≡ 4294967295 → ⊥) → out_row r ≡ decimal r
unfolding out_row
out_some r n = rw (ne_eqb r 4294967295 n, out_row)

pub map_pieces : (rows : List ℕ) (i r : ℕ) → r ≡ at rows i → map_line rows i ≡ (88 ∷ []) ++ ((32 ∷ decimal i) ++ ((32 ∷ []) ++ (out_row r ++ (10 ∷ []))))
unfolding map_line line rest
map_pieces rows i r e = ap (λ (j : ℕ). (88 ∷ []) ++ ((32 ∷ decimal i) ++ ((32 ∷ []) ++ (out_row j ++ (10 ∷ []))))) (sym e)

-- ---- words

abbrev pub single : List ℕ → ℕ → List ℕ
single w j = at w j ∷ []

-- a word is its bytes, one by one
pub word_bytes : (w : List ℕ) → lines (single w) (length w) ≡ w
unfolding lines
word_bytes [] = refl
word_bytes (b ∷ w) = lines_first (single (b ∷ w)) (length w) ∙ ap (λ (l : List ℕ). b ∷ l) (word_bytes w)

abbrev pub refused : List ℕ
refused = 114 ∷ 101 ∷ 102 ∷ 117 ∷ 115 ∷ 101 ∷ 100 ∷ []

pub refused_pieces : (n r : ℕ) → refused_line n r ≡ refused ++ ((32 ∷ decimal n) ++ ((32 ∷ decimal r) ++ (10 ∷ [])))
unfolding refused_line line rest
refused_pieces n r = refl
