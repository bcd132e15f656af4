-- The few words on lists with which everything else is said.
use Rattle.std.specs.Prelude.{Bool, true, false, List, [], ◌∷◌, ◌++◌, ℕ, zero, suc, eqb, ltb, length, get_or, replicate, Option, Some, None}
use Rattle.std.proofs.Math.Option as Math

abbrev pub and : Bool → Bool → Bool
and true b = b
and false b = false

abbrev pub or : Bool → Bool → Bool
or true b = true
or false b = b

-- cell i of a column
abbrev pub at : List ℕ → ℕ → ℕ
at l i = get_or l i 0

unfoldable pub mem : ℕ → List ℕ → Bool
mem a [] = false
mem a (b ∷ l) = elim (eqb a b) [ true ↦ true | false ↦ mem a l ]

unfoldable pub any : {A : Type 0} → (A → Bool) → List A → Bool
any f [] = false
any f (b ∷ l) = elim (f b) [ true ↦ true | false ↦ any f l ]

unfoldable pub count : (ℕ → Bool) → List ℕ → ℕ
count f [] = 0
count f (b ∷ l) = elim (f b) [ true ↦ suc (count f l) | false ↦ count f l ]

unfoldable pub first_of : (ℕ → Bool) → List ℕ → Math.Option ℕ
first_of f [] = Math.none
first_of f (b ∷ l) = elim (f b) [ true ↦ Math.some b | false ↦ first_of f l ]

unfoldable pub filter : {A : Type 0} → (A → Bool) → List A → List A
filter f [] = []
filter f (a ∷ l) = elim (f a) [ true ↦ a ∷ filter f l | false ↦ filter f l ]

-- the place of b in a list that has it
unfoldable pub index_of : ℕ → List ℕ → ℕ
index_of b [] = 0
index_of b (a ∷ l) = elim (eqb b a) [ true ↦ 0 | false ↦ suc (index_of b l) ]

unfoldable pub each : {A : Type 0} → (ℕ → List A) → List ℕ → List A
each f [] = []
each f (a ∷ l) = f a ++ each f l

-- ---- rows counted from 0

-- some row below n passes
unfoldable pub any_below : (ℕ → Bool) → ℕ → Bool
any_below f zero = false
any_below f (suc n) = elim (f n) [ true ↦ true | false ↦ any_below f n ]

-- the lowest of k rows from i that passes, or i + k where none does
unfoldable pub lowest_from : (ℕ → Bool) → ℕ → ℕ → ℕ
lowest_from f i zero = i
lowest_from f i (suc k) = elim (f i) [ true ↦ i | false ↦ lowest_from f (suc i) k ]

-- the lowest row below n that passes, or n where none does
unfoldable pub lowest : (ℕ → Bool) → ℕ → ℕ
unfolding lowest_from
lowest f n = lowest_from f 0 n

-- row r where it is below n, and else none
unfoldable pub row_below : ℕ → ℕ → Option ℕ
row_below n r = elim (ltb r n) [ true ↦ Some r | false ↦ None ]

-- the lowest row below n that passes, where one does
abbrev pub lowest_row : (ℕ → Bool) → ℕ → Option ℕ
lowest_row f n = row_below n (lowest f n)

-- the place of b in a list, where it has it
abbrev pub place_in : ℕ → List ℕ → Option ℕ
place_in b l = row_below (length l) (index_of b l)

-- k rows from i, each made by f
unfoldable pub rows_from : {A : Type 0} → (ℕ → A) → ℕ → ℕ → List A
rows_from f i zero = []
rows_from f i (suc k) = f i ∷ rows_from f (suc i) k

-- n rows, each made by f
unfoldable pub rows : {A : Type 0} → (ℕ → A) → ℕ → List A
unfolding rows_from
rows f n = rows_from f 0 n

-- n cells of 0
unfoldable pub zeros : ℕ → List ℕ
zeros n = replicate n 0

-- ---- order

-- "compared in that order": the first number that differs decides
unfoldable pub lex : List ℕ → List ℕ → Bool
lex [] m = false
lex (a ∷ l) [] = false
lex (a ∷ l) (b ∷ m) = elim (ltb a b) [ true ↦ true | false ↦ elim (eqb a b) [ true ↦ lex l m | false ↦ false ] ]

unfoldable pub insert : {A : Type 0} → (A → A → Bool) → A → List A → List A
insert lt a [] = a ∷ []
insert lt a (b ∷ l) = elim (lt a b) [ true ↦ a ∷ b ∷ l | false ↦ b ∷ insert lt a l ]

unfoldable pub sort : {A : Type 0} → (A → A → Bool) → List A → List A
unfolding insert
sort lt [] = []
sort lt (a ∷ l) = insert lt a (sort lt l)
