-- 01, "A listing, whole": the printed bytes. 32 is the space, 10 the line feed, 45 the `-`, 48 the digit 0.
use Rattle.std.specs.Prelude.{true, false, List, [], ◌∷◌, ◌++◌, map, ℕ, zero, suc, ◌+◌, ◌/◌, ◌%◌, eqb, ltb, length}
use Rattle.meaning.specs.Words.{at}
use Rattle.meaning.specs.Rows.{NodeColumns, EdgeColumns, SiteColumns, MutationColumns, Tables}

-- ---- fields and lines

-- the digits of a number below k, the last digit last, no leading zero; 0 is one digit
unfoldable pub digits : ℕ → ℕ → List ℕ
digits zero n = []
digits (suc k) n = elim (ltb n 10) [ true ↦ (48 + n) ∷ [] | false ↦ digits k (n / 10) ++ ((48 + n % 10) ∷ []) ]

unfoldable pub decimal : ℕ → List ℕ
unfolding digits
decimal n = digits (suc n) n

-- the fields after the first of a line, and its end: "One space parts the fields and each line ends in a line feed."
unfoldable pub rest : List (List ℕ) → List ℕ
rest [] = 10 ∷ []
rest (f ∷ fs) = 32 ∷ (f ++ rest fs)

unfoldable pub line : List ℕ → List (List ℕ) → List ℕ
unfolding rest
line first more = first ++ rest more

-- a line of a letter and numbers
unfoldable pub numbers : ℕ → List ℕ → List ℕ
unfolding line decimal
numbers letter ns = line (letter ∷ []) (map decimal ns)

-- the lines of the rows below n, in order
unfoldable pub lines : (ℕ → List ℕ) → ℕ → List ℕ
lines f zero = []
lines f (suc n) = lines f n ++ f n

-- ---- the rows of each table

-- "N: row, time, birth."; M-106: "The listing's N lines get it as a last field"
unfoldable pub node_line : NodeColumns → ℕ → List ℕ
unfolding numbers
node_line N i = numbers 78 (i ∷ at N.time i ∷ at N.birth i ∷ at N.population i ∷ [])

-- "E: left, right, parent, child."
unfoldable pub edge_line : EdgeColumns → ℕ → List ℕ
unfolding numbers
edge_line E i = numbers 69 (at E.left i ∷ at E.right i ∷ at E.parent i ∷ at E.child i ∷ [])

-- "S: position, state."
unfoldable pub site_line : SiteColumns → ℕ → List ℕ
unfolding numbers
site_line P i = numbers 83 (at P.position i ∷ at P.ancestral i ∷ [])

-- "M: site, node, state."
unfoldable pub mutation_line : MutationColumns → ℕ → List ℕ
unfolding numbers
mutation_line M i = numbers 77 (at M.site i ∷ at M.node i ∷ at M.derived i ∷ [])

-- "output row or `-` for none"
unfoldable pub out_row : ℕ → List ℕ
unfolding decimal
out_row r = elim (eqb r 4294967295) [ true ↦ 45 ∷ [] | false ↦ decimal r ]

-- "X: input row, output row or `-` for none."
unfoldable pub map_line : List ℕ → ℕ → List ℕ
unfolding line decimal out_row
map_line rows i = line (88 ∷ []) (decimal i ∷ out_row (at rows i) ∷ [])

-- ---- the listing of L, tables 1 to 4 and the node map; "Q: L."
unfoldable pub listed : ℕ → Tables → List ℕ → List ℕ
unfolding numbers lines node_line edge_line site_line mutation_line map_line
listed L T rows =
    numbers 81 (L ∷ [])
    ++ (lines (node_line T.nodes) (length T.nodes.time)
    ++ (lines (edge_line T.edges) (length T.edges.left)
    ++ (lines (site_line T.sites) (length T.sites.position)
    ++ (lines (mutation_line T.muts) (length T.muts.site)
    ++ lines (map_line rows) (length rows)))))

-- "on a refusal, `refused`, number, row as one line"
unfoldable pub refused_line : ℕ → ℕ → List ℕ
unfolding line decimal
refused_line number row = line (114 ∷ 101 ∷ 102 ∷ 117 ∷ 115 ∷ 101 ∷ 100 ∷ []) (decimal number ∷ decimal row ∷ [])

-- "With more bytes it prints `too long`"
unfoldable pub too_long : List ℕ
unfolding line
too_long = line (116 ∷ 111 ∷ 111 ∷ []) ((108 ∷ 111 ∷ 110 ∷ 103 ∷ []) ∷ [])
