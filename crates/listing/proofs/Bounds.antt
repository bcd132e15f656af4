-- How many bytes a listing can have, by its rows.
use mathlib.Core.Path.{◌≡◌, refl, ap}
use mathlib.Core.List.{List, [], ◌∷◌, ◌++◌, map}
use mathlib.Core.Logic.{⊎_elim}
use Prim.Native.Nat.{ℕ, ◌+◌, ◌*◌, ◌<◌, ◌≤◌}
use native.Mathlib.Omega.{arith}
use lib.ListN.{length, length-append}
use Rattle.meaning.specs.Words.{at}
use Rattle.laws.specs.Bools.{eq?}
use Rattle.meaning.specs.Rows.{NodeColumns, EdgeColumns, SiteColumns, MutationColumns, Tables}
use Rattle.meaning.specs.Printed.{decimal, rest, line, numbers, lines, node_line, edge_line, site_line, mutation_line, out_row, map_line, listed, refused_line}
use Rattle.listing.specs.Written.{room, Below, Narrow}
use Rattle.listing.proofs.Digits.{few_digits}
use Rattle.listing.proofs.Going.{lines_most}
use Rattle.listing.proofs.Pieces.{out_none, out_some, map_pieces, refused_pieces}

word_digits : (n : ℕ) → n < 4294967296 → length (decimal n) ≤ 10
word_digits n h = few_digits 9 n (omega arith)

stock_digits : (n : ℕ) → n < 65536 → length (decimal n) ≤ 5
stock_digits n h = few_digits 4 n (omega arith)

state_digits : (n : ℕ) → n < 256 → length (decimal n) ≤ 3
state_digits n h = few_digits 2 n (omega arith)

row_digits : (n : ℕ) → n < 18446744073709551616 → length (decimal n) ≤ 20
row_digits n h = few_digits 19 n (omega arith)

-- a line's bytes, number by number
numbers_one : (k a : ℕ) → length (numbers k (a ∷ [])) ≡ 3 + length (decimal a)
unfolding numbers line rest
numbers_one k a = omega (arith, length-append (decimal a) (10 ∷ []))

numbers_also : (k a b : ℕ) (ns : List ℕ) → length (numbers k (a ∷ b ∷ ns)) ≡ 1 + length (decimal a) + length (numbers k (b ∷ ns))
unfolding numbers line rest
numbers_also k a b ns = omega (arith, length-append (decimal a) (rest (map decimal (b ∷ ns))))

node_most : (N : NodeColumns) (i : ℕ) → i < 18446744073709551616 → at N.time i < 4294967296 → at N.birth i < 4294967296 → at N.population i < 65536 → length (node_line N i) ≤ 51
unfolding node_line
node_most N i h a b d =
    let t : ℕ = at N.time i in
    let u : ℕ = at N.birth i in
    let p : ℕ = at N.population i in
    omega (arith, numbers_also 78 i t (u ∷ p ∷ []), numbers_also 78 t u (p ∷ []), numbers_also 78 u p [], numbers_one 78 p, row_digits i h, word_digits t a, word_digits u b, stock_digits p d)

edge_most : (E : EdgeColumns) (i : ℕ) → at E.left i < 4294967296 → at E.right i < 4294967296 → at E.parent i < 4294967296 → at E.child i < 4294967296 → length (edge_line E i) ≤ 46
unfolding edge_line
edge_most E i a b c d =
    let l : ℕ = at E.left i in
    let r : ℕ = at E.right i in
    let p : ℕ = at E.parent i in
    let q : ℕ = at E.child i in
    omega (arith, numbers_also 69 l r (p ∷ q ∷ []), numbers_also 69 r p (q ∷ []), numbers_also 69 p q [], numbers_one 69 q, word_digits l a, word_digits r b, word_digits p c, word_digits q d)

site_most : (P : SiteColumns) (i : ℕ) → at P.position i < 4294967296 → at P.ancestral i < 256 → length (site_line P i) ≤ 17
unfolding site_line
site_most P i a b =
    let x : ℕ = at P.position i in
    let s : ℕ = at P.ancestral i in
    omega (arith, numbers_also 83 x s [], numbers_one 83 s, word_digits x a, state_digits s b)

mutation_most : (M : MutationColumns) (i : ℕ) → at M.site i < 4294967296 → at M.node i < 4294967296 → at M.derived i < 256 → length (mutation_line M i) ≤ 28
unfolding mutation_line
mutation_most M i a b d =
    let j : ℕ = at M.site i in
    let u : ℕ = at M.node i in
    let s : ℕ = at M.derived i in
    omega (arith, numbers_also 77 j u (s ∷ []), numbers_also 77 u s [], numbers_one 77 s, word_digits j a, word_digits u b, state_digits s d)

out_most : (r : ℕ) → r < 4294967296 → length (out_row r) ≤ 10
out_most r h = ⊎_elim (λ (q : r ≡ 4294967295). omega (arith, ap length (out_none r q))) (λ (q : r ≡ 4294967295 → ⊥). omega (arith, ap length (out_some r q), word_digits r h)) (eq? r 4294967295)

map_most : (rows : List ℕ) (i : ℕ) → i < 18446744073709551616 → at rows i < 4294967296 → length (map_line rows i) ≤ 34
map_most rows i h a =
    let r : ℕ = at rows i in
    omega (arith, ap length (map_pieces rows i r refl), length-append (32 ∷ decimal i) ((32 ∷ []) ++ (out_row r ++ (10 ∷ []))), length-append (out_row r) (10 ∷ []), row_digits i h, out_most r a)

-- ---- the whole

-- the listing from each kind of line on
abbrev pub from_mutations : Tables → List ℕ → List ℕ
from_mutations T rows = lines (mutation_line T.muts) (length T.muts.site) ++ lines (map_line rows) (length rows)

abbrev pub from_sites : Tables → List ℕ → List ℕ
from_sites T rows = lines (site_line T.sites) (length T.sites.position) ++ from_mutations T rows

abbrev pub from_edges : Tables → List ℕ → List ℕ
from_edges T rows = lines (edge_line T.edges) (length T.edges.left) ++ from_sites T rows

abbrev pub from_nodes : Tables → List ℕ → List ℕ
from_nodes T rows = lines (node_line T.nodes) (length T.nodes.time) ++ from_edges T rows

pub listed_pieces : (L : ℕ) (T : Tables) (rows : List ℕ) → listed L T rows ≡ numbers 81 (L ∷ []) ++ from_nodes T rows
unfolding listed
listed_pieces L T rows = refl

pub listed_most : (L : ℕ) (T : Tables) (rows : List ℕ) → L < 4294967296 → Narrow T → Below 4294967296 rows → length T.nodes.time < 18446744073709551616 → length rows < 18446744073709551616 → length (listed L T rows) ≤ room (length T.nodes.time) (length T.edges.left) (length T.sites.position) (length T.muts.site) (length rows)
listed_most L T rows h n m a b =
    let N : List ℕ = lines (node_line T.nodes) (length T.nodes.time) in
    let E : List ℕ = lines (edge_line T.edges) (length T.edges.left) in
    let S : List ℕ = lines (site_line T.sites) (length T.sites.position) in
    let M : List ℕ = lines (mutation_line T.muts) (length T.muts.site) in
    let X : List ℕ = lines (map_line rows) (length rows) in
    let hn : length N ≤ length T.nodes.time * 51 = lines_most (node_line T.nodes) 51 (length T.nodes.time) (λ i l. node_most T.nodes i (omega arith) (n.time i) (n.birth i) (n.population i)) in
    let he : length E ≤ length T.edges.left * 46 = lines_most (edge_line T.edges) 46 (length T.edges.left) (λ i l. edge_most T.edges i (n.left i) (n.right i) (n.parent i) (n.child i)) in
    let hs : length S ≤ length T.sites.position * 17 = lines_most (site_line T.sites) 17 (length T.sites.position) (λ i l. site_most T.sites i (n.position i) (n.ancestral i)) in
    let hm : length M ≤ length T.muts.site * 28 = lines_most (mutation_line T.muts) 28 (length T.muts.site) (λ i l. mutation_most T.muts i (n.site i) (n.node i) (n.derived i)) in
    let hx : length X ≤ length rows * 34 = lines_most (map_line rows) 34 (length rows) (λ i l. map_most rows i (omega arith) (m i)) in
    omega (arith, ap length (listed_pieces L T rows), length-append (numbers 81 (L ∷ [])) (from_nodes T rows), length-append N (from_edges T rows), length-append E (from_sites T rows), length-append S (from_mutations T rows), length-append M X, numbers_one 81 L, word_digits L h)

pub refused_most : (n r : ℕ) → n < 4294967296 → r < 18446744073709551616 → length (refused_line n r) ≤ 40
refused_most n r a b = omega (arith, ap length (refused_pieces n r), length-append (32 ∷ decimal n) ((32 ∷ decimal r) ++ (10 ∷ [])), length-append (32 ∷ decimal r) (10 ∷ []), word_digits n a, row_digits r b)
