-- 01, "Check, in this order; then the lowest row": the refusals 1 to 12. Each rule is a test of one row.
use Rattle.std.specs.Prelude.{Bool, true, false, not, List, [], ◌∷◌, ℕ, zero, suc, eqb, leb, ltb, length}
use Rattle.meaning.specs.Words.{and, or, at, mem, any_below, lex}
use Rattle.meaning.specs.Rows.{NodeColumns, EdgeColumns, MutationColumns, Tables, Edge, edges_of}
use Rattle.meaning.specs.Forest.{parent_in, ancestor}
use Rattle.meaning.specs.Answer.{Answer, Limits, done, longest, refuse, refuse_row, ragged}

-- 4: "a birth number equals that of an earlier node row"; 12: "a sample equals an earlier one"
unfoldable pub repeated : List ℕ → ℕ → Bool
unfolding any_below
repeated l i = any_below (λ j. eqb (at l j) (at l i)) i

-- 5: "a row named doesn't exist, left >= right, right > L, or the parent isn't older than the child"
unfoldable pub edge_broken : ℕ → List ℕ → EdgeColumns → ℕ → Bool
edge_broken L time E i =
    or (leb (length time) (at E.parent i))
    (or (leb (length time) (at E.child i))
    (or (leb (at E.right i) (at E.left i))
    (or (ltb L (at E.right i))
    (leb (at time (at E.parent i)) (at time (at E.child i))))))

-- the edge key of row i
unfoldable pub key_of : NodeColumns → EdgeColumns → ℕ → List ℕ
key_of N E i = at N.time (at E.parent i) ∷ at N.birth (at E.parent i) ∷ at N.birth (at E.child i) ∷ at E.left i ∷ []

-- 6: "an edge key isn't above that of the row before"
unfoldable pub edge_unordered : NodeColumns → EdgeColumns → ℕ → Bool
unfolding lex key_of
edge_unordered N E zero = false
edge_unordered N E (suc i) = not (lex (key_of N E i) (key_of N E (suc i)))

-- two edges of one child share a position
unfoldable pub share : EdgeColumns → ℕ → ℕ → Bool
share E j i =
    and (eqb (at E.child j) (at E.child i))
    (and (ltb (at E.left j) (at E.right i)) (ltb (at E.left i) (at E.right j)))

-- 7: "an edge shares a position with an earlier edge of the same child"
unfoldable pub edge_shared : EdgeColumns → ℕ → Bool
unfolding any_below share
edge_shared E i = any_below (λ j. share E j i) i

-- the number of row i isn't above that of the row before
unfoldable pub not_above : List ℕ → ℕ → Bool
not_above l zero = false
not_above l (suc i) = leb (at l (suc i)) (at l i)

-- 8: "site position >= L, or not above the one before"
unfoldable pub site_broken : ℕ → List ℕ → ℕ → Bool
unfolding not_above
site_broken L position i = or (leb L (at position i)) (not_above position i)

-- the number of row i is below that of the row before
unfoldable pub falls : List ℕ → ℕ → Bool
falls l zero = false
falls l (suc i) = ltb (at l (suc i)) (at l i)

-- 9: "a row named doesn't exist, or its site row is below that of the row before"; there are sites and nodes so many
unfoldable pub mutation_broken : ℕ → ℕ → MutationColumns → ℕ → Bool
unfolding falls
mutation_broken sites nodes M i =
    or (leb sites (at M.site i))
    (or (leb nodes (at M.node i)) (falls M.site i))

-- at one site, mutation i's node is a proper ancestor of mutation j's node at the site's position
unfoldable pub overtakes : List Edge → List ℕ → (ℕ → ℕ) → MutationColumns → ℕ → ℕ → Bool
unfolding ancestor parent_in
overtakes edges position name M i j =
    and (eqb (at M.site j) (at M.site i))
    (ancestor (parent_in edges (at position (at M.site i))) (name (at M.node i)) (name (at M.node j)))

-- 10: "a mutation's node is a proper ancestor, at its site's position, of the node of an earlier mutation at that site"
unfoldable pub mutation_above : List Edge → List ℕ → (ℕ → ℕ) → MutationColumns → ℕ → Bool
unfolding any_below overtakes
mutation_above edges position name M i = any_below (λ j. overtakes edges position name M i j) i

-- 11: "a sample names no node"
unfoldable pub sample_unknown : List ℕ → List ℕ → ℕ → Bool
unfolding mem
sample_unknown birth samples i = not (mem (at samples i) birth)

-- ---- the order of the rules

-- 1 and 2 for table t with these columns and this limit; the first column counts the rows
abbrev pub differs : ℕ → List (List ℕ) → Answer → Answer
differs t cs rest = refuse (ragged cs) 1 t rest

abbrev pub too_many : ℕ → ℕ → List ℕ → Answer → Answer
too_many t most c rest = refuse (ltb most (length c)) 2 t rest

-- 3: "L is 0 or above 1,073,741,824"
unfoldable pub length_broken : ℕ → Bool
length_broken L = or (eqb L 0) (ltb longest L)

-- 1 for tables 1 to 4; the samples are one column
unfoldable pub shapes : Tables → Answer → Answer
unfolding refuse ragged
shapes T rest =
    differs 1 (T.nodes.time ∷ T.nodes.birth ∷ T.nodes.population ∷ [])
    (differs 2 (T.edges.left ∷ T.edges.right ∷ T.edges.parent ∷ T.edges.child ∷ [])
    (differs 3 (T.sites.position ∷ T.sites.ancestral ∷ [])
    (differs 4 (T.muts.site ∷ T.muts.node ∷ T.muts.derived ∷ []) rest)))

-- 2 for tables 1 to 4
unfoldable pub sizes : Limits → Tables → Answer → Answer
unfolding refuse
sizes m T rest =
    too_many 1 m.nodes T.nodes.time
    (too_many 2 m.edges T.edges.left
    (too_many 3 m.sites T.sites.position
    (too_many 4 m.mutations T.muts.site rest)))

-- 4 to 7
unfoldable pub tree_rules : ℕ → NodeColumns → EdgeColumns → Answer → Answer
unfolding refuse_row repeated edge_broken edge_unordered edge_shared
tree_rules L N E rest =
    refuse_row 4 (repeated N.birth) (length N.birth)
    (refuse_row 5 (edge_broken L N.time E) (length E.left)
    (refuse_row 6 (edge_unordered N E) (length E.left)
    (refuse_row 7 (edge_shared E) (length E.left) rest)))

-- 8 to 10
unfoldable pub site_rules : ℕ → Tables → Answer → Answer
unfolding refuse_row site_broken mutation_broken mutation_above edges_of
site_rules L T rest =
    refuse_row 8 (site_broken L T.sites.position) (length T.sites.position)
    (refuse_row 9 (mutation_broken (length T.sites.position) (length T.nodes.time) T.muts) (length T.muts.site)
    (refuse_row 10 (mutation_above (edges_of (at T.nodes.birth) T.edges) T.sites.position (at T.nodes.birth) T.muts) (length T.muts.site) rest))

-- 3 to 10
unfoldable pub rules : ℕ → Tables → Answer → Answer
unfolding refuse length_broken tree_rules site_rules
rules L T rest = refuse (length_broken L) 3 0 (tree_rules L T.nodes T.edges (site_rules L T rest))

-- 1 to 10, for an allele and for the base of a join, and then what comes after
unfoldable pub check_then : Limits → ℕ → Tables → Answer → Answer
unfolding shapes sizes rules
check_then m L T rest = shapes T (sizes m T (rules L T rest))

-- 11 and 12
unfoldable pub sample_rules : List ℕ → List ℕ → Answer → Answer
unfolding refuse_row sample_unknown repeated
sample_rules birth S rest =
    refuse_row 11 (sample_unknown birth S) (length S)
    (refuse_row 12 (repeated S) (length S) rest)

-- 1 to 12, for the check and for cleaning, and then what comes after; the samples are table 5
unfoldable pub check_all_then : Limits → ℕ → Tables → List ℕ → Answer → Answer
unfolding shapes sizes rules sample_rules refuse
check_all_then m L T S rest = shapes T (sizes m T (too_many 5 m.samples S (rules L T (sample_rules T.nodes.birth S rest))))

-- "The check alone answers 1 to 12 and writes no table."
unfoldable pub check : Limits → ℕ → Tables → List ℕ → Answer
unfolding check_all_then
check m L T S = check_all_then m L T S done
