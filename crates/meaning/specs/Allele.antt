-- 01, "Allele", with M-103: the state that a fish carries at a site, or that it is missing there.
use Rattle.std.specs.Prelude.{Bool, true, false, not, List, [], ◌∷◌, ℕ, eqb, leb, ltb, length}
use Rattle.std.proofs.Math.Option.{Option, none, some}
use Rattle.meaning.specs.Words.{and, or, mem, any}
use Rattle.meaning.specs.Rows.{Tables, Edge, Mutation, Record, record_of, pos_of, state_of}
use Rattle.meaning.specs.Forest.{Ages, parent_in, near}
use Rattle.meaning.specs.Answer.{Answer, Limits, Stated, done, refuse, accepted, unread}
use Rattle.meaning.specs.Check.{check_then}

-- the mutation is on the fish b at site row i
unfoldable pub sits : ℕ → ℕ → Mutation → Bool
sits i b m = and (eqb m.site i) (eqb m.node b)

-- "the state of its last such row", or other where there is none
unfoldable pub last_state : ℕ → ℕ → List Mutation → ℕ → ℕ
unfolding sits
last_state i b [] other = other
last_state i b (m ∷ l) other = last_state i b l (elim (sits i b m) [ true ↦ m.derived | false ↦ other ])

-- b has a mutation at site row i
unfoldable pub carries : List Mutation → ℕ → ℕ → Bool
unfolding any sits
carries l i b = any (sits i b) l

-- "start at that node and go upwards to the first node with a mutation at the site; .. With none on the way, the answer is the site's ancestral state."
unfoldable pub allele_at : Record → ℕ → ℕ → ℕ
unfolding near parent_in carries last_state pos_of state_of
allele_at R i b = elim (near (parent_in R.edges (pos_of R.sites i)) (carries R.muts i) Ages b) [
  | none ↦ state_of R.sites i
  | some w ↦ last_state i w R.muts (state_of R.sites i)
]

-- ---- M-103: "a node missing at a position where it has no parent, child or mutation of its own"

-- there is one
unfoldable pub found : Option ℕ → Bool
found none = false
found (some p) = true

-- b has a parent at x
unfoldable pub has_parent : List Edge → ℕ → ℕ → Bool
unfolding found parent_in
has_parent l x b = found (parent_in l x b)

-- the edge holds at x, and b is its parent
unfoldable pub under : ℕ → ℕ → Edge → Bool
under x b e = and (eqb e.parent b) (and (leb e.left x) (ltb x e.right))

-- b has a child at x, whether or not that child leads to a sample
unfoldable pub has_child : List Edge → ℕ → ℕ → Bool
unfolding any under
has_child l x b = any (under x b) l

-- b is missing at site row i; a mutation of its own is one at that site
unfoldable pub missing_at : Record → ℕ → ℕ → Bool
unfolding has_parent has_child carries pos_of
missing_at R i b = not (or (has_parent R.edges (pos_of R.sites i) b) (or (has_child R.edges (pos_of R.sites i) b) (carries R.muts i b)))

-- ---- the call

-- an answer with what was read: a state only where the answer is 0 and the fish is not missing
unfoldable pub stated : Answer → Bool → ℕ → Stated
unfolding accepted
stated a missing s = elim (accepted a) [ true ↦ record { answer = a; missing = missing; state = elim missing [ true ↦ 0 | false ↦ s ] } | false ↦ unread a ]

-- "Check 1 to 10; then 41 if the site row doesn't exist (row 0), 42 if the birth number names no node (row 0)."
unfoldable pub allele_answer : Limits → ℕ → Tables → ℕ → ℕ → Answer
unfolding check_then refuse mem
allele_answer m L T i b =
    check_then m L T
    (refuse (leb (length T.sites.position) i) 41 0
    (refuse (not (mem b T.nodes.birth)) 42 0 done))

-- the call
unfoldable pub allele : Limits → ℕ → Tables → ℕ → ℕ → Stated
unfolding stated allele_answer missing_at allele_at record_of
allele m L T i b = stated (allele_answer m L T i b) (missing_at (record_of L T) i b) (allele_at (record_of L T) i b)
