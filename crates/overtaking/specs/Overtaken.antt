-- Rule 10 by rows: what a site's marks say of the mutations gone over, and what rules 1 and 9 find of the mutations.
use Rattle.std.specs.Prelude.{◌≡◌, refl, Bool, true, List, ℕ, suc, ◌+◌, ◌<◌, ◌≤◌, eqb, length}
use Rattle.std.proofs.Common.{ap}
use Rattle.std.proofs.Math.Path.{fun_ext}
use Rattle.meaning.specs.Words.{and, at, any_below, lowest}
use Rattle.meaning.specs.Rows.{EdgeColumns, MutationColumns, edges_of}
use Rattle.meaning.specs.Forest.{Ages, ancestor}
use Rattle.meaning.specs.Check.{mutation_above, overtakes}
use Rattle.bridge.specs.Parents.{no_row, parent_row}
use Rattle.ancestry.specs.Column.{Rising}
use Rattle.overtaking.specs.Known.{Known, Keeping}
use Rattle.overtaking.specs.Stamps.{stamped, StampedAbove}
use Rattle.overtaking.specs.Sites.{From}

-- v is a proper ancestor, at site row s, of the node of one of the first i mutations at that site
unfoldable pub over : EdgeColumns → List ℕ → List ℕ → List ℕ → ℕ → ℕ → ℕ → Bool
unfolding any_below ancestor parent_row
over E position site node s i v = any_below (λ j. and (eqb (at site j) s) (ancestor (parent_row E (at position s)) v (at node j))) i

-- mutation row i is above an earlier one of its site
unfoldable pub overtaken : EdgeColumns → List ℕ → List ℕ → List ℕ → ℕ → Bool
unfolding over
overtaken E position site node i = over E position site node (at site i) i (at node i)

-- which is rule 10, said of rows
pub rule_10 : (E : EdgeColumns) (position : List ℕ) (M : MutationColumns) (i : ℕ) → overtaken E position M.site M.node i ≡ mutation_above (edges_of (λ r. r) E) position (λ r. r) M i
unfolding overtaken over mutation_above overtakes parent_row
rule_10 E position M i = refl

pub lowest_10 : (E : EdgeColumns) (position : List ℕ) (M : MutationColumns) (n : ℕ) → lowest (overtaken E position M.site M.node) n ≡ lowest (mutation_above (edges_of (λ r. r) E) position (λ r. r) M) n
lowest_10 E position M n = ap (λ f. lowest f n) (fun_ext (rule_10 E position M))

-- what 8 finds of the sites: the positions do not fall
pub record Rightwards (position : List ℕ) : Type 0 where
  pub rise : (s : ℕ) → suc s < length position → at position s ≤ at position (suc s)

-- what 1 and 9 find of the mutations: the rows named exist, and the site rows do not fall
pub record Lined (sites nodes : ℕ) (site node : List ℕ) : Type 0 where
  pub node_long : length node ≡ length site
  pub site_row : (i : ℕ) → i < length site → at site i < sites
  pub node_row : (i : ℕ) → i < length site → at node i < nodes
  pub rise : (i : ℕ) → suc i < length site → at site i ≤ at site (suc i)

-- what rule 10 asks of the nodes, sites and mutations: times fit, and there are at most so many rows as a stamp can number
pub record Ordered (time position site node : List ℕ) : Type 0 where
  pub young : (v : ℕ) → at time v < Ages
  pub rightwards : Rightwards position
  pub lined : Lined (length position) (length time) site node
  pub few : length time ≤ no_row
  pub few_sites : length position ≤ no_row

-- and of the edges and the working columns
pub record Working (time : List ℕ) (E : EdgeColumns) (ends par stamps : List ℕ) : Type 0 where
  pub rising : Rising time E
  pub keeping : Keeping (length time) ends par
  pub stamps_long : length time ≤ length stamps

-- stamps at site row s after the first i mutations: the stamp is the site's row and one; only rows above them have it, and of those all
-- that are no older than the node of a mutation still to come, up to which what is stamped is closed upwards
pub record Ready (time : List ℕ) (E : EdgeColumns) (position site node : List ℕ) (s i : ℕ) (stamps : List ℕ) : Type 0 where
  pub low : (v : ℕ) → at stamps v ≤ s + 1
  pub only : (v : ℕ) → stamped (s + 1) stamps v ≡ true → over E position site node s i v ≡ true
  pub all : (j v : ℕ) → From site s i j → at time v ≤ at time (at node j) → over E position site node s i v ≡ true → stamped (s + 1) stamps v ≡ true
  pub closed : (j : ℕ) → From site s i j → StampedAbove (parent_row E (at position s)) (at time) (s + 1) (at time (at node j)) stamps

-- stamps after mutation row i: ready for the next row, where there is one
pub record ReadyNext (time : List ℕ) (E : EdgeColumns) (position site node : List ℕ) (i : ℕ) (stamps : List ℕ) : Type 0 where
  pub next : suc i < length site → Ready time E position site node (at site (suc i)) (suc i) stamps

-- what is kept before mutation row i, where there is one: the parents known at its site, and its site's stamps
pub record Going (time : List ℕ) (E : EdgeColumns) (position site node : List ℕ) (i : ℕ) (par until stamps : List ℕ) : Type 0 where
  pub known : Known E (at position (at site i)) par until
  pub ready : Ready time E position site node (at site i) i stamps

-- and after it: the same for the next row, where there is one
pub record Gone (time : List ℕ) (E : EdgeColumns) (position site node : List ℕ) (i : ℕ) (par until stamps : List ℕ) : Type 0 where
  pub known : Known E (at position (at site i)) par until
  pub ready : ReadyNext time E position site node i stamps

-- ---- the mutations in another order, with their rows beside them

-- row k is that of a mutation which is above an earlier one of its site
unfoldable pub overtaken_row : EdgeColumns → List ℕ → List ℕ → List ℕ → List ℕ → ℕ → Bool
unfolding any_below overtaken
overtaken_row E position site node row k = any_below (λ i. and (eqb (at row i) k) (overtaken E position site node i)) (length site)
