-- Tables 2 and 4 as written: the room that they need, and the result at the fronts of their columns.
use Rattle.std.specs.Prelude.{◌≡◌, ℕ, ◌≤◌, length}
use Rattle.meaning.specs.Rows.{EdgeColumns, MutationColumns, Tables}
use Rattle.meaning.specs.Answer.{limits, put}

-- k edges keep to their limit, and each column has a cell for each of them and of m mutations
pub record RoomForLists (k m : ℕ) (E : EdgeColumns) (M : MutationColumns) : Type 0 where
  pub edges_few : k ≤ limits.edges
  pub left : k ≤ length E.left
  pub right : k ≤ length E.right
  pub parent : k ≤ length E.parent
  pub child : k ≤ length E.child
  pub site : m ≤ length M.site
  pub node : m ≤ length M.node
  pub derived : m ≤ length M.derived

-- the edges and mutations of new stand at the fronts, and cells past them are as they were
pub record ListsWritten (new : Tables) (E E' : EdgeColumns) (M M' : MutationColumns) : Type 0 where
  pub lefts : E'.left ≡ put new.edges.left E.left
  pub rights : E'.right ≡ put new.edges.right E.right
  pub parents : E'.parent ≡ put new.edges.parent E.parent
  pub children : E'.child ≡ put new.edges.child E.child
  pub sites : M'.site ≡ put new.muts.site M.site
  pub nodes : M'.node ≡ put new.muts.node M.node
  pub states : M'.derived ≡ put new.muts.derived M.derived
