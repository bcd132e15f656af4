-- Tables whose columns are equally long, as refusals 1 and 20 leave them.
use Rattle.std.specs.Prelude.{◌≡◌, length}
use Rattle.meaning.specs.Rows.{NodeColumns, EdgeColumns, SiteColumns, MutationColumns}

-- times and birth numbers; no rule looks at the populations
pub record EvenAges (N : NodeColumns) : Type 0 where
  pub birth_long : length N.birth ≡ length N.time

pub record EvenEdges (E : EdgeColumns) : Type 0 where
  pub right_long : length E.right ≡ length E.left
  pub parent_long : length E.parent ≡ length E.left
  pub child_long : length E.child ≡ length E.left

pub record EvenSites (P : SiteColumns) : Type 0 where
  pub ancestral_long : length P.ancestral ≡ length P.position

pub record EvenMutations (M : MutationColumns) : Type 0 where
  pub node_long : length M.node ≡ length M.site
  pub derived_long : length M.derived ≡ length M.site
