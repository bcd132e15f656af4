-- The lent columns that take the edges of the result, before and after a function writes them.
use Rattle.std.specs.Prelude.{◌≡◌, length}
use Rattle.meaning.specs.Rows.{EdgeColumns, edge_table}
use Rattle.cleaner.specs.declared.edges_out.EdgesOut.{EdgesOut}

-- what they hold
abbrev pub written_in : EdgesOut → EdgeColumns
written_in o = edge_table o.left.now o.right.now o.parent.now o.child.now

-- they are the same columns
abbrev pub SameColumns : EdgesOut → EdgesOut → Type 0
SameColumns o o' = (o'.left.ghost_name ≡ o.left.ghost_name) × (o'.right.ghost_name ≡ o.right.ghost_name) × (o'.parent.ghost_name ≡ o.parent.ghost_name) × (o'.child.ghost_name ≡ o.child.ghost_name)

-- each is as long as it was
abbrev pub AsLong : EdgesOut → EdgesOut → Type 0
AsLong o o' = (length o'.left.now ≡ length o.left.now) × (length o'.right.now ≡ length o.right.now) × (length o'.parent.now ≡ length o.parent.now) × (length o'.child.now ≡ length o.child.now)
