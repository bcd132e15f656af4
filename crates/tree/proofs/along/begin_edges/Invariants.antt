-- `tree::sweep::begin_edges` meets its contract: each turn begins the edge at the cursor.
use mathlib.Core.Path.{◌≡◌}
use Prim.Native.Nat.{◌+◌}
use lib.ListN.{length}
use Rattle.mend.specs.Kept.{Kept}
use Rattle.mend.specs.Listing.{Noted}
use Rattle.tree.specs.Sweep.{Between}
use Rattle.tree.proofs.along.begin_edges.Given as goal

abbrev pub invariant-loop-i : goal.invariant-loop-i
invariant-loop-i l = Kept l.time l.sample l.parent l.count l.sum l.low l.up × Between l.edges.left.now l.edges.right.now l.edges.parent.now l.edges.child.now l.bl l.br l.parent l.i l.j l.x (l.x + 1) (l.x + 1) (l.x + 1) × Noted (length l.initial.up) l.initial.up l.up l.initial.touched l.initial.listed l.touched l.listed l.k0 l.k × (length l.parent ≡ length l.initial.parent) × (length l.count ≡ length l.initial.count) × (length l.sum ≡ length l.initial.sum) × (length l.up ≡ length l.initial.up) × (length l.touched ≡ length l.initial.touched) × (length l.listed ≡ length l.initial.listed) × (length l.low ≡ length l.initial.low)
