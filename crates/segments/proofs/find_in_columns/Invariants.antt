-- No segment before i holds x.
use Rattle.std.proofs.Common.{◌≡◌}
use Rattle.segments.specs.Search.{Onward}
use Rattle.segments.specs.Columns.{shortest, segments_of}
use Rattle.segments.proofs.find_in_columns.Given as goal

abbrev pub invariant-loop-i : goal.invariant-loop-i
invariant-loop-i l = (l.n ≡ shortest l.left l.right l.row) × Onward (segments_of l.left l.right l.row) l.x l.i
