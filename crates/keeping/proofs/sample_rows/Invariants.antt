-- `keeping::sample_rows` meets its contract: the rows of the samples passed stand at the front, and are marked.
use mathlib.Core.Path.{◌≡◌}
use Prim.Native.Nat.{◌≤◌, ◌-◌}
use lib.ListN.{length, take}
use Rattle.meaning.specs.Answer.{put}
use Rattle.byrows.specs.Rows.{sample_rows}
use Rattle.keeping.proofs.Cells.{Marked}
use Rattle.keeping.proofs.sample_rows.Given as goal

abbrev pub invariant-loop-i : goal.invariant-loop-i
invariant-loop-i l = (length l.srow ≡ length l.initial.srow) × (length l.sample ≡ length l.initial.sample) × (l.srow ≡ put (take l.i (sample_rows l.birth l.samples)) l.initial.srow) × Marked l.sample (take l.i (sample_rows l.birth l.samples))
