-- No segment of three columns holds x: there is no row.
use Rattle.std.specs.Prelude.{◌≡◌, List, ℕ, ◌≤◌, length}
use Rattle.std.proofs.Common.{arith}
use Rattle.meaning.specs.Clean.{no_row}
use Rattle.segments.specs.Search.{row_at, Onward, row_missing}
use Rattle.segments.specs.Columns.{shortest, segments_of, length_segments}

pub column_missing : (ls rs ws : List ℕ) (x i : ℕ) → i ≤ shortest ls rs ws → shortest ls rs ws ≤ i → Onward (segments_of ls rs ws) x i → no_row ≡ row_at (segments_of ls rs ws) x
column_missing ls rs ws x i h k s = row_missing (segments_of ls rs ws) x i (omega (arith, length_segments ls rs ws)) (omega (arith, length_segments ls rs ws)) s
