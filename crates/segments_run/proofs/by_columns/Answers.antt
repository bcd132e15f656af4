-- `by_columns` meets its contract: the columns make the array's segments.
use mathlib.Core.Path.{◌≡◌, ap, ◌∙◌}
use mathlib.Core.List.{List}
use native.Mathlib.Omega.{arith}
use lib.ListN.{length}
use Rattle.segments_run.proofs.Three.{three_make}
use Rattle.segments.specs.Search.{first_row}
use Rattle.runs.specs.declared.Segment.{Segment}
use Rattle.segments_run.proofs.by_columns.Goals as goal

pub returns : goal.returns
returns c = let len : length c.args.a ≡ 3 = omega arith in c.find_in_columns.ensures ∙ ap (λ (l : List Segment). first_row l c.args.x) (three_make c.args.a len)
