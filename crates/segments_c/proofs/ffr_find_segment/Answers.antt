-- `ffr_find_segment` meets its contract: none becomes the row that means none.
use Rattle.std.proofs.Common.{ℕ, Option, unwrap_or, ap, ◌∙◌}
use Rattle.segments.specs.Search.{first_cell}
use Rattle.segments_c.proofs.ffr_find_segment.Goals as goal

pub returns : goal.returns
returns c = c.unwrap_or.ensures ∙ ap (λ (r : Option ℕ). unwrap_or r 4294967295) c.find.ensures ∙ first_cell _ _
