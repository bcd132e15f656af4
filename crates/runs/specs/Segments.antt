-- 01: "A segment cut at a position inside it gives a front piece and a rest."
use Rattle.std.specs.Prelude.{ℕ}
use Rattle.runs.specs.declared.Segment.{Segment}
use Rattle.runs.specs.declared.Cut.{Cut}

-- the front ends at x and the rest begins there
abbrev pub cut_at : Segment → ℕ → Cut
cut_at s x = record {
  front = record { left = s.left; right = x; row = s.row };
  rest = record { left = x; right = s.right; row = s.row };
}
