-- `fill` meets its contract: the spans of the rows gone over are noted.
use mathlib.Core.Path.{◌≡◌}
use lib.ListN.{length}
use Rattle.carrying.proofs.Spanning.{Noted}
use Rattle.carrying.proofs.spans.fill.Given as goal

abbrev pub invariant-loop-e : goal.invariant-loop-e
invariant-loop-e l = record {
  first_long : length l.first ≡ length l.initial.first;
  past_long : length l.past ≡ length l.initial.past;
  noted : Noted l.column l.e l.first l.past;
}
