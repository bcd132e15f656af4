-- `portions::find_rows` meets its contract: one fish after another.
use mathlib.Core.Path.{◌≡◌}
use lib.ListN.{length}
use Rattle.panel.specs.Whole.{RowsFound}
use Rattle.panel.proofs.portions.find_rows.Given as goal

abbrev pub invariant-loop-a : goal.invariant-loop-a
invariant-loop-a l = record { long : length l.rows ≡ length l.initial.rows; found : RowsFound l.birth l.fish l.base l.a l.rows }
