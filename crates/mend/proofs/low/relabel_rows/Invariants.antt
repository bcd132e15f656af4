-- `mend::low::relabel_rows` meets its contract: what is done from the row that was come to is done from the first on.
use Rattle.std.proofs.Common.{◌<◌}
use Rattle.ancestry.specs.Column.{older}
use Rattle.mend.proofs.Labelling.{Underway}
use Rattle.mend.proofs.low.relabel_rows.Given as goal

abbrev pub invariant-loop : goal.invariant-loop
invariant-loop l = Underway l.time l.sample l.parent l.count l.fn.low l.low l.w l.q l.v × (older l.time l.v < older l.time l.q)
