-- `runs::settle_row` meets its contract: the open run is left as it is, begun anew, or finished and begun anew.
use mathlib.Core.Path.{ap}
use Rattle.runs.specs.declared.Cut.{Cut}
use Rattle.runs.specs.Promises.{edge_of}
use Rattle.runs.proofs.Settling.{push_ready, row_same, row_opened, row_turned}
use Rattle.runs.proofs.settle_row.Goals as goal

pub returns-then-was-par : goal.returns-then-was-par
returns-then-was-par c = row_same _ _ _ _ _ c.requires.0 c.requires.1 c.if-was-par.true

pub returns-then-was : goal.returns-then-was
returns-then-was c = row_opened _ _ _ _ _ c.requires.0 c.requires.1 c.if-was-par.false c.if-was.true

pub push-requires : goal.push-requires
push-requires c = push_ready _ _ _ _ c.requires.0 c.requires.1 c.if-was.false _ (ap (λ (w : Cut). w.front.row) c.cut-cut.ensures)

pub returns : goal.returns
returns c = row_turned _ _ _ _ _ c.requires.0 c.requires.1 c.if-was-par.false c.if-was.false _ (ap (λ (w : Cut). edge_of w.front c.args.c) c.cut-cut.ensures) _ c.push.ensures
