-- `sooner` meets its contract: the end, or the begin of an edge of u that begins after x and before it.
use native.Mathlib.Omega.{arith}
use Rattle.carrying.proofs.Childless.{other_edge, begun_edge, begin_first}
use Rattle.carrying.proofs.kids.sooner.Goals as goal

pub returns-then-edges-e : goal.returns-then-edges-e
returns-then-edges-e c = other_edge c.if-edges-e.true

pub returns-then-begin-x : goal.returns-then-begin-x
returns-then-begin-x c = begun_edge c.if-begin-x.true

pub returns : goal.returns
returns c = begin_first (omega arith)
